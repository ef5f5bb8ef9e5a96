-- The transaction, from its begin to its end.
use Rattle.std.proofs.Common.{◌≡◌, [], true, IsTrue, refl, sym, ap, subst, ◌∙◌}
use Rattle.sqlite.specs.Store.{Ghosts}
use Rattle.sqlite.specs.Effect.{Database}
use Rattle.sqlite.specs.Held.{Held, state}
use Rattle.sqlite.specs.State.{HasCleanDisk, IsRolledBack, IsUnchanged, Survives}
use Rattle.sqlite.proofs.Callers.{survives_begin}
use Rattle.sqlite.proofs.StateLemmas.{survives_then}
use Rattle.sqlite_trees.specs.Tree.{Trees}
use Rattle.tb_tables.specs.Records.{Tables, AreStored}
use Rattle.tb_verify.specs.Version1.{AreStoredInVersion1, IsInsideFirst, HoldsFirst}

module _ {S : Type 0} (g : Ghosts S) where
  -- as `transaction` leaves it
  pub first_begins : (old begun : Held S) (d : Tables) → begun ≡ record old { in_transaction = true } → HoldsFirst g old d → IsInsideFirst (state g begun) × AreStoredInVersion1 d (state g begun).now.trees
  first_begins old begun d is h = rw is (record { begun = refl; schema = h.schema }, h.stands)

  pub first_unchanged : (old new : Held S) (d : Tables) → HoldsFirst g old d → IsUnchanged (state g old) (state g new) → HoldsFirst g new d
  first_unchanged old new d h same = record {
    autocommit = same.0.mode ∙ h.autocommit;
    is_open = same.0.is_open;
    schema = ap (λ (b : Database). b.schema) same.0.now_is ∙ h.schema;
    settled = same.0.committed_is ∙ h.settled ∙ sym same.0.now_is;
    stands = subst (λ (b : Database). AreStoredInVersion1 d b.trees) (sym same.0.now_is) h.stands;
  }

  -- outside a transaction
  pub first_undone : (old new : Held S) (d : Tables) → HoldsFirst g old d → IsTrue (state g new).is_open → IsRolledBack (state g old) (state g new) → HoldsFirst g new d
  first_undone old new d h opened back =
      let before = back.undone opened in record {
        autocommit = back.autocommit;
        is_open = opened;
        schema = ap (λ (b : Database). b.schema) (before.0 ∙ h.settled) ∙ h.schema;
        settled = before.1 ∙ sym before.0;
        stands = subst (λ (b : Database). AreStoredInVersion1 d b.trees) (sym (before.0 ∙ h.settled)) h.stands;
      }

-- the tables of the desk, whole
abbrev pub LeavesDesk : {S : Type 0} (g : Ghosts S) → Held S → Trees → Type 0
LeavesDesk g old db = (d : Tables) → d.pulled ≡ [] → HoldsFirst g old d → AreStored d db

pub crashes_whole : {S : Type 0} (g : Ghosts S) (old begun last end : Held S) → begun ≡ record old { in_transaction = true } → Survives (state g begun) (state g last) (λ _. ⊥)
    → Survives (state g last) (state g end) (λ db. db ≡ (state g last).now.trees) → (HasCleanDisk (state g end) → (d : Tables) → d.pulled ≡ [] → HoldsFirst g old d → AreStored d (state g last).now.trees)
    → Survives (state g old) (state g end) (LeavesDesk g old)
crashes_whole g old begun last end is changes commits made =
    survives_then (state g old) (state g last) (state g end) _ _ (LeavesDesk g old) (λ _ _ none. absurd none) (λ clean db this d unpulled holds. subst (AreStored d) (sym this) (made clean d unpulled holds))
    (survives_begin g old (state g last) (λ _. ⊥) (subst (λ h. Survives (state g h) (state g last) (λ _. ⊥)) is changes)) commits
