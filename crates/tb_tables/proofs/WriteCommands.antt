-- From the calls inside a transaction to the command.
use Rattle.std.proofs.Common.{◌≡◌, true, false, IsTrue, refl, sym, ap, subst, ◌∙◌, inl, inr, arith, Result, Ok, Err, OnErr}
use Rattle.sqlite.specs.Store.{Ghosts}
use Rattle.sqlite.specs.Effect.{Database}
use Rattle.sqlite.specs.Tree.{Trees}
use Rattle.sqlite.specs.Held.{Held, state}
use Rattle.sqlite.specs.State.{State, HasCleanDisk, KeepsCommit, IsRolledBack, Shows, Survives}
use Rattle.sqlite.specs.Steps.{FailsToCommit}
use Rattle.sqlite.specs.declared.error.Error.{Error}
use Rattle.sqlite.proofs.StateLemmas.{survives_then}
use Rattle.sqlite.proofs.Callers.{survives_begin}
use Rattle.tb_tables.specs.Records.{Tables, AreStored}
use Rattle.tb_tables.specs.Changes.{IsInside, Changes, Holds}

pub on_err : {T E : Type 0} {X : Type 0} (r : Result T E) → X → OnErr r X
on_err (Ok t) x = tt
on_err (Err e) x = x

pub kept_then : (a b c : State) → KeepsCommit a b → KeepsCommit b c → KeepsCommit a c
kept_then a b c p q = record {
  was_open = λ h. p.was_open (q.was_open h);
  committed = λ h. q.committed h ∙ p.committed (q.was_open h);
}

pub changes_then : (a b c : State) (d e f : Tables) → Changes a b d e → Changes b c e f → Changes a c d f
changes_then a b c d e f p q = record { inside = q.inside; committed = q.committed ∙ p.committed; stands = λ s. q.stands (p.stands s); rowids = λ n h. q.rowids n (p.rowids n h) }

module _ {S : Type 0} (g : Ghosts S) (old begun last end : Held S) (begins : begun ≡ record old { in_transaction = true }) where
  -- as `transaction` leaves it
  pub begins_inside : (d : Tables) → Holds g old d → IsInside (state g begun) × AreStored d (state g begun).now.trees
  begins_inside d h = rw begins (record { begun = refl; schema = h.schema }, h.stands)

  pub committed_holds : (d after : Tables) → Holds g old d → Changes (state g begun) (state g last) d after → end.in_transaction ≡ false
      → Shows (state g last) (state g end) (state g last).now (state g last).now false → Holds g end after
  committed_holds d after h made ended shows = record {
    autocommit = ended;
    is_open = shows.is_open;
    schema = ap (λ (b : Database). b.schema) shows.now_is ∙ made.inside.schema;
    settled = shows.committed_is ∙ sym shows.now_is;
    stands = subst (λ (b : Database). AreStored after b.trees) (sym shows.now_is) (made.stands (begins_inside d h).1);
  }

  pub undone_holds : (d : Tables) → Holds g old d → KeepsCommit (state g begun) (state g last) → end.in_transaction ≡ false → IsTrue (state g end).is_open
      → IsRolledBack (state g last) (state g end) → Holds g end d
  undone_holds d h kept ended opened back =
      let before = back.undone opened in
      let reported = rw begins at kept in
      let same : (state g last).committed ≡ (state g old).now = reported.committed (back.was_open opened) ∙ h.settled in
      record {
        autocommit = ended;
        is_open = opened;
        schema = ap (λ (b : Database). b.schema) (before.0 ∙ same) ∙ h.schema;
        settled = before.1 ∙ sym before.0;
        stands = subst (λ (b : Database). AreStored d b.trees) (sym (before.0 ∙ same)) h.stands;
      }

  pub failed_back : (e : Error) → IsTrue (state g last).in_transaction → FailsToCommit (state g last) (state g end) e → IsRolledBack (state g last) (state g end)
  failed_back e begun (inl fails) = fails.3
  failed_back e begun (inr late) = absurd (let x = begun in let y = late.1 in cc)

  -- a commit that fails leaves the records of before
  pub failed_holds : (e : Error) (d : Tables) → Holds g old d → KeepsCommit (state g begun) (state g last) → (IsInside (state g begun) → IsInside (state g last))
      → end.in_transaction ≡ false → IsTrue (state g end).is_open → FailsToCommit (state g last) (state g end) e → Holds g end d
  failed_holds e d h kept inside ended opened fails =
      undone_holds d h kept ended opened (failed_back e (inside (begins_inside d h).0).begun fails)

  -- a crash leaves what was there, or what the commit wrote
  pub command_survives : (P : Trees → Type 0) → Survives (state g begun) (state g last) (λ _. ⊥) → Survives (state g last) (state g end) (λ db. db ≡ (state g last).now.trees)
      → (HasCleanDisk (state g last) → P (state g last).now.trees) → Survives (state g old) (state g end) P
  command_survives P inside commit written =
      let before = survives_begin g old (state g last) _ (rw begins at inside) in
      let commits : HasCleanDisk (state g end) → (db : Trees) → db ≡ (state g last).now.trees → P db =
      λ clean db is. let was : HasCleanDisk (state g last) = omega (arith, commit.clean) in subst P (sym is) (written was) in
      survives_then (state g old) (state g last) (state g end) _ _ P (λ _ db none. absurd none) commits before commit
