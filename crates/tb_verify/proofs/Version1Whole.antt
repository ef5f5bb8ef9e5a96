-- The desk of version 1 that was read, and what becomes of it.
use Rattle.std.proofs.Common.{◌≡◌, [], sym, subst, arith}
use Rattle.sqlite.specs.Store.{Ghosts}
use Rattle.sqlite.specs.Held.{Held, state}
use Rattle.sqlite.specs.State.{HasCleanDisk, IsUnchanged, Survives}
use Rattle.sqlite.proofs.StateLemmas.{survives_then}
use Rattle.tb_core.specs.Machine.{Machine}
use Rattle.tb_core.specs.Reaching.{IsReachable}
use Rattle.tb_tables.specs.Records.{Tables, AreStored}
use Rattle.tb_tables.specs.Changes.{Holds}
use Rattle.tb_refine.specs.DeskTables.{tables_of, IsDeskOf}
use Rattle.tb_verify.specs.Summary.{tables_in}
use Rattle.tb_verify.specs.declared.summary.TableRows.{TableRows}
use Rattle.tb_verify.specs.Version1.{AreStoredInVersion1, HoldsFirst}
use Rattle.tb_verify.specs.Version1Desk.{HasNoPull, IsFirstDesk, LooksFirst}
use Rattle.tb_verify.specs.Version1Reads.{AreTheRows}
use Rattle.tb_verify.proofs.Begun.{LeavesDesk, first_unchanged}
use Rattle.tb_verify.proofs.NoPulls.{none_pulled}

module _ {S : Type 0} (g : Ghosts S) where
  -- from the rows to the desk
  pub first_desk : (old new : Held S) (r : TableRows) (s : Machine) → LooksFirst g old → IsUnchanged (state g old) (state g new) → AreTheRows r (state g old).now.trees → IsReachable s → HasNoPull s → tables_in r ≡ tables_of s → IsFirstDesk g old s
  first_desk old new r s looks same rows reach unpulled is = record {
    reachable = reach;
    unpulled = unpulled;
    holds = record {
      autocommit = looks.autocommit;
      is_open = same.0.was_open;
      schema = looks.schema;
      settled = sym (looks.settled same.0.was_open);
      stands = subst (λ d. AreStoredInVersion1 d (state g old).now.trees) is rows.stands;
    };
  }

  -- and back
  pub rows_of_desk : (old : Held S) (r : TableRows) (s : Machine) → AreTheRows r (state g old).now.trees → IsFirstDesk g old s → tables_in r ≡ tables_of s
  rows_of_desk old r s rows desk = rows.whole s desk.reachable (none_pulled s desk.reachable.reached desk.unpulled) desk.holds.stands

  pub first_stays : (old new : Held S) (s : Machine) → ((d : Tables) → HoldsFirst g old d → HoldsFirst g new d) → IsFirstDesk g old s → IsFirstDesk g new s
  first_stays old new s kept desk = record { reachable = desk.reachable; unpulled = desk.unpulled; holds = kept (tables_of s) desk.holds }

  -- from version 1 to version 2
  pub becomes_desk : (old mid new : Held S) (s : Machine) → IsUnchanged (state g old) (state g mid) → ((d : Tables) → d.pulled ≡ [] → HoldsFirst g mid d → Holds g new d) → IsFirstDesk g old s → IsDeskOf g new s
  becomes_desk old mid new s same made desk = record {
    reachable = desk.reachable;
    holds = made (tables_of s) (none_pulled s desk.reachable.reached desk.unpulled) (first_unchanged g old mid (tables_of s) desk.holds same);
  }

  pub migration_survives : (old mid new : Held S) → (HasCleanDisk (state g mid) → IsUnchanged (state g old) (state g mid)) → Survives (state g old) (state g mid) (λ _. ⊥) → Survives (state g mid) (state g new) (LeavesDesk g mid)
      → Survives (state g old) (state g new) (λ db. (s : Machine) → IsFirstDesk g old s → AreStored (tables_of s) db)
  migration_survives old mid new same one two =
      survives_then (state g old) (state g mid) (state g new) _ _ (λ db. (s : Machine) → IsFirstDesk g old s → AreStored (tables_of s) db) (λ _ _ none. absurd none)
      (λ clean db whole s desk. whole (tables_of s) (none_pulled s desk.reachable.reached desk.unpulled) (first_unchanged g old mid (tables_of s) desk.holds (same (let n = two.clean in omega (arith, clean, n))))) one two
