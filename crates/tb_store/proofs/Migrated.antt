-- The desk of a store of version 1, and the connection without a step limit.
use Rattle.std.proofs.Common.{◌≡◌}
use Rattle.sqlite.specs.Store.{Ghosts}
use Rattle.sqlite.specs.Held.{Held, state}
use Rattle.sqlite.specs.State.{Survives}
use Rattle.sqlite.proofs.StateLemmas.{survives_weaker}
use Rattle.sqlite_trees.specs.Tree.{Trees}
use Rattle.tb_core.specs.Machine.{Machine}
use Rattle.tb_tables.specs.Records.{AreStored}
use Rattle.tb_refine.specs.DeskTables.{tables_of}
use Rattle.tb_verify.specs.Version1Desk.{IsFirstDesk}
use Rattle.tb_store.specs.Represents.{unlimited}

module _ {S : Type 0} (g : Ghosts S) where
  -- the limit says nothing of what is held

  pub first_unlimited : (c d : Held S) → d ≡ unlimited c → (s : Machine) → IsFirstDesk g c s → IsFirstDesk g d s
  first_unlimited c d is s desk = rw is (record {
    reachable = desk.reachable;
    unpulled = desk.unpulled;
    holds = record { autocommit = desk.holds.autocommit; is_open = desk.holds.is_open; schema = desk.holds.schema; settled = desk.holds.settled; stands = desk.holds.stands };
  })

  lifted : (c : Held S) (s : Machine) → IsFirstDesk g (unlimited c) s → IsFirstDesk g c s
  lifted c s desk = record {
    reachable = desk.reachable;
    unpulled = desk.unpulled;
    holds = record { autocommit = desk.holds.autocommit; is_open = desk.holds.is_open; schema = desk.holds.schema; settled = desk.holds.settled; stands = desk.holds.stands };
  }

  pub first_before : (c d : Held S) → d ≡ unlimited c → (s : Machine) → IsFirstDesk g d s → IsFirstDesk g c s
  first_before c d is s desk = lifted c s (rw is at desk)

  -- what a crash leaves of a desk of version 1 that becomes one of version 2
  abbrev pub LeavesDesk : Held S → Trees → Type 0
  LeavesDesk c db = (s : Machine) → IsFirstDesk g c s → AreStored (tables_of s) db

  pub survives_unlimited : (c d e : Held S) → d ≡ unlimited c → Survives (state g d) (state g e) (LeavesDesk d) → Survives (state g d) (state g e) (LeavesDesk c)
  survives_unlimited c d e is = survives_weaker (state g d) (state g e) _ _ (λ _ db whole s desk. whole s (first_unlimited c d is s desk))
