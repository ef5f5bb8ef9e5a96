-- Inner: no contract beyond this crate cites a definition of this module.
-- What is left of a desk that was given up without a close.
use Rattle.std.specs.Prelude.{◌≡◌, IsTrue}
use Rattle.sqlite.specs.Store.{Ghosts}
use Rattle.sqlite.specs.Held.{state, AreDatabases}
use Rattle.sqlite.specs.State.{IsLive}
use Rattle.sqlite_trees.specs.Tree.{Trees}
use Rattle.sqlite_trees.specs.View.{IsClean, IsQuiet}
use Rattle.tb_core.specs.Machine.{Machine}
use Rattle.tb_refine.specs.Counted.{IsWithin}
use Rattle.tb_store.specs.Kept.{Kept}
use Rattle.tb_store.specs.Represents.{Represents}
use Rattle.tb_store.specs.Calls.{LeavesOnly}

-- This store is left of the desk. A crash leaves nothing that it could not leave before: of an open store the last
-- commit, and of a state that a desk represents its tables.
pub record IsGivenUp {S : Type 0} (g : Ghosts S) (desk : Kept S) (store : S) : Type 0 where
  pub within : IsWithin desk.limits
  pub live : IsLive (state g desk.conn)
  pub last : (db : Trees) → IsTrue (state g desk.conn).is_open → (state g desk.conn).may_leave db
      → db ≡ (state g desk.conn).committed.trees
  pub whole : (d : Kept S) (s : Machine) → Represents g d s → LeavesOnly g d s
  pub quiet : IsQuiet g.view g.faults g.recovers g.is_shielded desk.conn.store store
  pub sound : IsClean (g.view store) → AreDatabases (g.recovers store)
  pub numbered : IsClean (g.view store) → IsTrue (g.view store).is_numbered
  pub was_numbered : IsClean (g.view store) → IsTrue (g.view desk.conn.store).is_numbered
