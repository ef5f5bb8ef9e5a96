-- A desk that a command left, in the next run.
use Rattle.std.proofs.Common.{◌≡◌, ◌≤◌, IsTrue, inl, inr, refl, arith}
use Rattle.std.proofs.Math.Logic.{∥∥₁_map}
use Rattle.sqlite_disk.specs.declared.Disk.{Ghosts}
use Rattle.sqlite_wal.specs.Recovery.{Image}
use Rattle.sqlite_store.specs.declared.store.FileStore.{FileStore}
use Rattle.sqlite_store.specs.FileStore.{state as store_state, view, recovers}
use Rattle.sqlite_trees.specs.View.{doubt, IsClean}
use Rattle.sqlite_trees.specs.Tree.{Trees}
use Rattle.sqlite.specs.Held.{Held, AreDatabases}
use Rattle.sqlite.specs.State.{HasCleanDisk}
use Rattle.sqlite.specs.Start.{FindsIn}
use Rattle.sqlite.specs.Files.{file_state, over_files, IsOpened}
use Rattle.sqlite.proofs.Theorems.{next_run}
use Rattle.tb_tables.specs.Records.{AreStored}
use Rattle.tb_core.specs.Machine.{Machine}
use Rattle.tb_core.specs.Commands.{Answer, Command}
use Rattle.tb_core.specs.Reaching.{IsReachable}
use Rattle.tb_core.specs.Steps.{Steps}
use Rattle.tb_refine.specs.DeskTables.{tables_of, IsDeskOf}
use Rattle.tb_store.specs.Kept.{Kept}
use Rattle.tb_store.specs.Represents.{Represents}
use Rattle.tb_store.specs.Calls.{CrashesWhole, LeavesOnly}
use Rattle.tb_store.specs.Reopened.{IsBeforeOrAfter}
use Rattle.tb_store.proofs.Reopened.{holds_on}

module _ {D : Type 0} {g : Ghosts D} {E : Type 0} {k : Ghosts E} (old new : Kept (FileStore D g)) (command : Command) (s : Machine) (next : Held (FileStore E k))
    (reach : (t : Machine) (a : Answer) → Steps old.limits s command a t → IsReachable t)
    (stands : Represents over_files old s) (leaves : LeavesOnly over_files old s) (crash : CrashesWhole over_files old new command) (opened : IsOpened next) where
  -- the trees that are found are those of the state before, or of one in which the command ends
  found_again : HasCleanDisk (file_state new.conn) → recovers new.conn.store (file_state next).committed.trees → (r : Machine) × IsDeskOf over_files next r × IsBeforeOrAfter old.limits s command r
  found_again clean may =
      let db = (file_state next).committed.trees in
      elim (crash.crash clean db may) [
        | inl was ↦ (s, record { reachable = stands.desk.reachable; holds = holds_on next (tables_of s) opened (leaves db was) }, inl refl)
        | inr ends ↦
            let it = ends s stands in
            (it.1, record { reachable = reach it.1 it.0 it.2; holds = holds_on next (tables_of it.1) opened it.3 }, inr (it.0, it.2))
      ]

  pub resumed : (store : FileStore D g) → ((db : Trees) → recovers store db → recovers new.conn.store db) → doubt (view new.conn.store).is_clean ≤ doubt (view store).is_clean
      → IsClean (view store) → IsTrue (view store).is_numbered → AreDatabases (recovers store) → (left : Image) → (store_state store).may_leave left → FindsIn left (file_state next)
      → ∥ ((r : Machine) × IsDeskOf over_files next r × IsBeforeOrAfter old.limits s command r) ∥₁
  resumed store outcomes more sure numbered sound left may finds =
      let clean : HasCleanDisk (file_state new.conn) = omega (arith, sure, more) in
      ∥∥₁_map (next_run store numbered sound left may (file_state next) finds) (λ recovered. found_again clean (outcomes (file_state next).committed.trees recovered))

-- a connection is the desk of one state
pub one_desk : {E : Type 0} {k : Ghosts E} (next : Held (FileStore E k)) (r t : Machine)
    → ((a b : Machine) (trees : Trees) → IsReachable a → IsReachable b → AreStored (tables_of a) trees → AreStored (tables_of b) trees → a ≡ b)
    → IsDeskOf over_files next r → IsDeskOf over_files next t → r ≡ t
one_desk next r t one here there = one r t (file_state next).now.trees here.reachable there.reachable here.holds.stands there.holds.stands
