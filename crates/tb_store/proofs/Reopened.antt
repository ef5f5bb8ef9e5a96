-- A connection that a crash left to the next run.
use Rattle.std.proofs.Common.{◌≡◌, IsTrue, sym, subst, ap, ◌∙◌}
use Rattle.std.proofs.Math.Logic.{∥∥₁_map}
use Rattle.sqlite_disk.specs.declared.Disk.{Ghosts}
use Rattle.sqlite_wal.specs.Recovery.{Image}
use Rattle.sqlite_store.specs.declared.store.FileStore.{FileStore}
use Rattle.sqlite_store.specs.FileStore.{state as store_state, view, recovers}
use Rattle.sqlite_catalog.specs.Listing.{IsSound}
use Rattle.sqlite_trees.specs.Tree.{Trees}
use Rattle.sqlite.specs.Effect.{Database}
use Rattle.sqlite.specs.Held.{Held, AreDatabases}
use Rattle.sqlite.specs.State.{IsLive}
use Rattle.sqlite.specs.Start.{FindsIn}
use Rattle.sqlite.specs.Files.{file_state, over_files, IsOpened}
use Rattle.sqlite.proofs.Theorems.{next_run}
use Rattle.tb_tables.specs.Layout.{desk_schema}
use Rattle.tb_tables.specs.Records.{Tables, AreStored}
use Rattle.tb_tables.specs.Changes.{Holds}
use Rattle.tb_core.specs.Machine.{Machine}
use Rattle.tb_refine.specs.DeskTables.{tables_of, IsDeskOf}

-- a connection that opened on the trees of these records
pub holds_on : {E : Type 0} {k : Ghosts E} (next : Held (FileStore E k)) (d : Tables) → IsOpened next → AreStored d (file_state next).committed.trees → Holds over_files next d
holds_on next d opened stored =
    let start = opened.0 in
    let schema : (file_state next).committed.schema ≡ desk_schema = stored.listed (file_state next).committed.schema (opened.1 start.is_open).1.lists in
    record {
      autocommit = start.autocommit;
      is_open = start.is_open;
      schema = ap (λ (b : Database). b.schema) start.clean ∙ schema;
      settled = sym start.clean;
      stands = subst (λ (b : Database). AreStored d b.trees) (sym start.clean) stored;
    }

module _ {D : Type 0} {g : Ghosts D} {E : Type 0} {k : Ghosts E} (conn : Held (FileStore D g)) (next : Held (FileStore E k)) (d : Tables) (holds : Holds over_files conn d) (live : IsLive (file_state conn)) (opened : IsOpened next)
    (settled : (db : Trees) → recovers conn.store db → db ≡ (view conn.store).committed) where
  sound : AreDatabases (recovers conn.store)
  sound db may = ((file_state conn).committed.schema, subst (IsSound (file_state conn).committed.schema) (sym (settled db may)) (live holds.is_open).1)

  found : recovers conn.store (file_state next).committed.trees → Holds over_files next d
  found may =
      let trees : (file_state next).committed.trees ≡ (file_state conn).now.trees = settled (file_state next).committed.trees may ∙ ap (λ (b : Database). b.trees) holds.settled in
      holds_on next d opened (subst (AreStored d) (sym trees) holds.stands)

  pub holds_again : IsTrue (view conn.store).is_numbered → (left : Image) → (store_state conn.store).may_leave left → FindsIn left (file_state next) → ∥ Holds over_files next d ∥₁
  holds_again numbered left may finds = ∥∥₁_map (next_run conn.store numbered sound left may (file_state next) finds) found

-- and so it is the desk of the state
pub desk_again : {D : Type 0} {g : Ghosts D} {E : Type 0} {k : Ghosts E} (conn : Held (FileStore D g)) (next : Held (FileStore E k)) (s : Machine) → IsDeskOf over_files conn s → IsLive (file_state conn) → IsOpened next
    → ((db : Trees) → recovers conn.store db → db ≡ (view conn.store).committed) → IsTrue (view conn.store).is_numbered → (left : Image) → (store_state conn.store).may_leave left → FindsIn left (file_state next)
    → ∥ IsDeskOf over_files next s ∥₁
desk_again conn next s desk live opened settled numbered left may finds =
    ∥∥₁_map (holds_again conn next (tables_of s) desk.holds live opened settled numbered left may finds) (λ holds. record { reachable = desk.reachable; holds = holds })
