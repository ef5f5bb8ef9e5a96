-- Between crates: no contract of a front door cites a definition of this module.
-- What a call that only reads leaves of a connection to a desk. Facts of records assume a disk that kept what it took
-- (`HasCleanDisk`).
use Rattle.std.specs.Prelude.{◌≡◌, Bool, false, MatchBool, ⊤}
use Rattle.sqlite.specs.Store.{Ghosts}
use Rattle.sqlite.specs.Held.{Held, state}
use Rattle.sqlite.specs.State.{HasCleanDisk, IsUnchanged}
use Rattle.tb_tables.specs.Layout.{desk_schema}
use Rattle.tb_tables.specs.Leaving.{CommitsNothing, KeepsRecords}

pub record IsReadOnly {S : Type 0} (g : Ghosts S) (old new : Held S) (succeeds : Bool) : Type 0 where
  -- success changes nothing
  pub unchanged : HasCleanDisk (state g new) → MatchBool succeeds ((state g old).now.schema ≡ desk_schema
      → IsUnchanged (state g old) (state g new)) ⊤
  -- no transaction is left open where none was
  pub autocommit : old.in_transaction ≡ false → new.in_transaction ≡ false
  -- while the store is open, the tables hold the same records
  pub keeps_records : KeepsRecords g old new
  -- a crash leaves what it could leave before
  pub commits_nothing : CommitsNothing g old new
