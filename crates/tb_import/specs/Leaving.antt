-- Inner: no contract beyond this crate cites a definition of this module.
-- What calls that only read leave of a connection.
use Rattle.std.specs.Prelude.{◌≡◌, ◌≢◌, false, IsTrue, Result, Err, OnOk}
use Rattle.sqlite.specs.Store.{Ghosts}
use Rattle.sqlite.specs.Held.{Held, state}
use Rattle.sqlite.specs.State.{HasCleanDisk, Survives}
use Rattle.tb_core.specs.Machine.{Machine}
use Rattle.tb_core.specs.declared.refusals.Fault.{Fault}
use Rattle.tb_core.specs.declared.refusals.Fault.TheVariants.{Output, Refused}
use Rattle.tb_core.specs.declared.refusals.Refusal.{Refusal}
use Rattle.tb_tables.specs.Layout.{desk_schema}
use Rattle.tb_tables.specs.Records.{Tables}
use Rattle.tb_tables.specs.Changes.{Holds}
use Rattle.tb_tables.specs.Leaving.{FailsOnlyAs, IsFaultless}
use Rattle.tb_refine.specs.Calls.{KnowsDeskWhere}
use Rattle.tb_refine.specs.Faults.{IsNoDevice}

-- After any answer: no transaction is begun, the tables hold the same records where the store is open, and a crash
-- leaves what it could leave before.
pub record IsLeft {S : Type 0} (g : Ghosts S) (old new : Held S) : Type 0 where
  pub mode : old.in_transaction ≡ false → new.in_transaction ≡ false
  pub kept : HasCleanDisk (state g new) → IsTrue (state g new).is_open
      → (d : Tables) → Holds g old d → Holds g new d
  pub commits_nothing : Survives (state g old) (state g new) (λ _. (d : Tables) → Holds g old d → ⊥)

-- The tables are still those of a desk and hold the same records, and the connection sees the same database.
pub record Stays {S : Type 0} (g : Ghosts S) (old new : Held S) : Type 0 where
  pub schema : HasCleanDisk (state g new) → (state g old).now.schema ≡ desk_schema
      → (state g new).now.schema ≡ desk_schema
  pub holds : HasCleanDisk (state g new) → (d : Tables) → Holds g old d → Holds g new d
  pub sees : HasCleanDisk (state g new) → (state g old).now.schema ≡ desk_schema
      → (state g new).now ≡ (state g old).now

-- A look at what the desks of some states have (`IsSo s so` says which), of one read or of many.
pub record IsLook {S X : Type 0} (g : Ghosts S) (old new : Held S) (result : Result X Fault) (IsSo : Machine → Type 0 → Type 0) : Type 0 where
  -- nothing is refused
  pub never_refuses : (r : Refusal) → result ≢ Err (Refused r)
  -- no sink is blamed
  pub output : result ≢ Err Output
  -- those desks, without a step limit, are never called no desk
  pub fails : KnowsDeskWhere g old new result IsSo
  -- where the disk fails at nothing and there is no step limit, the device is not blamed
  pub cause : IsFaultless g old new → FailsOnlyAs IsNoDevice g old new result
  pub stays : OnOk result (Stays g old new)
  pub left : IsLeft g old new
