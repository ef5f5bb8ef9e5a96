-- Between crates: no contract of a front door cites a definition of this module.
-- What a read of a desk leaves of the connection, and how it fails. Facts of tables assume a disk that kept what it took
-- (`HasCleanDisk`).
use Rattle.std.specs.Prelude.{◌≢◌, Result, Err, is_ok}
use Rattle.sqlite.specs.Store.{Ghosts}
use Rattle.sqlite.specs.Held.{Held}
use Rattle.tb_core.specs.declared.refusals.Fault.{Fault}
use Rattle.tb_core.specs.declared.refusals.Fault.TheVariants.{Output, Refused}
use Rattle.tb_core.specs.declared.refusals.Refusal.{Refusal}
use Rattle.tb_core.specs.Machine.{Machine}
use Rattle.tb_tables.specs.Leaving.{FailsOnlyAs, IsFaultless}
use Rattle.tb_reads.specs.ReadOnly.{IsReadOnly}
use Rattle.tb_refine.specs.Calls.{KnowsDeskWhere}
use Rattle.tb_refine.specs.Faults.{IsNoDevice}

-- A read of what the desks of some states have (`IsSo s so` says which). `old` is the connection before it, `new` after it.
pub record IsReadWhere {S X : Type 0} (g : Ghosts S) (old new : Held S) (result : Result X Fault) (IsSo : Machine → Type 0 → Type 0) : Type 0 where
  -- nothing is refused
  pub never_refuses : (r : Refusal) → result ≢ Err (Refused r)
  -- no sink is blamed
  pub output : result ≢ Err Output
  -- those desks, without a step limit, are never called no desk
  pub fails : KnowsDeskWhere g old new result IsSo
  -- where the disk fails at nothing and there is no step limit, the device is not blamed
  pub cause : IsFaultless g old new → FailsOnlyAs IsNoDevice g old new result
  -- the records stay, whatever is answered
  pub read_only : IsReadOnly g old new (is_ok result)

-- a read of what each desk has
abbrev pub IsRead : {S X : Type 0} → Ghosts S → Held S → Held S → Result X Fault → Type 0
IsRead g old new result = IsReadWhere g old new result (λ s so. so)
