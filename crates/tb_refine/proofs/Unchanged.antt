-- A read leaves the desk as it was.
use Rattle.std.proofs.Common.{◌≡◌, Bool, true, Result, IfErr, IsErrAnd, None, ◌∙◌}
use Rattle.sqlite.specs.Store.{Ghosts}
use Rattle.sqlite.specs.Held.{Held, state}
use Rattle.sqlite.specs.State.{HasCleanDisk, IsUnchanged}
use Rattle.tb_core.specs.declared.refusals.Fault.{Fault}
use Rattle.tb_core.specs.Machine.{Machine}
use Rattle.tb_tables.specs.Layout.{desk_schema}
use Rattle.tb_tables.specs.Records.{Tables}
use Rattle.tb_tables.specs.Changes.{Holds}
use Rattle.tb_tables.specs.Leaving.{IsFaultless}
use Rattle.tb_tables.proofs.Commands.{same_holds}
use Rattle.tb_tables.proofs.Causes.{handed_on, faultless_next}
use Rattle.tb_reads.specs.ReadOnly.{IsReadOnly}
use Rattle.tb_reads.proofs.ReadOnly.{was_clean, schema_stays}
use Rattle.tb_refine.specs.DeskTables.{tables_of, IsDeskOf}
use Rattle.tb_refine.specs.Faults.{IsNoDevice}

module _ {S : Type 0} (g : Ghosts S) where
  pub desk_kept : (old new : Held S) → ((d : Tables) → Holds g old d → Holds g new d) → (s : Machine) → IsDeskOf g old s → IsDeskOf g new s
  desk_kept old new kept s desk = record { reachable = desk.reachable; holds = kept (tables_of s) desk.holds }

  pub desk_same : (old new : Held S) (s : Machine) → IsDeskOf g old s → IsUnchanged (state g old) (state g new) → IsDeskOf g new s
  desk_same old new s desk same = record { reachable = desk.reachable; holds = same_holds g old new (tables_of s) desk.holds same }

pub desk_after : {S : Type 0} {g : Ghosts S} {a b : Held S} {m : Machine} → IsReadOnly g a b true → HasCleanDisk (state g b) → IsDeskOf g a m → IsDeskOf g b m
desk_after {g = g} {a = a} {b = b} {m = m} one clean desk = desk_same g a b m desk (one.unchanged clean desk.holds.schema)

-- where the disk fails at nothing in two reads, it does not in the second
pub second_clear : {S : Type 0} {g : Ghosts S} {a b c : Held S} {s : Bool} {T : Type 0} (r : Result T Fault) (e : Fault) → IsErrAnd r (λ x. x ≡ e) → IsReadOnly g a b true → IsReadOnly g b c s
    → (IsFaultless g b c → HasCleanDisk (state g c) → (state g b).step_limit ≡ None → (state g b).now.schema ≡ desk_schema → IsNoDevice e)
    → IsFaultless g a c → HasCleanDisk (state g c) → (state g a).step_limit ≡ None → (state g a).now.schema ≡ desk_schema → IfErr r IsNoDevice
second_clear {g = g} {a = a} {b = b} {c = c} r e handed one two fine good clean unlimited has =
    let mid = was_clean two clean in
    let here = faultless_next (state g a) (state g b) (state g c) good one.commits_nothing mid two.commits_nothing.counts in
    handed_on IsNoDevice r e handed (fine here clean (one.commits_nothing.limit ∙ unlimited) (schema_stays g a b (one.unchanged mid has) has))
