-- Between crates: no contract of a front door cites a definition of this module.
-- What a call on a connection says of the state that its tables store.
use Rattle.std.specs.Prelude.{◌≡◌, ◌≢◌, Result, Err, IfOk, IfErr, OnOk, None}
use Rattle.sqlite.specs.Store.{Ghosts}
use Rattle.sqlite.specs.Held.{Held, state}
use Rattle.sqlite.specs.State.{HasCleanDisk, Survives}
use Rattle.sqlite.specs.Tree.{Trees}
use Rattle.tb_core.specs.declared.refusals.Fault.{Fault}
use Rattle.tb_core.specs.declared.refusals.Fault.TheVariants.{Device, NotADesk, Refused}
use Rattle.tb_core.specs.declared.refusals.Refusal.{Refusal}
use Rattle.tb_core.specs.Machine.{Machine}
use Rattle.tb_tables.specs.Leaving.{IsFaultless}
use Rattle.tb_refine.specs.DeskTables.{IsDeskOf}

-- the answer is so in that state
abbrev pub Tells : {S X E : Type 0} → Ghosts S → Held S → Held S → Result X E → (Machine → X → Type 0)
    → Type 0
Tells g old new result IsSo = HasCleanDisk (state g new) → IfOk result (λ x. (s : Machine) → IsDeskOf g old s
    → IsSo s x)

-- what a successful call did is so in that state
abbrev pub TellsOnOk : {S X E : Type 0} → Ghosts S → Held S → Held S → Result X E → (Machine → Type 0)
    → Type 0
TellsOnOk g old new result IsSo = HasCleanDisk (state g new) → OnOk result ((s : Machine) → IsDeskOf g old s
    → IsSo s)

-- the error is so in that state
abbrev pub TellsOnErr : {S X E : Type 0} → Ghosts S → Held S → Held S → Result X E
    → (Machine → E → Type 0) → Type 0
TellsOnErr g old new result IsSo = HasCleanDisk (state g new) → IfErr result (λ e. (s : Machine) → IsDeskOf g old s
    → IsSo s e)

-- a refusal is so in that state
abbrev pub RefusesAs : {S X : Type 0} → Ghosts S → Held S → Held S → Result X Fault → (Machine → Refusal
    → Type 0) → Type 0
RefusesAs g old new result IsSo = HasCleanDisk (state g new) → (r : Refusal) → result ≡ Err (Refused r)
    → (s : Machine) → IsDeskOf g old s → IsSo s r

-- a desk, without a step limit, is never called no desk
abbrev pub KnowsDesk : {S X : Type 0} → Ghosts S → Held S → Held S → Result X Fault → Type 0
KnowsDesk g old new result = HasCleanDisk (state g new) → (state g old).step_limit ≡ None → (s : Machine)
    → IsDeskOf g old s → result ≢ Err NotADesk

-- the same for the desks of some states (`IsSo s so` says which)
abbrev pub KnowsDeskWhere : {S X : Type 0} → Ghosts S → Held S → Held S → Result X Fault → (Machine → Type 0
    → Type 0) → Type 0
KnowsDeskWhere g old new result IsSo = HasCleanDisk (state g new) → (state g old).step_limit ≡ None
    → (s : Machine) → IsDeskOf g old s → IsSo s (result ≢ Err NotADesk)

-- where the disk fails at nothing and there is no step limit, the device is not blamed, on the desks of some states
-- (`IsSo s so` says which)
abbrev pub BlamesNoDevice : {S X : Type 0} → Ghosts S → Held S → Held S → Result X Fault
    → (Machine → Type 0 → Type 0) → Type 0
BlamesNoDevice g old new result IsSo = IsFaultless g old new → HasCleanDisk (state g new)
    → (state g old).step_limit ≡ None → (s : Machine) → IsDeskOf g old s → IsSo s (result ≢ Err Device)

-- a crash leaves what it could leave before, or tables that are so in that state
abbrev pub CrashesTo : {S : Type 0} → Ghosts S → Held S → Held S → (Machine → Trees → Type 0) → Type 0
CrashesTo g old new IsSo = Survives (state g old) (state g new) (λ db. (s : Machine) → IsDeskOf g old s
    → IsSo s db)
