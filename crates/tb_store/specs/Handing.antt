-- What a call leaves of a connection that it was given. Facts of tables assume a disk that kept what it took
-- (`HasCleanDisk`).
use Rattle.std.specs.Prelude.{◌≡◌, ◌⊎◌, Bool, true, false, [], Result, Ok, Err, IsTrue, codes}
use Rattle.sqlite.specs.declared.error.Error.{Error}
use Rattle.sqlite.specs.declared.error.Error.TheVariants.{SqlInputError, SqliteFailure}
use Rattle.sqlite.specs.declared.error.ErrorCode.{ErrorCode}
use Rattle.sqlite.specs.declared.error.ErrorCode.TheVariants.{OutOfMemory}
use Rattle.sqlite.specs.Store.{Ghosts}
use Rattle.sqlite.specs.Held.{Held, state}
use Rattle.sqlite.specs.Schema.{Schema}
use Rattle.sqlite.specs.State.{State, HasCleanDisk, IsNotRun}
use Rattle.tb_core.specs.declared.refusals.Refusal.{Refusal}
use Rattle.tb_core.specs.declared.refusals.Fault.{Fault}
use Rattle.tb_core.specs.declared.refusals.Fault.TheVariants.{Memory, Device, Refused}
use Rattle.tb_core.specs.Machine.{Machine}
use Rattle.tb_tables.specs.Leaving.{IsFaultless}
use Rattle.tb_tables.specs.Making.{IsBlank}
use Rattle.tb_refine.specs.DeskTables.{IsDeskOf}
use Rattle.tb_refine.specs.Faults.{IsNoDevice}

-- what an error says of a store that was asked to run a text that is no statement
abbrev pub reported_of_code : ErrorCode → Result Bool Fault
reported_of_code OutOfMemory = Err Memory
reported_of_code _ = Ok false

abbrev pub reported_of_error : Error → Result Bool Fault
reported_of_error (SqlInputError why) = Ok true
reported_of_error (SqliteFailure code) = reported_of_code code
reported_of_error _ = Ok false

-- a store that is reported open is open
abbrev pub TellsOpen : {S : Type 0} → Ghosts S → (new : Held S) → Result Bool Fault → Type 0
TellsOpen g new reported = HasCleanDisk (state g new) → reported ≡ Ok true → IsTrue (state g new).is_open

-- a store that is reported shut was shut, or its disk failed meanwhile
abbrev pub TellsShut : {S : Type 0} → Ghosts S → (old new : Held S) → Result Bool Fault → Type 0
TellsShut g old new reported = HasCleanDisk (state g new) → reported ≡ Ok false → IsFaultless g old new → ⊥

-- the store was asked to run a text that is no statement, and the answer ran out of memory
abbrev pub WantsToTell : State → State → Type 0
WantsToTell old new = IsNotRun old new (codes "unknown") [] (SqliteFailure OutOfMemory)

-- want of memory is reported only where that question ran out of memory
abbrev pub TellsWant : {S : Type 0} → Ghosts S → (old new : Held S) → Result Bool Fault → Type 0
TellsWant g old new reported =
    HasCleanDisk (state g new) → reported ≡ Err Memory → WantsToTell (state g old) (state g new)

-- Where the store was open and its disk failed at nothing meanwhile, the device is blamed only where that question ran
-- out of memory. Then the desk is in doubt.
abbrev pub BlamesForWant : {S : Type 0} → Ghosts S → (old new : Held S) → (in_doubt : Bool) → Fault → Type 0
BlamesForWant g old new in_doubt fault = HasCleanDisk (state g new) → IsFaultless g old new
    → fault ≡ Device → IsTrue in_doubt × WantsToTell (state g old) (state g new)

-- the desk is put in doubt only where the device is blamed, and that question ran out of memory
abbrev pub PutsInDoubt : {S : Type 0} → Ghosts S → (old new : Held S) → (before after : Bool) → Fault → Type 0
PutsInDoubt g old new before after fault = IsTrue after → IsTrue before
    ⊎ ((fault ≡ Device) × (HasCleanDisk (state g new) → WantsToTell (state g old) (state g new)))

-- a refusal is the given one, and the connection is unchanged
abbrev pub HandsOnRefusal : {S : Type 0} → (old new : Held S) → (given fault : Fault) → Type 0
HandsOnRefusal old new given fault = (r : Refusal) → fault ≡ Refused r → (given ≡ Refused r) × (new ≡ old)

-- where the store was open and its disk failed at nothing meanwhile, the fault is not the device's
abbrev pub IsNoDeviceIfFaultless : {S : Type 0} → Ghosts S → (old new : Held S) → Fault → Type 0
IsNoDeviceIfFaultless g old new fault = HasCleanDisk (state g new) → IsFaultless g old new → IsNoDevice fault

-- Want of memory is reported only of a database that has these tables, outside of a transaction. So any other is refused
-- without it.
abbrev pub WantsOnTables : {S : Type 0} → Schema → Ghosts S → (old : Held S) → Fault → Type 0
WantsOnTables schema g old fault =
    fault ≡ Memory → (old.in_transaction ≡ false) × ((state g old).now.schema ≡ schema)

-- want of memory is reported only where the store is open
abbrev pub IsOpenOnMemory : {S : Type 0} → Ghosts S → Held S → Fault → Type 0
IsOpenOnMemory g new fault = HasCleanDisk (state g new) → fault ≡ Memory → IsTrue (state g new).is_open

-- a store that is open was open before
abbrev pub WasOpen : {S : Type 0} → Ghosts S → (old new : Held S) → Type 0
WasOpen g old new = HasCleanDisk (state g new) → IsTrue (state g new).is_open → IsTrue (state g old).is_open

-- while the store is open, the connection sees the same database
abbrev pub SeesTheSame : {S : Type 0} → Ghosts S → (old new : Held S) → Type 0
SeesTheSame g old new =
    HasCleanDisk (state g new) → IsTrue (state g new).is_open → (state g new).now ≡ (state g old).now

-- while the store is open, the connection stays the desk of the same states
abbrev pub StaysADesk : {S : Type 0} → Ghosts S → (old new : Held S) → Type 0
StaysADesk g old new =
    HasCleanDisk (state g new) → IsTrue (state g new).is_open → (s : Machine) → IsDeskOf g old s
    → IsDeskOf g new s

-- while the store is open, it is as blank as before
abbrev pub StaysBlank : {S : Type 0} → Ghosts S → (old new : Held S) → Type 0
StaysBlank g old new = HasCleanDisk (state g new) → IsTrue (state g new).is_open → IsBlank g old → IsBlank g new
