-- What a call on the tables of a desk answers, and what it leaves of them. Facts of records assume a disk that kept
-- what it took (`HasCleanDisk`).
use Rattle.std.specs.Prelude.{◌≡◌, ◌≢◌, ◌-◌, ◌^◌, ◌<◌, ◌≤◌, Result, IfOk, IfErr, OnOk, OnErr, IsTrue, None}
use Rattle.sqlite.specs.Store.{Ghosts}
use Rattle.sqlite.specs.Held.{Held, state}
use Rattle.sqlite.specs.State.{HasCleanDisk, KeepsCommit, Survives}
use Rattle.sqlite.specs.declared.error.Error.{Error}
use Rattle.sqlite_trees.specs.Tree.{Trees}
use Rattle.tb_tables.specs.Layout.{desk_schema}
use Rattle.tb_tables.specs.Records.{Tables, AreStored}
use Rattle.tb_tables.specs.Changes.{IsInside, Changes, Holds}
use Rattle.tb_tables.specs.Failing.{IsWant}

-- the answer is what the trees show (`IsShown`)
abbrev pub Reads : {S X E : Type 0} → Ghosts S → Held S → Held S → Result X E → (X → Trees → Type 0)
    → Type 0
Reads g old new result IsShown = HasCleanDisk (state g new)
    → IfOk result (λ x. (state g old).now.schema ≡ desk_schema → IsShown x (state g old).now.trees)

-- without a step limit, an error is such a fault
abbrev pub FailsOnlyAs : {S X E : Type 0} → (E → Type 0) → Ghosts S → Held S → Held S → Result X E
    → Type 0
FailsOnlyAs IsFault g old new result = HasCleanDisk (state g new) → (state g old).step_limit ≡ None
    → (state g old).now.schema ≡ desk_schema → IfErr result IsFault

-- the store is open, and its disk fails at nothing meanwhile (the count of faults saturates at 2 ^ 64 - 1)
abbrev pub IsFaultless : {S : Type 0} → Ghosts S → Held S → Held S → Type 0
IsFaultless g old new =
    IsTrue (state g old).is_open × ((state g new).faults ≤ (state g old).faults)
    × ((state g old).faults < 2 ^ 64 - 1)

-- where the disk fails at nothing, an error is one that needs no fault of it (`NeedsNone`)
abbrev pub BlamesNoDisk : {S X E : Type 0} → (E → Type 0) → Ghosts S → Held S → Held S → Result X E
    → Type 0
BlamesNoDisk NeedsNone g old new result = HasCleanDisk (state g new) → IsFaultless g old new
    → IfErr result NeedsNone

-- while the store is open, the tables hold the same records
abbrev pub KeepsRecords : {S : Type 0} → Ghosts S → Held S → Held S → Type 0
KeepsRecords g old new = HasCleanDisk (state g new) → IsTrue (state g new).is_open → (d : Tables) → Holds g old d
    → Holds g new d

-- the same after an error
abbrev pub KeepsRecordsOnErr : {S X E : Type 0} → Ghosts S → Held S → Held S → Result X E → Type 0
KeepsRecordsOnErr g old new result = HasCleanDisk (state g new) → IsTrue (state g new).is_open
    → OnErr result ((d : Tables) → Holds g old d → Holds g new d)

-- a crash leaves what it could leave before; nothing is said of tables that are not a desk's
abbrev pub CommitsNothing : {S : Type 0} → Ghosts S → Held S → Held S → Type 0
CommitsNothing g old new = Survives (state g old) (state g new) (λ _. (state g old).now.schema ≢ desk_schema)

-- in a transaction: the store can go back to what was committed before it
abbrev pub KeepsCommitted : {S : Type 0} → Ghosts S → Held S → Held S → Type 0
KeepsCommitted g old new = HasCleanDisk (state g new) → KeepsCommit (state g old) (state g new)

-- in a transaction: so it is after a statement, and one that succeeds does not end it
abbrev pub StaysInside : {S X E : Type 0} → Ghosts S → Held S → Held S → Result X E → Type 0
StaysInside g old new result = (HasCleanDisk (state g new) → OnOk result (IsInside (state g old)
    → IsInside (state g new))) × KeepsCommitted g old new

-- the tables of the connection store these records
abbrev pub AreStoredIn : {S : Type 0} → Ghosts S → Held S → Tables → Type 0
AreStoredIn g c d = AreStored d (state g c).now.trees

-- in a transaction: a statement that succeeds turns the records d into `into` (`IsSo d into` gives the premises)
abbrev pub Turns : {S X E : Type 0} → Ghosts S → Held S → Held S → Result X E
    → (Tables → (Tables → Type 0) → Type 0) → Type 0
Turns g old new result IsSo = HasCleanDisk (state g new) → OnOk result (IsInside (state g old) → (d : Tables)
    → IsSo d (Changes (state g old) (state g new) d))

-- in a transaction: without a step limit, an error is such a fault (`IsSo d fails` gives the premises)
abbrev pub FailsInside : {S X E : Type 0} → (E → Type 0) → Ghosts S → Held S → Held S → Result X E
    → (Tables → Type 0 → Type 0) → Type 0
FailsInside IsFault g old new result IsSo = HasCleanDisk (state g new) → (state g old).step_limit ≡ None
    → IsInside (state g old) → (d : Tables) → IsSo d (IfErr result IsFault)

-- in a transaction: where the disk fails at nothing and there is no step limit, an error is want of memory (`IsSo d
-- wants` gives the premises)
abbrev pub WantsInside : {S X : Type 0} → Ghosts S → Held S → Held S → Result X Error
    → (Tables → Type 0 → Type 0) → Type 0
WantsInside g old new result IsSo = IsFaultless g old new → FailsInside IsWant g old new result IsSo

-- a call that succeeds on the tables of the records d leaves those of `into` (`IsSo d into` gives the premises)
abbrev pub Leads : {S X E : Type 0} → Ghosts S → Held S → Held S → Result X E
    → (Tables → (Tables → Type 0) → Type 0) → Type 0
Leads g old new result IsSo = HasCleanDisk (state g new) → OnOk result ((d : Tables) → Holds g old d
    → IsSo d (Holds g new))

-- a crash leaves what it could leave before, or the whole tables of the new records
abbrev pub CrashesInto : {S : Type 0} → Ghosts S → Held S → Held S → (Tables → (Tables → Type 0) → Type 0)
    → Type 0
CrashesInto g old new IsSo = Survives (state g old) (state g new) (λ db. (d : Tables) → Holds g old d
    → IsSo d (λ after. AreStored after db))

-- on the tables of the records d, without a step limit, an error is such a fault (`IsSo d fails` gives the premises)
abbrev pub FailsOn : {S X E : Type 0} → (E → Type 0) → Ghosts S → Held S → Held S → Result X E
    → (Tables → Type 0 → Type 0) → Type 0
FailsOn IsFault g old new result IsSo = HasCleanDisk (state g new) → (state g old).step_limit ≡ None
    → (d : Tables) → Holds g old d → IsSo d (IfErr result IsFault)

-- on the tables of the records d, where the disk fails at nothing and there is no step limit, an error is want of
-- memory (`IsSo d wants` gives the premises)
abbrev pub WantsOn : {S X : Type 0} → Ghosts S → Held S → Held S → Result X Error
    → (Tables → Type 0 → Type 0) → Type 0
WantsOn g old new result IsSo = IsFaultless g old new → FailsOn IsWant g old new result IsSo
