-- What a call on a desk answers, and what it leaves of the desk after any answer. Facts of tables assume a disk that
-- kept what it took (`HasCleanDisk`).
use Rattle.std.specs.Prelude.{◌≡◌, ◌≢◌, ℕ, Result, Ok, Err, IfOk, IfErr, OnOk, IsTrue}
use Rattle.sqlite.specs.Store.{Ghosts}
use Rattle.sqlite.specs.Held.{state}
use Rattle.sqlite.specs.State.{HasCleanDisk, Survives}
use Rattle.sqlite.specs.Tree.{Trees}
use Rattle.tb_core.specs.declared.refusals.Fault.{Fault}
use Rattle.tb_core.specs.declared.refusals.Fault.TheVariants.{Memory, NotADesk, Output, Refused}
use Rattle.tb_core.specs.declared.refusals.Refusal.{Refusal}
use Rattle.tb_core.specs.Machine.{Machine}
use Rattle.tb_core.specs.Commands.{Command, Answer, Reply, replied, refused}
use Rattle.tb_core.specs.Steps.{Steps}
use Rattle.tb_tables.specs.Records.{AreStored}
use Rattle.tb_refine.specs.DeskTables.{tables_of}
use Rattle.tb_store.specs.Kept.{Kept}
use Rattle.tb_store.specs.Represents.{Represents}
use Rattle.tb_store.specs.Answers.{HasNoSentence}

-- the answer is so in the state that the desk represents
abbrev pub Gives : {S X E : Type 0} → Ghosts S → Kept S → Kept S → Result X E → (Machine → X → Type 0)
    → Type 0
Gives g old new result IsSo = HasCleanDisk (state g new.conn) → IfOk result (λ x. (s : Machine)
    → Represents g old s → IsSo s x)

-- the error is so in that state
abbrev pub GivesOnErr : {S X E : Type 0} → Ghosts S → Kept S → Kept S → Result X E
    → (Machine → E → Type 0) → Type 0
GivesOnErr g old new result IsSo = HasCleanDisk (state g new.conn) → IfErr result (λ e. (s : Machine)
    → Represents g old s → IsSo s e)

-- a desk is never called no desk
abbrev pub KnowsItself : {S X : Type 0} → Ghosts S → Kept S → Kept S → Result X Fault → Type 0
KnowsItself g old new result =
    HasCleanDisk (state g new.conn) → (s : Machine) → Represents g old s → result ≢ Err NotADesk

-- while the store is open, the desk represents the same state
abbrev pub KeepsState : {S : Type 0} → Ghosts S → Kept S → Kept S → Type 0
KeepsState g old new = HasCleanDisk (state g new.conn) → IsTrue (state g new.conn).is_open → (s : Machine)
    → Represents g old s → Represents g new s

-- a crash leaves what it could leave before
abbrev pub WritesNothing : {S : Type 0} → Ghosts S → Kept S → Kept S → Type 0
WritesNothing g old new = (s : Machine) → Represents g old s
    → Survives (state g old.conn) (state g new.conn) (λ _. ⊥)

-- what holds of the state that the desk represents, and of what the call leaves
abbrev pub InState : {S : Type 0} → Ghosts S → Kept S → Kept S → (Machine → Type 0) → Type 0
InState g old new IsSo = HasCleanDisk (state g new.conn) → (s : Machine) → Represents g old s → IsSo s

-- what a successful call did is so in that state
abbrev pub Does : {S X E : Type 0} → Ghosts S → Kept S → Kept S → Result X E → (Machine → Type 0) → Type 0
Does g old new result IsSo = HasCleanDisk (state g new.conn) → OnOk result ((s : Machine) → Represents g old s
    → IsSo s)

-- the tables of a state in which the command ends
abbrev pub HoldsAnEnd : {S : Type 0} → Ghosts S → (old : Kept S) → Command → Trees → Type 0
HoldsAnEnd g old command db = (s : Machine) → Represents g old s → (a : Answer) × (t : Machine)
    × Steps old.limits s command a t × AreStored (tables_of t) db

-- a crash leaves what it could leave before, or the whole of such tables
abbrev pub CrashesWhole : {S : Type 0} → Ghosts S → Kept S → Kept S → Command → Type 0
CrashesWhole g old new command = Survives (state g old.conn) (state g new.conn) (HoldsAnEnd g old command)

-- a crash at this moment leaves all tables of this state, and nothing else
abbrev pub LeavesOnly : {S : Type 0} → Ghosts S → Kept S → Machine → Type 0
LeavesOnly g d s = (db : Trees) → (state g d.conn).may_leave db → AreStored (tables_of s) db

-- the desk represents this state, and a crash at this moment leaves its tables
abbrev pub IsDurable : {S : Type 0} → Ghosts S → Kept S → Machine → Type 0
IsDurable g d s = Represents g d s × LeavesOnly g d s

-- How a command ends, by its answer. After the machine's reply the desk durably represents the next state. After a
-- refusal, or out of memory, it durably represents the same state. After another fault it does so while the store is
-- open. A desk is never called no desk, and no sink is blamed.
abbrev pub CommandEnds : {S X : Type 0} → Ghosts S → Kept S → Kept S → Command → (X → Reply) → Machine
    → Result X Fault
    → Type 0
CommandEnds g old new command reply s (Ok x) =
    (t : Machine) × Steps old.limits s command (replied (reply x)) t × IsDurable g new t
CommandEnds g old new command reply s (Err (Refused r)) = Steps old.limits s command (refused r) s × IsDurable g new s
CommandEnds g old new command reply s (Err Memory) = IsDurable g new s
CommandEnds g old new command reply s (Err NotADesk) = ⊥
CommandEnds g old new command reply s (Err Output) = ⊥
CommandEnds g old new command reply s (Err _) = IsTrue (state g new.conn).is_open → IsDurable g new s

-- where no sentence of the state has the number, the command is refused, and does not fail
abbrev pub RefusesMissing : {S X : Type 0} → Ghosts S → (old : Kept S) → (number : ℕ) → Result X Fault → Type 0
RefusesMissing g old number result =
    (s : Machine) → Represents g old s → HasNoSentence s number → (r : Refusal) × (result ≡ Err (Refused r))

-- a command ends so in the state that the desk represents
abbrev pub EndsAs : {S X : Type 0} → Ghosts S → Kept S → Kept S → Result X Fault → Command → (X → Reply)
    → Type 0
EndsAs g old new result command reply = InState g old new (λ s. CommandEnds g old new command reply s result)
