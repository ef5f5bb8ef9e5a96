-- What a command of a user is answered over a connection, as a line, and what it leaves.
use Rattle.std.specs.Prelude.{◌≡◌, ◌≢◌, ◌⊎◌, IsTrue, ⊤, length, Result, Ok, Err}
use Rattle.sqlite.specs.Store.{Ghosts}
use Rattle.sqlite.specs.Held.{state}
use Rattle.tb_core.specs.declared.limits.Limits.{Limits}
use Rattle.tb_core.specs.declared.refusals.Refusal.{Refusal}
use Rattle.tb_core.specs.declared.refusals.Fault.{Fault}
use Rattle.tb_core.specs.declared.refusals.Fault.TheVariants.{Refused, Memory, Device, NotADesk, Output}
use Rattle.tb_core.specs.Machine.{Machine}
use Rattle.tb_core.specs.Commands.{Command, Answer, replied, refused, imported, moved_on, corrected_to, pulled_out}
use Rattle.tb_core.specs.Commands.{import_file, correct, pull, restore}
use Rattle.tb_core.specs.Commands.{restored_to}
use Rattle.tb_core.specs.Steps.{Steps}
use Rattle.tb_http.specs.declared.replies.Reply.{Reply}
use Rattle.tb_http.specs.declared.replies.Reply.TheVariants as reply
use Rattle.tb_tables.specs.Leaving.{IsFaultless}
use Rattle.tb_refine.specs.Room.{HasRoomIfWritten}
use Rattle.tb_store.specs.Answers.{HasNoSentence}
use Rattle.tb_store.specs.Kept.{Kept}
use Rattle.tb_store.specs.Calls.{CrashesWhole, InState, IsDurable}

-- the reply for an answer of the machine
abbrev pub reply_for : Answer → Reply
reply_for (replied (imported r)) = reply.Imported r
reply_for (replied (moved_on r)) = reply.Moved r
reply_for (replied (corrected_to r)) = reply.Corrected r
reply_for (replied (pulled_out r)) = reply.Pulled r
reply_for (replied (restored_to r)) = reply.Restored r
reply_for (refused r) = reply.Refused r

-- the reply for a fault of a desk; `Output` becomes `Device`, since no call writes output of its own
abbrev pub reply_for_fault : Fault → Reply
reply_for_fault (Refused r) = reply.Refused r
reply_for_fault Memory = reply.Memory
reply_for_fault Device = reply.Device
reply_for_fault NotADesk = reply.Desk
reply_for_fault Output = reply.Device

-- the reply for how a command ended, which this reply tells where it was accepted
abbrev pub reply_of : {X : Type 0} → (accepted : X → Reply) → Result X Fault → Reply
reply_of accepted (Ok x) = accepted x
reply_of accepted (Err fault) = reply_for_fault fault

-- the same for an export into memory, whose sink fails only for want of memory
abbrev pub reply_for_export : Fault → Reply
reply_for_export Output = reply.Memory
reply_for_export fault = reply_for_fault fault

-- a fault that is no refusal
abbrev pub IsNoRefusal : Fault → Type 0
IsNoRefusal fault = (r : Refusal) → fault ≢ Refused r

-- a call found the store shut, or its disk failed meanwhile
abbrev pub HasFailed : {S : Type 0} → Ghosts S → (old new : Kept S) → Type 0
HasFailed g old new = IsFaultless g old.conn new.conn → ⊥

-- the replies that say nothing of the state: want of memory, and a failed device for this cause
abbrev pub IsFailure : (cause : Type 0) → Reply → Type 0
IsFailure cause r = (r ≡ reply.Memory) ⊎ ((r ≡ reply.Device) × cause)

-- the same for a store that may not be a desk
abbrev pub IsStoreFailure : Reply → Type 0
IsStoreFailure r = IsFailure ⊤ r ⊎ (r ≡ reply.Desk)

-- No size keeps SQLite from writing what the command writes: its body is short, and rowids are left for its revisions.
-- A command that writes nothing needs neither.
abbrev pub HasRoom : {S : Type 0} → Ghosts S → Limits → Machine → Command → (old : Kept S) → Type 0
HasRoom g l s (import_file name user body) old = HasRoomIfWritten l s (import_file name user body) body
    (length body) (state g old.conn)
HasRoom g l s (correct n base user body) old = HasRoomIfWritten l s (correct n base user body) body 1
    (state g old.conn)
HasRoom g l s _ old = ⊤

-- When a command blames the device: the store was shut, its disk failed, or there was no room. In any other case the
-- desk is in doubt: memory ran out twice.
abbrev pub BlamesFor : {S : Type 0} → Ghosts S → Limits → Machine → Command → (old new : Kept S) → Type 0
BlamesFor g l s c old new = HasRoom g l s c old → IsFaultless g old.conn new.conn → IsTrue new.in_doubt

-- the command is for a sentence that does not exist
abbrev pub IsForNone : Machine → Command → Type 0
IsForNone s (correct n base user body) = HasNoSentence s n
IsForNone s (pull n user) = HasNoSentence s n
IsForNone s (restore n user) = HasNoSentence s n
IsForNone s _ = ⊥

-- In this state the command has the machine's answer, and its next state outlasts a crash. Or memory ran out, and the
-- state outlasts a crash unchanged. Or the device failed, for a cause; then the same holds while the store is open.
-- A command for a sentence that does not exist never fails.
abbrev pub IsAnswered : {S : Type 0} → Ghosts S → Limits → Machine → Command → (old new : Kept S) → Reply
    → Type 0
IsAnswered g l s c old new r =
    ((a : Answer) × (t : Machine) × Steps l s c a t × IsDurable g new t × (r ≡ reply_for a))
    ⊎ ((r ≡ reply.Memory) × IsDurable g new s × (IsForNone s c → ⊥))
    ⊎ ((r ≡ reply.Device) × (IsTrue (state g new.conn).is_open → IsDurable g new s) × BlamesFor g l s c old new
    × (IsForNone s c → ⊥))

-- The command was obeyed: it has this answer in the state that the desk represents, and a crash of it leaves what it may.
pub record IsObeyed {S : Type 0} (g : Ghosts S) (c : Command) (old new : Kept S) (r : Reply) : Type 0 where
  pub answered : InState g old new (λ s. IsAnswered g old.limits s c old new r)
  pub crash : CrashesWhole g old new c
  pub limits : new.limits ≡ old.limits
