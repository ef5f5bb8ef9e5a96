-- The calls of a desk that a line of words makes, and what each writes and leaves.
use Rattle.std.specs.Prelude.{◌≡◌, ◌≤◌, ◌<◌, ◌-◌, ◌^◌, ◌⊎◌, ℕ, List, Option, Some, None}
use Rattle.std.specs.Prelude.{IsTrue, length}
use Rattle.sqlite.specs.Store.{Ghosts}
use Rattle.sqlite.specs.Held.{state}
use Rattle.sqlite_trees.specs.View.{doubt}
use Rattle.tb_core.specs.declared.limits.Limits.{Limits}
use Rattle.tb_core.specs.Machine.{Machine}
use Rattle.tb_core.specs.Commands.{Command, import_file, event_on, correct, pull, restore}
use Rattle.tb_http.specs.Actions.{Act}
use Rattle.tb_http.specs.Actions as act
use Rattle.tb_http.specs.declared.replies.Reply.{Reply}
use Rattle.tb_http.specs.Replies.{reply_text, exit_of}
use Rattle.tb_cli.specs.Lines.{Said, import_batch, step_batch, show, totals, moves}
use Rattle.tb_cli.specs.Lines.{correct as correct_said, pull as pull_said, restore as restore_said}
use Rattle.tb_store.specs.Kept.{Kept}
use Rattle.tb_store.specs.Represents.{Represents}
use Rattle.tb_store.specs.Calls.{CrashesWhole, WritesNothing}
use Rattle.tb_answer.specs.declared.calls.DeskCommand.{DeskCommand}
use Rattle.tb_answer.specs.declared.calls.DeskCommand.TheVariants as command
use Rattle.tb_answer.specs.declared.calls.DeskCall.{DeskCall}
use Rattle.tb_answer.specs.declared.calls.DeskCall.TheVariants as call
use Rattle.tb_answer.specs.declared.questions.Question.{Question}
use Rattle.tb_answer.specs.declared.questions.Question.TheVariants as question
use Rattle.tb_answer.specs.declared.written.Written.{Written}
use Rattle.tb_answer.specs.declared.written.Written.TheVariants as written
use Rattle.tb_answer.specs.Commanded.{HasFailed, IsAnswered}
use Rattle.tb_answer.specs.Asked.{IsBody, IsReportedOf}

-- a call of a desk, as plain data
pub data CallText : Type 0 where
  commands : Command → CallText
  asks : Question → CallText

-- the plain data of the code's command and of its call
abbrev pub command_by : DeskCommand → Command
command_by (command.Import name user body) = import_file name.now user.now body.now
command_by (command.Event name event user) = event_on name.now event user.now
command_by (command.Correct n base user body) = correct n base user.now body.now
command_by (command.Pull n user) = pull n user.now
command_by (command.Restore n user) = restore n user.now

abbrev pub call_by : DeskCall → CallText
call_by (call.Command c) = commands (command_by c)
call_by (call.Question q) = asks q

-- the question of a line that shows a sentence
abbrev pub question_of : ℕ → Option ℕ → Question
question_of n None = question.Sentence n
question_of n (Some rev) = question.Revision n rev

-- the call of a line, with this body for an import or a correction; check, new, migrate, export, search, count and
-- serve have none
abbrev pub call_in : Said → (body : List ℕ) → Option CallText
call_in (import_batch db user name) body = Some (commands (import_file name user body))
call_in (step_batch db user name event) body = Some (commands (event_on name event user))
call_in (correct_said db user n base) body = Some (commands (correct n base user body))
call_in (pull_said db user n) body = Some (commands (pull n user))
call_in (restore_said db user n) body = Some (commands (restore n user))
call_in (show db n rev) body = Some (asks (question_of n rev))
call_in (totals db) body = Some (asks question.Totals)
call_in (moves db) body = Some (asks question.Moves)
call_in _ body = None

-- the call of an action of a request; export, released text, search and count have none
abbrev pub call_asked : Act → (user body : List ℕ) → Option CallText
call_asked (act.import_batch name) user body = Some (commands (import_file name user body))
call_asked (act.step_batch name event) user body = Some (commands (event_on name event user))
call_asked (act.correct n base) user body = Some (commands (correct n base user body))
call_asked (act.pull n) user body = Some (commands (pull n user))
call_asked (act.restore n) user body = Some (commands (restore n user))
call_asked (act.sentence n) user body = Some (asks (question.Sentence n))
call_asked (act.revision n rev) user body = Some (asks (question.Revision n rev))
call_asked act.totals user body = Some (asks question.Totals)
call_asked act.moves user body = Some (asks question.Moves)
call_asked _ user body = None

-- The text that answers a call in a state, its own exit status, and the value that says what it is: a reply with its
-- status, or the text of a question with 0.
abbrev pub IsOutput : {S : Type 0} → Ghosts S → Limits → Machine → CallText → (old new : Kept S)
    → (text : List ℕ) → (own : ℕ) → Written → Type 0
IsOutput g l s (commands c) old new text own w = (r : Reply) × IsAnswered g l s c old new r
    × (text ≡ reply_text r) × (own ≡ exit_of r) × (w ≡ written.Reply r)
IsOutput g l s (asks q) old new text own w =
    (IsTrue (state g new.conn).is_open → Represents g new s)
    × (((rev : Option ℕ) × IsBody s q rev text × (own ≡ 0) × (w ≡ written.Text (length text))) ⊎ ((r : Reply)
    × IsReportedOf (HasFailed g old new) s q r × (text ≡ reply_text r) × (own ≡ exit_of r)
    × (w ≡ written.Reply r)))

-- the disk stays doubted where it was, and its count of faults does not fall
abbrev pub ForgetsNothing : {S : Type 0} → Ghosts S → (old new : Kept S) → Type 0
ForgetsNothing g old new =
    (doubt (state g old.conn).is_clean ≤ doubt (state g new.conn).is_clean)
    × ((state g old.conn).faults ≤ (state g new.conn).faults)

-- no new fault of the disk: the count of faults, which saturates at 2 ^ 64 - 1, did not grow
abbrev pub HasNoNewFault : {S : Type 0} → Ghosts S → (old new : Kept S) → Type 0
HasNoNewFault g old new =
    ((state g new.conn).faults ≤ (state g old.conn).faults) × ((state g old.conn).faults < 2 ^ 64 - 1)

-- the call writes nothing that a crash could leave, and the desk is in doubt exactly where it was
abbrev pub ReadsOnly : {S : Type 0} → Ghosts S → (old new : Kept S) → Type 0
ReadsOnly g old new = ForgetsNothing g old new × WritesNothing g old new × (new.in_doubt ≡ old.in_doubt)

-- A crash of a command leaves the tables of a state in which it ends. A question writes nothing.
abbrev pub IsSafe : {S : Type 0} → Ghosts S → CallText → (old new : Kept S) → Type 0
IsSafe g (commands c) old new = CrashesWhole g old new c
IsSafe g (asks q) old new = ReadsOnly g old new
