-- What a line of words does on a desk in a state, what a sink holds of the answer, the exit status, and the value that
-- says what was written.
use Rattle.std.specs.Prelude.{◌≡◌, ℕ, List, codes, Option, Some, None, Result, Ok, Err, IsTrue, option_map}
use Rattle.sqlite.specs.Store.{Ghosts}
use Rattle.sqlite.specs.Held.{state}
use Rattle.tb_core.specs.declared.limits.Limits.{Limits}
use Rattle.tb_core.specs.Machine.{Machine}
use Rattle.tb_http.specs.declared.replies.Reply.{Reply}
use Rattle.tb_http.specs.Replies.{reply_text, exit_of}
use Rattle.tb_cli.specs.Lines.{Said, export, search, count}
use Rattle.tb_store.specs.Kept.{Kept}
use Rattle.tb_store.specs.Represents.{Represents}
use Rattle.tb_answer.specs.Calls.{CallText, call_in, IsOutput, IsSafe, ReadsOnly}
use Rattle.tb_answer.specs.Commanded.{HasFailed}
use Rattle.tb_answer.specs.Exported.{IsExportOutput}
use Rattle.tb_answer.specs.Found.{SearchText, CountText, search_by, count_by, IsSearchRun, IsCountOutput}
use Rattle.tb_answer.specs.Output.{IsWritten}
use Rattle.tb_answer.specs.declared.lines.Reading.{Reading}
use Rattle.tb_answer.specs.declared.lines.Reading.TheVariants as reading
use Rattle.tb_answer.specs.declared.written.Written.{Written}
use Rattle.tb_answer.specs.declared.written.Written.TheVariants as written

-- the desk still represents this state, where its store is open
abbrev pub Stays : {S : Type 0} → Ghosts S → Machine → (new : Kept S) → Type 0
Stays g s new = IsTrue (state g new.conn).is_open → Represents g new s

-- A call has the machine's answer, as a line or as a text of the state. A line that is not for a desk makes no call.
abbrev pub IsCalled : {S Reason : Type 0} → Ghosts S → Limits → Machine → Option CallText → (old new : Kept S)
    → (held holds : Option (List ℕ)) → (Reason → Type 0) → Written → (status : ℕ) → Type 0
IsCalled g l s (Some call) old new held holds is_refusal w status = (text : List ℕ) × (own : ℕ)
    × IsOutput g l s call old new text own w × IsWritten held holds text own is_refusal status
IsCalled g l s None old new held holds is_refusal w status = Stays g s new
    × IsWritten held holds (codes "refused usage\n") 2 is_refusal status × (w ≡ written.Usage)

-- What a line reads from a state: an export, a search, a count.
pub data ReadingText : Type 0 where
  exported : Option (List ℕ) → ReadingText
  searched : SearchText → ReadingText
  counted : CountText → ReadingText

-- the plain data of the code's reading
abbrev pub reading_by : Reading → ReadingText
reading_by (reading.Export name) = exported (option_map (λ n. n.now) name)
reading_by (reading.Search x) = searched (search_by x)
reading_by (reading.Count x) = counted (count_by x)

-- what a line reads, if it reads
abbrev pub reading_in : Said → Option ReadingText
reading_in (export db name) = Some (exported name)
reading_in (search db strategy context query) = Some (searched record {
  query = query;
  strategy = strategy;
  context = context;
})
reading_in (count db strategy column query) = Some (counted record {
  query = query;
  strategy = strategy;
  column = column;
})
reading_in _ = None

-- what a sink holds of a reading in a state, and the exit status
abbrev pub IsReadingRun : {Reason : Type 0} → (cause : Type 0) → Limits → Machine → ReadingText
    → (held holds : Option (List ℕ)) → (Reason → Type 0) → Written → (status : ℕ) → Type 0
IsReadingRun cause l s (exported name) held holds is_refusal w status =
    (text : List ℕ) × (own : ℕ) × IsExportOutput cause s name text own w
    × IsWritten held holds text own is_refusal status
IsReadingRun cause l s (searched x) held holds is_refusal w status =
    IsSearchRun cause l s x held holds is_refusal w status
IsReadingRun cause l s (counted x) held holds is_refusal w status = (text : List ℕ) × (own : ℕ)
    × IsCountOutput cause l s x text own w × IsWritten held holds text own is_refusal status

-- How a line with this body ends: by what it reads, after which the desk still represents the state; else by its call.
abbrev pub IsDone : {S Reason : Type 0} → Ghosts S → Limits → Machine → Option ReadingText → Option CallText
    → (old new : Kept S) → (held holds : Option (List ℕ)) → (Reason → Type 0) → Written → (status : ℕ) → Type 0
IsDone g l s (Some x) call old new held holds is_refusal w status = Stays g s new
    × IsReadingRun (HasFailed g old new) l s x held holds is_refusal w status
IsDone g l s None call old new held holds is_refusal w status =
    IsCalled g l s call old new held holds is_refusal w status

-- The same where the body may not have come. Then a reply says why.
abbrev pub IsRanAs : {S Reason : Type 0} → Ghosts S → Limits → Machine → Said
    → (taken : Result (List ℕ) Reply) → (old new : Kept S) → (held holds : Option (List ℕ))
    → (Reason → Type 0) → Written → (status : ℕ) → Type 0
IsRanAs g l s said (Ok body) old new held holds is_refusal w status =
    IsDone g l s (reading_in said) (call_in said body) old new held holds is_refusal w status
IsRanAs g l s said (Err r) old new held holds is_refusal w status = Stays g s new
    × IsWritten held holds (reply_text r) (exit_of r) is_refusal status × (w ≡ written.Reply r)

-- The same for a caller who asks for the exit status alone.
abbrev pub IsRan : {S Reason : Type 0} → Ghosts S → Limits → Machine → Said
    → (taken : Result (List ℕ) Reply) → (old new : Kept S) → (held holds : Option (List ℕ))
    → (Reason → Type 0) → (status : ℕ) → Type 0
IsRan g l s said taken old new held holds is_refusal status =
    (w : Written) × IsRanAs g l s said taken old new held holds is_refusal w status

abbrev pub IsCallSafe : {S : Type 0} → Ghosts S → Option CallText → (old new : Kept S) → Type 0
IsCallSafe g (Some call) old new = IsSafe g call old new
IsCallSafe g None old new = ReadsOnly g old new

abbrev pub IsDoneSafe : {S : Type 0} → Ghosts S → Option ReadingText → Option CallText → (old new : Kept S)
    → Type 0
IsDoneSafe g (Some x) call old new = ReadsOnly g old new
IsDoneSafe g None call old new = IsCallSafe g call old new

-- What a crash leaves of a line: after a command the tables of a state in which it ends. Any other line writes nothing.
abbrev pub IsLineSafe : {S : Type 0} → Ghosts S → Said → (taken : Result (List ℕ) Reply) → (old new : Kept S)
    → Type 0
IsLineSafe g said (Ok body) old new = IsDoneSafe g (reading_in said) (call_in said body) old new
IsLineSafe g said (Err r) old new = ReadsOnly g old new
