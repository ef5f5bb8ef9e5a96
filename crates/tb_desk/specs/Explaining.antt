-- Inner: no contract beyond this crate cites a definition of this module.
-- What is explained beside an answer.
use Rattle.std.specs.Prelude.{◌≡◌, ◌&&◌, ◌++◌, List, [], ◌∷◌, ℕ, length, nat_lt, Bool, false, if◌then◌else◌}
use Rattle.std.specs.Prelude.{Option, Some, None, IfSome, is_some, ⊤}
use Rattle.tb_answer.specs.declared.written.Written.{Written}
use Rattle.tb_answer.specs.declared.written.Written.TheVariants as written
use Rattle.tb_cli.specs.Lines.{Said, import_batch, step_batch, correct, pull, restore, export, search, count}
use Rattle.tb_words.specs.declared.refusals.Asked.{Asked}
use Rattle.tb_words.specs.declared.refusals.Asked.TheVariants as asks
use Rattle.tb_words.specs.Explained.{is_explained}
use Rattle.tb_host.specs.Reported.{IsOfAnswer}
use Rattle.tb_host.specs.declared.diagnostics.Diagnostic.{Diagnostic}
use Rattle.tb_host.specs.declared.causes.Cause.{Cause}
use Rattle.tb_host.specs.declared.causes.Cause.TheVariants.{NothingKept, NothingThere}
use Rattle.tb_http.specs.declared.replies.Reply.{Reply}
use Rattle.tb_desk.specs.Told.{IsOwnCause}

-- What a user has to know of a line that was done on a desk in memory: nothing was there to read, or nothing is kept.
abbrev pub cause_in_memory : Said → Option Cause
cause_in_memory (search db strategy context query) = Some NothingThere
cause_in_memory (count db strategy column query) = Some NothingThere
cause_in_memory (export db None) = Some NothingThere
cause_in_memory (import_batch db user name) = Some NothingKept
cause_in_memory (step_batch db user name event) = Some NothingKept
cause_in_memory (correct db user n base) = Some NothingKept
cause_in_memory (pull db user n) = Some NothingKept
cause_in_memory (restore db user n) = Some NothingKept
cause_in_memory _ = None

-- What a line asks, as far as the words for a refusal depend on it: a step, a correction of a revision, a pull or a
-- restore, or what a query finds.
abbrev pub IsAskedBy : Said → Asked → Type 0
IsAskedBy (step_batch db user name event) asked = asked ≡ asks.Event
IsAskedBy (correct db user n base) asked = asked ≡ asks.Correction base
IsAskedBy (pull db user n) asked = asked ≡ asks.Pull
IsAskedBy (restore db user n) asked = asked ≡ asks.Pull
IsAskedBy (search db strategy context query) (asks.Query text) = text.now ≡ query
IsAskedBy (count db strategy column query) (asks.Query text) = text.now ≡ query
IsAskedBy (search db strategy context query) _ = ⊥
IsAskedBy (count db strategy column query) _ = ⊥
IsAskedBy _ asked = asked ≡ asks.Other

-- a reply is explained in words, where words are wanted and there are some for it
abbrev pub IsExplained : (is_wanted : Bool) → Reply → (reported : Option Diagnostic) → Type 0
IsExplained is_wanted r reported = (is_some reported ≡ (is_wanted && is_explained r))
    × IfSome reported (λ d. IsOfAnswer d.cause)

-- where no words are wanted, what is reported is a cause of its own
abbrev pub ReportsNoWords : (is_wanted : Bool) → (reported : Option Diagnostic) → Type 0
ReportsNoWords is_wanted reported = is_wanted ≡ false → IfSome reported (λ d. IsOwnCause d.cause)

-- the same of what was written, where it is a reply
abbrev pub IsExplainedAs : (is_wanted : Bool) → Written → (reported : Option Diagnostic) → Type 0
IsExplainedAs is_wanted (written.Reply r) reported = IsExplained is_wanted r reported
IsExplainedAs is_wanted (written.Text bytes) reported = ⊤
IsExplainedAs is_wanted (written.Table hits) reported = ⊤
IsExplainedAs is_wanted (written.Found ending) reported = ⊤
IsExplainedAs is_wanted written.Usage reported = ⊤

-- a line with one byte more, of which 4,096 are kept
abbrev pub with_byte : List ℕ → ℕ → List ℕ
with_byte line byte = if nat_lt (length line) 4096 then line ++ byte ∷ [] else line
