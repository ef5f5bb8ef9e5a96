-- What a whole program answers, and its exit status.
use Rattle.std.specs.Prelude.{◌≡◌, ◌⊎◌, ℕ, List, Bool, true, false, Option, None, Some, option_and_then, slice_get}
use Rattle.std.specs.Io.KnownBytes.{Keeps}
use Rattle.std.specs.Path.{path_file_name}
use Rattle.std.specs.declared.io.ErrorKind.{ErrorKind}
use Rattle.std.specs.declared.io.ErrorKind.TheVariants.{OutOfMemory}
use Rattle.tb_check.specs.Check.{Answers}
use Rattle.tb_check.specs.Words.{asks_check}
use Rattle.tb_conllu.specs.declared.fault.WriteFault.{WriteFault}
use Rattle.tb_conllu.specs.declared.source.SourceFault.{SourceFault}
use Rattle.tb_desk.specs.Checked.{IsReplyToAsked}
use Rattle.tb_desk.specs.Lines.{AreWordsRun}
use Rattle.tb_desk.specs.Told.{IsCheckExplainedBy, WithTold}
use Rattle.tb_host.specs.Reported.{IsTold}
use Rattle.tb_desk.specs.Viewing.{AreWordsShown}
use Rattle.tb_host.specs.declared.causes.Cause.{Cause}
use Rattle.tb_host.specs.declared.diagnostics.Diagnostic.{Diagnostic}
use Rattle.tb_host.specs.declared.streams.Typed.{Typed}

-- How words are answered: what is taken and asked of an input, what is written, the exit status, whether words are
-- wanted beside the answer, and which cause is told.
abbrev pub AnswersWords : Type 1
AnswersWords = (R Why Reason : Type 0) → (is_failure : R → Why → Type 0) → (unread : R → Option (List ℕ))
    → (pieces : R → Option (List (List ℕ))) → (before after : R) → (held holds : Option (List ℕ))
    → (is_refusal : Reason → Type 0) → (status : ℕ) → (is_wanted : Bool) → (is_told : Option Cause → Type 0)
    → (words : List (List ℕ)) → Type 0

-- `treedesk` checks the input, or does a line on a desk
pub record DoesWords (R Why Reason : Type 0) (is_failure : R → Why → Type 0) (unread : R → Option (List ℕ))
    (pieces : R → Option (List (List ℕ))) (before after : R) (held holds : Option (List ℕ))
    (is_refusal : Reason → Type 0) (status : ℕ) (is_wanted : Bool) (is_told : Option Cause → Type 0)
    (words : List (List ℕ)) : Type 0 where
  pub check : asks_check words ≡ true → Answers (λ reply.
      IsReplyToAsked (is_failure after) (unread before) (unread after) (pieces before) (pieces after) reply
      × WithTold is_told (IsCheckExplainedBy is_wanted reply)) held holds is_refusal status
  pub line : asks_check words ≡ false
      → AreWordsRun is_failure unread pieces before after held holds is_refusal status is_wanted is_told words

-- `deskview` shows what the words ask to see
abbrev pub ShowsWords : AnswersWords
ShowsWords R Why Reason is_failure unread pieces before after held holds is_refusal status is_wanted is_told words =
    AreWordsShown is_failure unread pieces before after held holds is_refusal status is_wanted is_told words

module _ {R Why W Reason : Type 0} (is_failure : R → Why → Type 0) (unread : R → Option (List ℕ))
    (pieces : R → Option (List (List ℕ))) (before after : R) (holding : W → Option (List ℕ))
    (is_refusal : W → Reason → Type 0) (begun ended : W) where
  -- Words were answered once, and what was written was handed on. The exit status is the answer's, or 3 where the sink
  -- refused to hand it on.
  pub record IsEndOf (answers : AnswersWords) (words : List (List ℕ)) (is_wanted : Bool) (status : ℕ)
      (reported : Option Diagnostic) : Type 0 where
    pub written : W
    pub answered : ℕ
    pub done : answers R Why Reason is_failure unread pieces before after (holding begun) (holding written)
        (is_refusal written) answered is_wanted (IsTold reported) words
    pub flushed : Keeps (holding written) (holding ended)
    pub ends : (status ≡ answered) ⊎ (((reason : Reason) × is_refusal ended reason) × (status ≡ 3))

-- the same of standard input and output, of which nothing is known
pub record IsEnd (answers : AnswersWords) (words : List (List ℕ)) (status : ℕ) (reported : Option Diagnostic)
    : Type 0 where
  pub is_wanted : Bool
  pub before : Typed
  pub after : Typed
  pub held : Option (List ℕ)
  pub holds : Option (List ℕ)
  pub ended : IsEndOf (λ (_ : Typed) (_ : SourceFault). Unit {0}) (λ _. None) (λ _. None) before after
      (λ (bytes : Option (List ℕ)). bytes) (λ (_ : Option (List ℕ)) (_ : WriteFault). Unit {0}) held holds answers words
      is_wanted status reported

-- the exit status of a run with words: that of their answer, or 3, where memory runs out or an output is lost
abbrev pub IsExitWith : AnswersWords → (words : List (List ℕ)) → (status : ℕ) → Type 0
IsExitWith answers words status = ((reported : Option Diagnostic) × IsEnd answers words status reported) ⊎ (status ≡ 3)

-- the exit status of a run whose words did not come: 3 for want of memory, and 2 or 3 for a word that is no text
abbrev pub IsExitWithout : ErrorKind → (status : ℕ) → Type 0
IsExitWithout kind status = (kind ≡ OutOfMemory → status ≡ 3) × ((status ≡ 2) ⊎ (status ≡ 3))

-- words call a program by a name: the first of them is a path to a file of that name
abbrev pub IsCalled : (name : List ℕ) → (words : List (List ℕ)) → Type 0
IsCalled name words = option_and_then path_file_name (slice_get words 0) ≡ Some name
