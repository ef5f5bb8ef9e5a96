-- What the program writes where it reaches no desk, and its exit status.
use Rattle.std.specs.Prelude.{◌≡◌, ◌≢◌, ◌⊎◌, ℕ, List, codes, Option, None, Some}
use Rattle.clap.specs.Values.{kind_of}
use Rattle.clap.specs.declared.error.kind.ErrorKind.{ErrorKind}
use Rattle.clap.specs.declared.error.kind.ErrorKind.TheVariants.{DisplayHelp, DisplayVersion}
use Rattle.tb_http.specs.declared.replies.Reply.{Reply}
use Rattle.tb_http.specs.declared.replies.Reply.TheVariants as reply
use Rattle.tb_http.specs.Replies.{reply_text, exit_of}
use Rattle.tb_cli.specs.Fault.{ComesOnly}
use Rattle.tb_cli.specs.declared.lines.LineFault.{LineFault}
use Rattle.tb_cli.specs.declared.lines.LineFault.TheVariants.{Clap, Usage, Memory}
use Rattle.tb_answer.specs.Output.{IsWritten}
use Rattle.tb_host.specs.declared.causes.Cause.{Cause}
use Rattle.tb_host.specs.declared.causes.Cause.TheVariants as cause
use Rattle.tb_host.specs.declared.causes.FileCause.{FileCause}
use Rattle.tb_host.specs.Causes.{reply_of}

-- the exit status of clap's text: 0 for help and the version, 2 for an error
abbrev pub IsExitOf : ErrorKind → ℕ → Type 0
IsExitOf kind status = ((kind ≡ DisplayHelp) ⊎ (kind ≡ DisplayVersion) → status ≡ 0)
    × (kind ≢ DisplayHelp → kind ≢ DisplayVersion → status ≡ 2)

module _ {Reason : Type 0} (held holds : Option (List ℕ)) (is_refusal : Reason → Type 0) (status : ℕ) where
  -- the line of this reply is written
  abbrev pub IsReplyWritten : Reply → Type 0
  IsReplyWritten r = IsWritten held holds (reply_text r) (exit_of r) is_refusal status

module _ {Reason : Type 0} (held holds : Option (List ℕ)) (is_refusal : Reason → Type 0) (status : ℕ)
    (is_told : Option Cause → Type 0) where
  -- no desk was opened or made in a file, the line for the cause is written, and it is told
  abbrev pub IsFileRefused : Type 0
  IsFileRefused = (c : FileCause) × IsReplyWritten held holds is_refusal status (reply_of c)
      × is_told (Some (cause.File c))

  -- memory runs out: its line is written, and that is told
  abbrev pub IsOutOfMemory : Type 0
  IsOutOfMemory = IsReplyWritten held holds is_refusal status reply.Memory × is_told (Some cause.Memory)

  -- a text of clap's for an error of this kind is written, and nothing more is told, or memory runs out for it
  abbrev pub IsClapWritten : ErrorKind → Type 0
  IsClapWritten kind = ((text : List ℕ) × (own : ℕ) × IsExitOf kind own
      × IsWritten held holds text own is_refusal status × is_told None) ⊎ IsOutOfMemory

  -- why words are no line is written, and what is wrong is told where it is not clap's text
  abbrev pub IsFaultWritten : LineFault → Type 0
  IsFaultWritten (Clap e) = IsClapWritten (kind_of e)
  IsFaultWritten Usage = IsWritten held holds (codes "refused usage\n") 2 is_refusal status
      × ((c : Cause) × is_told (Some c))
  IsFaultWritten Memory = IsOutOfMemory

module _ {R Reason : Type 0} (before after : R) (held holds : Option (List ℕ)) (is_refusal : Reason → Type 0)
    (status : ℕ) (is_told : Option Cause → Type 0) where
  -- Words are no line: nothing is read, and why is written. It is clap's fault only where clap does not take the words,
  -- of a kind that clap has for them, and the desk's own only where they say nothing.
  pub record AreNoLine (not_taken says_nothing : Type 0) (is_answer : LineFault → Type 0) : Type 0 where
    pub fault : LineFault
    pub only : ComesOnly fault not_taken says_nothing
    pub answers : is_answer fault
    pub untouched : after ≡ before
    pub written : IsFaultWritten held holds is_refusal status is_told fault
