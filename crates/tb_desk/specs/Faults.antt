-- What `deskview check` answers: the list of a file's faults, or why there is none.
use Rattle.std.specs.Prelude.{◌⊎◌, ℕ, List, Bool, Option, None}
use Rattle.tb_check.specs.Check.{file_limit}
use Rattle.tb_check.specs.Input.{IsAskedFor, IsInput}
use Rattle.tb_check.specs.declared.input.Input.{Input}
use Rattle.tb_check.specs.declared.input.Input.TheVariants as input
use Rattle.tb_http.specs.declared.asks.RequestFault.TheVariants.{Long}
use Rattle.tb_http.specs.declared.replies.Reply.TheVariants as reply
use Rattle.tb_answer.specs.Output.{IsWritten}
use Rattle.tb_words.specs.FirstFaults.{IsFaultList}
use Rattle.tb_host.specs.declared.causes.Cause.{Cause}
use Rattle.tb_desk.specs.Replies.{IsOutOfMemory, IsReplyWritten}
use Rattle.tb_desk.specs.Told.{IsExplainedBy, WithTold}

module _ {Reason : Type 0} (held holds : Option (List ℕ)) (is_refusal : Reason → Type 0) (status : ℕ)
    (is_told : Option Cause → Type 0) (most : ℕ) where
  -- the list of the file's faults is written, or memory runs out for it
  abbrev pub IsFileAnswered : List ℕ → Type 0
  IsFileAnswered file =
      ((text : List ℕ) × (own : ℕ) × IsFaultList file most text own × IsWritten held holds text own is_refusal status
      × is_told None)
      ⊎ IsOutOfMemory held holds is_refusal status is_told

module _ {Reason : Type 0} (held holds : Option (List ℕ)) (is_refusal : Reason → Type 0) (status : ℕ)
    (is_wanted : Bool) (is_told : Option Cause → Type 0) (most : ℕ) where
  -- The same for what was read of an input, or why it was not read whole. That it is too long is explained where words
  -- are wanted.
  abbrev pub IsInputAnswered : Input → Type 0
  IsInputAnswered (input.Whole file) = IsFileAnswered held holds is_refusal status is_told most file.items
  IsInputAnswered input.TooLong = IsReplyWritten held holds is_refusal status (reply.Faulty Long)
      × WithTold is_told (IsExplainedBy is_wanted (reply.Faulty Long))
  IsInputAnswered input.Memory = IsOutOfMemory held holds is_refusal status is_told
  IsInputAnswered input.Broken = IsReplyWritten held holds is_refusal status reply.Device × is_told None

module _ {Why Reason : Type 0} (is_failure : Why → Type 0) (unread left : Option (List ℕ))
    (given gives : Option (List (List ℕ))) (held holds : Option (List ℕ)) (is_refusal : Reason → Type 0) (status : ℕ)
    (is_wanted : Bool) (is_told : Option Cause → Type 0) (most : ℕ) where
  -- An input of at most `file_limit` bytes is read, and answered. No read comes after its end.
  abbrev pub AreFaultsListed : Type 0
  AreFaultsListed = (came : Input) × IsInput is_failure file_limit unread left came
      × IsAskedFor file_limit given gives came
      × IsInputAnswered held holds is_refusal status is_wanted is_told most came
