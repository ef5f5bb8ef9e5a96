-- What is asked of a desk that is only read: what the call leaves of the desk, and what it answers. Facts of tables assume a
-- disk that kept what it took (`HasCleanDisk`).
use Rattle.std.specs.Prelude.{◌≡◌, Result, Err}
use Rattle.sqlite.specs.Store.{Ghosts}
use Rattle.tb_core.specs.declared.refusals.Refusal.TheVariants.{NoSuchSentence}
use Rattle.tb_core.specs.Machine.{Machine}
use Rattle.tb_http.specs.declared.replies.Reply.{Reply}
use Rattle.tb_http.specs.declared.replies.Reply.TheVariants as reply
use Rattle.tb_store.specs.Calls.{Gives, GivesOnErr, KeepsState}
use Rattle.tb_store.specs.Kept.{Kept}
use Rattle.tb_store.specs.Represents.{Represents}
use Rattle.tb_answer.specs.declared.questions.Question.{Question}
use Rattle.tb_answer.specs.Asked.{AsksForNone, IsReportedOf}
use Rattle.tb_answer.specs.Calls.{ReadsOnly}
use Rattle.tb_answer.specs.Commanded.{HasFailed}

-- What is left of a desk that is only read. `old` is the desk before the call, `new` the desk after it.
pub record IsOnlyRead {S : Type 0} (g : Ghosts S) (old new : Kept S) : Type 0 where
  -- while the store is open, the desk represents the same state
  pub keeps_state : KeepsState g old new
  -- a crash leaves what it could leave before, and no doubt is raised or settled
  pub crash : ReadsOnly g old new
  pub limits : new.limits ≡ old.limits

-- The answer is so in the state that the desk represents. In its place comes a reply that is so in that state, for this
-- cause of a failure. The desk is only read.
pub record IsReadResult {S X : Type 0} (g : Ghosts S) (old new : Kept S) (result : Result X Reply) (IsSo : Machine → X → Type 0) (IsReported : (cause : Type 0) → Machine → Reply → Type 0) : Type 0 where
  pub answered : Gives g old new result IsSo
  pub reported : GivesOnErr g old new result (IsReported (HasFailed g old new))
  pub read_only : IsOnlyRead g old new

-- The same of a question. What is asked of a sentence that does not exist is refused, whatever fails.
pub record IsQuestionResult {S X : Type 0} (g : Ghosts S) (old new : Kept S) (result : Result X Reply) (q : Question) (IsSo : Machine → X → Type 0) : Type 0 where
  pub read : IsReadResult g old new result IsSo (λ cause s. IsReportedOf cause s q)
  pub missing : (s : Machine) → Represents g old s → AsksForNone s q → result ≡ Err (reply.Refused NoSuchSentence)
