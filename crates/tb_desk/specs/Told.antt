-- What is told beside an answer: a cause of its own, or words for the answer where these are wanted.
use Rattle.std.specs.Prelude.{◌≡◌, ◌&&◌, Bool, false, Option, Some, None, IfSome, MatchOption, is_some, ⊤}
use Rattle.tb_check.specs.declared.reply.CheckReply.{CheckReply}
use Rattle.tb_check.specs.declared.reply.CheckReply.TheVariants as check
use Rattle.tb_core.specs.declared.refusals.Refusal.TheVariants as refusal
use Rattle.tb_http.specs.declared.asks.RequestFault.TheVariants as request
use Rattle.tb_http.specs.declared.replies.Reply.{Reply}
use Rattle.tb_http.specs.declared.replies.Reply.TheVariants as reply
use Rattle.tb_host.specs.Reported.{IsOfAnswer}
use Rattle.tb_host.specs.declared.causes.Cause.{Cause}
use Rattle.tb_host.specs.declared.causes.Cause.TheVariants as cause
use Rattle.tb_words.specs.Explained.{is_explained}

-- this is told, a cause or nothing, and P holds of it
abbrev pub WithTold : (is_told : Option Cause → Type 0) → (Option Cause → Type 0) → Type 0
WithTold is_told P = (told : Option Cause) × is_told told × P told

-- a cause that is no words for an answer
abbrev pub IsOwnCause : Cause → Type 0
IsOwnCause (cause.Words words) = ⊥
IsOwnCause _ = ⊤

-- where no words are wanted, none are told
abbrev pub HasNoWords : (is_wanted : Bool) → (told : Option Cause) → Type 0
HasNoWords is_wanted told = is_wanted ≡ false → IfSome told IsOwnCause

-- words for a reply are told where they are wanted and there are some for it, and else nothing
abbrev pub IsExplainedBy : (is_wanted : Bool) → Reply → (told : Option Cause) → Type 0
IsExplainedBy is_wanted r told = (is_some told ≡ (is_wanted && is_explained r)) × IfSome told IsOfAnswer

-- the desk's reply that says the same as the check's, where there are words for it
abbrev pub reply_as_the_desk : CheckReply → Option Reply
reply_as_the_desk (check.Counts sentences words) = None
reply_as_the_desk check.Device = None
reply_as_the_desk (check.Read line code) = Some (reply.Refused (refusal.Read line code))
reply_as_the_desk (check.Rule sentence rule row) = Some (reply.Refused (refusal.Rule sentence rule row))
reply_as_the_desk check.Long = Some (reply.Faulty request.Long)
reply_as_the_desk check.Memory = Some reply.Memory

-- the same for a reply of the check; of counts, and of a device that failed, nothing is told
abbrev pub IsCheckExplainedBy : (is_wanted : Bool) → CheckReply → (told : Option Cause) → Type 0
IsCheckExplainedBy is_wanted r told =
    MatchOption (reply_as_the_desk r) (told ≡ None) (λ as_the_desk. IsExplainedBy is_wanted as_the_desk told)
