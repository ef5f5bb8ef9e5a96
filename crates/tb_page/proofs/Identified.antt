-- What is said of a `sent_id` that is UTF-8.
use Rattle.std.proofs.Common.{◌≡◌, ℕ, List, inl, inr, subst}
use Rattle.std.specs.Str.{IsUtf8}
use Rattle.tb_core.specs.declared.refusals.Fault.TheVariants.{Refused}
use Rattle.tb_core.specs.Machine.{Machine}
use Rattle.tb_http.specs.declared.replies.Reply.{Reply}
use Rattle.tb_store.specs.Answers.{RefusesId}
use Rattle.tb_answer.specs.Viewed.{IsReportedAs}
use Rattle.tb_page.specs.Lists.{LacksId}

pub lacking : {cause : Type 0} (s : Machine) (id other : List ℕ) (r : Reply) → other ≡ id → IsUtf8 id → IsReportedAs cause (λ why. RefusesId s other (Refused why)) r
    → IsReportedAs cause (LacksId s id) r
lacking s id other r same text (inl (refusal, is, so)) = inl (refusal, is, inl (text, subst (λ i. RefusesId s i (Refused refusal)) same so))
lacking s id other r same text (inr failed) = inr failed
