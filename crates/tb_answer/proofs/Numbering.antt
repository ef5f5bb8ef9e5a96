-- What is said of the list for a name, said of the list for the number of its batch.
use Rattle.std.proofs.Common.{◌≡◌, ℕ, List, Some, inl, inr}
use Rattle.tb_core.specs.Machine.{Machine}
use Rattle.tb_http.specs.declared.replies.Reply.{Reply}
use Rattle.tb_answer.specs.Exported.{IsReportedOfExport}
use Rattle.tb_answer.specs.Numbered.{RefusesNumber, name_of}
use Rattle.tb_answer.specs.Viewed.{IsReportedAs}
use Rattle.tb_answer.proofs.Failing.{fails_for}

pub numbered : {cause later : Type 0} (s : Machine) (n : ℕ) (name : List ℕ) (r : Reply) → name_of s n ≡ Some name → (cause → later) → IsReportedOfExport cause s (Some name) r
    → IsReportedAs later (RefusesNumber s n) r
numbered s n name r named why (inl (refusal, is, so)) = inl (refusal, is, inr (name, named, so))
numbered s n name r named why (inr (failed, good)) = inr (fails_for r why failed)

pub reported_later : {cause later : Type 0} (s : Machine) (n : ℕ) (r : Reply) → (cause → later) → IsReportedAs cause (RefusesNumber s n) r → IsReportedAs later (RefusesNumber s n) r
reported_later s n r why (inl refused) = inl refused
reported_later s n r why (inr failed) = inr (fails_for r why failed)
