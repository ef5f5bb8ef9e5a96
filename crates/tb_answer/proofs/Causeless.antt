-- What is told of a failed device, told for another cause.
use Rattle.std.proofs.Common.{inl, inr, ℕ, List, Option, Some, None}
use Rattle.tb_match.specs.declared.strategy.Strategy.{Strategy}
use Rattle.tb_core.specs.declared.limits.Limits.{Limits}
use Rattle.tb_core.specs.Machine.{Machine}
use Rattle.tb_http.specs.declared.replies.Reply.{Reply}
use Rattle.tb_http.specs.declared.status.Status.{Status}
use Rattle.tb_http.specs.Actions.{Act}
use Rattle.tb_http.specs.Actions as act
use Rattle.tb_answer.specs.declared.questions.Question.{Question}
use Rattle.tb_answer.specs.Asked.{IsReportedOf}
use Rattle.tb_answer.specs.Exported.{IsExportResponse, IsReportedOfExport}
use Rattle.tb_answer.specs.Found.{CountText, IsCountResponse, IsReportedOfQuery, IsSearchResponse, SearchText}
use Rattle.tb_answer.specs.Served.{ForText, IsSentAs, IsTextSent}
use Rattle.tb_answer.proofs.Failing.{fails_for}

module _ {one other : Type 0} (f : one → other) where
  pub reported_for : (s : Machine) (q : Question) (r : Reply) → IsReportedOf one s q r → IsReportedOf other s q r
  reported_for s q r (inl refused) = inl refused
  reported_for s q r (inr (failed, there)) = inr (fails_for r f failed, there)

  export_for : (s : Machine) (name : Option (List ℕ)) (r : Reply) → IsReportedOfExport one s name r → IsReportedOfExport other s name r
  export_for s name r (inl refused) = inl refused
  export_for s name r (inr (failed, good)) = inr (fails_for r f failed, good)

  export_response_for : (s : Machine) (name : Option (List ℕ)) (text : List ℕ) (code : Status) → IsExportResponse one s name text code → IsExportResponse other s name text code
  export_response_for s name text code (inl whole) = inl whole
  export_response_for s name text code (inr (r, reported, is, status)) = inr (r, export_for s name r reported, is, status)

  query_for : (l : Limits) (s : Machine) (text : List ℕ) (strategy : Strategy) (r : Reply) → IsReportedOfQuery one l s text strategy r → IsReportedOfQuery other l s text strategy r
  query_for l s text strategy r (inl bad) = inl bad
  query_for l s text strategy r (inr (q, is, inl many)) = inr (q, is, inl many)
  query_for l s text strategy r (inr (q, is, inr failed)) = inr (q, is, inr (fails_for r f failed))

  search_for : {Reason : Type 0} (l : Limits) (s : Machine) (x : SearchText) (before after : Option (List ℕ)) (is_refusal : Reason → Type 0) (sent : Option Status)
      → IsSearchResponse one l s x before after is_refusal sent → IsSearchResponse other l s x before after is_refusal sent
  search_for l s x before after is_refusal sent (inl found) = inl found
  search_for l s x before after is_refusal sent (inr (r, reported, rest)) = inr (r, query_for l s x.query x.strategy r reported, rest)

  count_for : (l : Limits) (s : Machine) (x : CountText) (text : List ℕ) (code : Status) → IsCountResponse one l s x text code → IsCountResponse other l s x text code
  count_for l s x text code (inl whole) = inl whole
  count_for l s x text code (inr (r, reported, is, status)) = inr (r, query_for l s x.query x.strategy r reported, is, status)

module _ {Reason : Type 0} (before after : Option (List ℕ)) (is_refusal : Reason → Type 0) (sent : Option Status) where
  sent_for : (P Q : List ℕ → Status → Type 0) → ((text : List ℕ) (code : Status) → P text code → Q text code) → IsSentAs before after is_refusal sent P → IsSentAs before after is_refusal sent Q
  sent_for P Q f h = (h.0, h.1, f h.0 h.1 h.2, h.3)

  text_for : (body : List ℕ) {P Q : Type 0} → (P → Q) → ForText before after is_refusal sent body P → ForText before after is_refusal sent body Q
  text_for body f (inl none) = inl none
  text_for body f (inr (is, h)) = inr (is, f h)

  pub text_sent_for : {one other : Type 0} → (one → other) → (l : Limits) (s : Machine) (a : Act) (body : List ℕ)
      → IsTextSent before after is_refusal sent one l s a body → IsTextSent before after is_refusal sent other l s a body
  text_sent_for f l s (act.export_batch name) body h = sent_for _ _ (export_response_for f s (Some name)) h
  text_sent_for f l s act.export_released body h = sent_for _ _ (export_response_for f s None) h
  text_sent_for f l s (act.search strategy context) body h = text_for body (search_for f l s _ before after is_refusal sent) h
  text_sent_for f l s (act.count strategy column) body h = text_for body (sent_for _ _ (count_for f l s _)) h
  text_sent_for f l s (act.import_batch name) body h = absurd h
  text_sent_for f l s (act.step_batch name event) body h = absurd h
  text_sent_for f l s (act.correct n base) body h = absurd h
  text_sent_for f l s (act.sentence n) body h = absurd h
  text_sent_for f l s (act.revision n rev) body h = absurd h
  text_sent_for f l s (act.pull n) body h = absurd h
  text_sent_for f l s (act.restore n) body h = absurd h
  text_sent_for f l s act.totals body h = absurd h
  text_sent_for f l s act.moves body h = absurd h
