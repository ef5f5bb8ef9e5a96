-- What was asked for, or why there is none, is what is written.
use Rattle.std.proofs.Common.{◌≡◌, ℕ, List, length, Option, None, Result, Ok, Err, IfOk, IfErr, MatchResult, IsTrue, refl, ap, subst, inl, inr}
use Rattle.sqlite.specs.Store.{Ghosts}
use Rattle.sqlite.specs.Held.{state}
use Rattle.tb_check.specs.Input.{IsAskedFor, IsInput}
use Rattle.tb_check.specs.declared.input.Input.{Input}
use Rattle.tb_check.specs.declared.input.Input.TheVariants as input
use Rattle.tb_core.specs.declared.limits.Limits.{Limits}
use Rattle.tb_core.specs.Machine.{Machine}
use Rattle.tb_http.specs.declared.replies.Reply.{Reply}
use Rattle.tb_http.specs.declared.status.Status.{Status}
use Rattle.tb_http.specs.declared.status.Status.TheVariants as status
use Rattle.tb_http.specs.Replies.{reply_text, exit_of, status_of}
use Rattle.tb_store.specs.Kept.{Kept}
use Rattle.tb_store.specs.Represents.{Represents}
use Rattle.tb_answer.specs.declared.counts.CountTable.{CountTable}
use Rattle.tb_answer.specs.declared.questions.Body.{Body}
use Rattle.tb_answer.specs.declared.questions.Question.{Question}
use Rattle.tb_answer.specs.declared.written.Written.{Written}
use Rattle.tb_answer.specs.declared.written.Written.TheVariants as written
use Rattle.tb_answer.specs.Asked.{IsBody, IsReportedOf}
use Rattle.tb_answer.specs.Calls.{IsOutput, asks}
use Rattle.tb_answer.specs.Commanded.{HasFailed}
use Rattle.tb_answer.specs.Exported.{HasExport, IsExportOutput, IsExportResponse, IsReportedOfExport}
use Rattle.tb_answer.specs.Found.{CountText, IsCounted, IsCountOutput, IsCountResponse, IsReportedOfQuery}
use Rattle.tb_answer.specs.Output.{IsWritten}
use Rattle.tb_answer.specs.Responses.{IsResponse, IsSent, body_response, reply_response}
use Rattle.tb_answer.specs.Taken.{IsBodyAskedFor, IsBodyTaken, body_in}

-- ---- the body of a line

pub body_taken : {Why : Type 0} (is_failure : Why → Type 0) (limit : ℕ) (old new : Option (List ℕ)) (i : Input) → IsInput is_failure limit old new i → IsBodyTaken is_failure limit old new (body_in i)
body_taken is_failure limit old new (input.Whole body) h = h
body_taken is_failure limit old new input.TooLong h = inl (refl, h)
body_taken is_failure limit old new input.Memory h = inr (inl (refl, h))
body_taken is_failure limit old new input.Broken h = inr (inr (refl, h))

pub body_asked : (limit : ℕ) (old new : Option (List (List ℕ))) (i : Input) → IsAskedFor limit old new i → IsBodyAskedFor limit old new (body_in i)
body_asked limit old new (input.Whole body) h = h
body_asked limit old new input.TooLong h = λ other. h
body_asked limit old new input.Memory h = λ other. h
body_asked limit old new input.Broken h = λ other. absurd (other refl)

-- what holds of a plain value holds of the code's value
pub matched : {V E : Type 0} (items : V → List ℕ) (r : Result V E) (t : Result (List ℕ) E) (P : Result (List ℕ) E → Type 0) → MatchResult r (λ v. t ≡ Ok (items v)) (λ e. t ≡ Err e) → P t
    → MatchResult r (λ v. P (Ok (items v))) (λ e. P (Err e))
matched items (Ok v) t P is h = subst P is h
matched items (Err e) t P is h = subst P is h

-- ---- an answer to a question

module _ {S Reason : Type 0} (g : Ghosts S) (l : Limits) (s : Machine) (q : Question) (old new : Kept S) (held holds : Option (List ℕ)) (is_refusal : Reason → Type 0) where
  pub output_of : (status : ℕ) (w : Written) (asked : Result Body Reply) → (IsTrue (state g new.conn).is_open → Represents g new s) → IfOk asked (λ b. IsBody s q b.rev b.text.items)
      → IfErr asked (λ r. IsReportedOf (HasFailed g old new) s q r)
      → MatchResult asked (λ b. IsWritten held holds b.text.items 0 is_refusal status × (w ≡ written.Text (length b.text.items))) (λ r. IsWritten held holds (reply_text r) (exit_of r) is_refusal status × (w ≡ written.Reply r))
      → (text : List ℕ) × (own : ℕ) × IsOutput g l s (asks q) old new text own w × IsWritten held holds text own is_refusal status
  output_of code w (Ok b) stays is none done = (b.text.items, 0, (stays, inl (b.rev, is, refl, done.1)), done.0)
  output_of code w (Err r) stays none reported done = (reply_text r, exit_of r, (stays, inr (r, reported, refl, refl, done.1)), done.0)

  pub response_of : (sent : Option Status) (asked : Result Body Reply) → (IsTrue (state g new.conn).is_open → Represents g new s) → IfOk asked (λ b. IsBody s q b.rev b.text.items)
      → IfErr asked (λ r. IsReportedOf (HasFailed g old new) s q r)
      → MatchResult asked (λ b. IsSent held holds (body_response b.rev b.text.items) status.Ok is_refusal sent) (λ r. IsSent held holds (reply_response r) (status_of r) is_refusal sent)
      → (text : List ℕ) × (code : Status) × IsResponse g l s (asks q) old new text code × IsSent held holds text code is_refusal sent
  response_of sent (Ok b) stays is none done = (body_response b.rev b.text.items, status.Ok, (stays, inl (b.rev, b.text.items, is, refl, refl)), done)
  response_of sent (Err r) stays none reported done = (reply_response r, status_of r, (stays, inr (r, reported, refl, refl)), done)

-- ---- an export

module _ {Reason : Type 0} (cause : Type 0) (s : Machine) (name : Option (List ℕ)) (held holds : Option (List ℕ)) (is_refusal : Reason → Type 0) where
  pub export_output : (status : ℕ) (w : Written) (asked : Result Body Reply) → IfOk asked (λ b. HasExport s name (Ok b.text.items)) → IfErr asked (λ r. IsReportedOfExport cause s name r)
      → MatchResult asked (λ b. IsWritten held holds b.text.items 0 is_refusal status × (w ≡ written.Text (length b.text.items))) (λ r. IsWritten held holds (reply_text r) (exit_of r) is_refusal status × (w ≡ written.Reply r))
      → (text : List ℕ) × (own : ℕ) × IsExportOutput cause s name text own w × IsWritten held holds text own is_refusal status
  export_output code w (Ok b) is none done = (b.text.items, 0, inl (is, refl, done.1), done.0)
  export_output code w (Err r) none reported done = (reply_text r, exit_of r, inr (r, reported, refl, refl, done.1), done.0)

  pub export_response : (sent : Option Status) (asked : Result Body Reply) → IfOk asked (λ b. HasExport s name (Ok b.text.items)) → IfOk asked (λ b. b.rev ≡ None)
      → IfErr asked (λ r. IsReportedOfExport cause s name r)
      → MatchResult asked (λ b. IsSent held holds (body_response b.rev b.text.items) status.Ok is_refusal sent) (λ r. IsSent held holds (reply_response r) (status_of r) is_refusal sent)
      → (text : List ℕ) × (code : Status) × IsExportResponse cause s name text code × IsSent held holds text code is_refusal sent
  export_response sent (Ok b) is plain none done = (body_response b.rev b.text.items, status.Ok, inl (b.text.items, is, ap (λ (rev : Option ℕ). body_response rev b.text.items) plain, refl), done)
  export_response sent (Err r) none plain reported done = (reply_response r, status_of r, inr (r, reported, refl, refl), done)

-- ---- a count

module _ {Reason : Type 0} (cause : Type 0) (l : Limits) (s : Machine) (x : CountText) (held holds : Option (List ℕ)) (is_refusal : Reason → Type 0) where
  pub count_output : (status : ℕ) (w : Written) (counted : Result CountTable Reply) → IfOk counted (λ t. IsCounted l s x t.text.items t.hits) → IfErr counted (λ r. IsReportedOfQuery cause l s x.query x.strategy r)
      → MatchResult counted (λ t. IsWritten held holds t.text.items 0 is_refusal status × (w ≡ written.Table t.hits)) (λ r. IsWritten held holds (reply_text r) (exit_of r) is_refusal status × (w ≡ written.Reply r))
      → (text : List ℕ) × (own : ℕ) × IsCountOutput cause l s x text own w × IsWritten held holds text own is_refusal status
  count_output code w (Ok t) is none done = (t.text.items, 0, inl (t.hits, is, refl, done.1), done.0)
  count_output code w (Err r) none reported done = (reply_text r, exit_of r, inr (r, reported, refl, refl, done.1), done.0)

  pub count_response : (sent : Option Status) (counted : Result CountTable Reply) → IfOk counted (λ t. IsCounted l s x t.text.items t.hits) → IfErr counted (λ r. IsReportedOfQuery cause l s x.query x.strategy r)
      → MatchResult counted (λ t. IsSent held holds (body_response None t.text.items) status.Ok is_refusal sent) (λ r. IsSent held holds (reply_response r) (status_of r) is_refusal sent)
      → (text : List ℕ) × (code : Status) × IsCountResponse cause l s x text code × IsSent held holds text code is_refusal sent
  count_response sent (Ok t) is none done = (body_response None t.text.items, status.Ok, inl (t.text.items, t.hits, is, refl, refl), done)
  count_response sent (Err r) none reported done = (reply_response r, status_of r, inr (r, reported, refl, refl), done)
