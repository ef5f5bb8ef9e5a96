-- How a server with the page answers a request, and what it leaves of the desk.
use Rattle.std.specs.Prelude.{◌≡◌, ◌≢◌, ◌⊎◌, ◌++◌, ℕ, List, codes, length, Option, Some, Result, Err, ⊤}
use Rattle.sqlite.specs.Store.{Ghosts}
use Rattle.tb_core.specs.Machine.{Machine}
use Rattle.tb_http.specs.declared.actions.Allow.{Allow}
use Rattle.tb_http.specs.declared.replies.Reply.{Reply}
use Rattle.tb_http.specs.declared.replies.Reply.TheVariants.{Faulty}
use Rattle.tb_http.specs.declared.status.Status.{Status}
use Rattle.tb_http.specs.declared.status.Status.TheVariants.{Ok as Done, Forbidden, MethodNotAllowed}
use Rattle.tb_http.specs.Replies.{reply_text, status_of}
use Rattle.tb_store.specs.Calls.{InState, KeepsState}
use Rattle.tb_store.specs.Kept.{Kept}
use Rattle.tb_answer.specs.Calls.{ReadsOnly}
use Rattle.tb_answer.specs.Commanded.{HasFailed}
use Rattle.tb_answer.specs.Responses.{IsSent}
use Rattle.tb_answer.specs.Served.{IsSafeOf, Serves, outcome}
use Rattle.tb_answer.specs.Viewed.{IsReportedAs}
use Rattle.tb_answer.specs.declared.answering.Broken.{Broken}
use Rattle.tb_answer.specs.declared.answering.Broken.TheVariants.{Read}
use Rattle.tb_page.specs.declared.guard.Foreign.{Foreign}
use Rattle.tb_page.specs.declared.guard.Foreign.TheVariants as why
use Rattle.tb_page.specs.declared.heads.Kind.TheVariants.{Plain}
use Rattle.tb_page.specs.declared.paths.File.{File}
use Rattle.tb_page.specs.Files.{file_kind, file_text}
use Rattle.tb_page.specs.Checked.{IsCheckResponse}
use Rattle.tb_page.specs.Heads.{page_head, page_response}
use Rattle.tb_page.specs.Lists.{IsList, LeavesForList, RefusesList}
use Rattle.tb_page.specs.Paths.{ListText}
use Rattle.tb_page.specs.Visits.{VisitText, no_head, foreign, file, list, check, no_text, no_method, desk}

-- the response to a request that the guard refuses
abbrev pub foreign_response : Foreign → List ℕ
foreign_response why.Host = page_response Forbidden Plain (codes "refused host\n")
foreign_response why.Origin = page_response Forbidden Plain (codes "refused origin\n")

-- the response to a method that a path of the page does not have, with those that it has
abbrev pub method_response : Allow → List ℕ
method_response allow = page_head MethodNotAllowed (Some allow) Plain (length (codes "refused method\n"))
    ++ codes "refused method\n"

-- the response with a file
abbrev pub file_response : File → List ℕ
file_response f = page_response Done (file_kind f) (file_text f)

-- The response with a list in a state, or the line of why there is none, and its status.
abbrev pub IsListResponse : (cause : Type 0) → Machine → ListText → (text : List ℕ) → Status → Type 0
IsListResponse cause s l text status =
    ((body : List ℕ) × IsList s l body × (text ≡ page_response Done Plain body) × (status ≡ Done))
    ⊎ ((r : Reply) × IsReportedAs cause (RefusesList s l) r
    × (text ≡ page_response (status_of r) Plain (reply_text r)) × (status ≡ status_of r))

module _ {S Reason : Type 0} (g : Ghosts S) (old new : Kept S) (before after : Option (List ℕ))
    (is_refusal : Reason → Type 0) (result : Result Status Broken) where
  -- the response was sent, and the desk is unchanged
  abbrev pub Sends : (text : List ℕ) → Status → Type 0
  Sends text status = (new ≡ old) × (sent : Option Status) × IsSent before after text status is_refusal sent
      × (result ≡ outcome sent)

  -- the response with a list was sent, and the desk represents the same state
  abbrev pub SendsList : ListText → Type 0
  SendsList l = KeepsState g old new × ReadsOnly g old new × InState g old new (λ s. (text : List ℕ) × (status : Status)
      × IsListResponse (HasFailed g old new) s l text status × (sent : Option Status)
      × IsSent before after text status is_refusal sent × (result ≡ outcome sent))

  -- the desk answered these bytes, as a server without the page does
  abbrev pub Passes : (bytes : Option (List ℕ)) → Type 0
  Passes bytes = (result ≢ Err Read → Serves g bytes old new before after is_refusal result)
      × (result ≡ Err Read → (new ≡ old) × (after ≡ before)) × IsSafeOf g bytes old new

  -- What is asked is answered. The desk alone answers what is asked of it, with all bytes of the reader; where there is no
  -- head in the bytes that came, these are all that it gets.
  abbrev pub AnswersVisit : (came : List ℕ) → (bytes : Option (List ℕ)) → VisitText → Type 0
  AnswersVisit came bytes no_head = Passes (Some came)
  AnswersVisit came bytes (foreign why) = Sends (foreign_response why) Forbidden
  AnswersVisit came bytes (file f) = Sends (file_response f) Done
  AnswersVisit came bytes (list l) = SendsList l
  AnswersVisit came bytes (check text) = (response : List ℕ) × (status : Status) × IsCheckResponse text response status
      × Sends response status
  AnswersVisit came bytes (no_text why) = Sends (page_response (status_of (Faulty why)) Plain (reply_text (Faulty why)))
      (status_of (Faulty why))
  AnswersVisit came bytes (no_method allow) = Sends (method_response allow) MethodNotAllowed
  AnswersVisit came bytes desk = Passes bytes

-- The reader is read for the desk alone, and then as this says. Otherwise it is left as it was.
abbrev pub ReadsFor : {R : Type 0} → (old new : R) → VisitText → (as_the_desk : Type 0) → Type 0
ReadsFor old new no_head as_the_desk = new ≡ old
ReadsFor old new (foreign why) as_the_desk = new ≡ old
ReadsFor old new (file f) as_the_desk = new ≡ old
ReadsFor old new (list l) as_the_desk = new ≡ old
ReadsFor old new (check text) as_the_desk = new ≡ old
ReadsFor old new (no_text why) as_the_desk = new ≡ old
ReadsFor old new (no_method allow) as_the_desk = new ≡ old
ReadsFor old new desk as_the_desk = as_the_desk

-- The desk is as it was, but where a list is read of it, or where it is the desk that answers.
abbrev pub LeavesFor : {D : Type 0} → (old new : D) → VisitText → Type 0
LeavesFor old new no_head = ⊤
LeavesFor old new (foreign why) = new ≡ old
LeavesFor old new (file f) = new ≡ old
LeavesFor old new (list l) = LeavesForList old new l
LeavesFor old new (check text) = new ≡ old
LeavesFor old new (no_text why) = new ≡ old
LeavesFor old new (no_method allow) = new ≡ old
LeavesFor old new desk = ⊤
