-- How a request is answered over HTTP, and what it leaves of the desk.
use Rattle.std.specs.Prelude.{◌≡◌, ◌⊎◌, ℕ, List, Option, Some, None, Result, Ok, Err, IsTrue, IfSome, ⊤}
use Rattle.std.specs.Str.{IsUtf8}
use Rattle.sqlite.specs.Store.{Ghosts}
use Rattle.sqlite.specs.Held.{state}
use Rattle.tb_core.specs.declared.limits.Limits.{Limits}
use Rattle.tb_core.specs.Machine.{Machine}
use Rattle.tb_http.specs.declared.asks.RequestFault.TheVariants.{Body}
use Rattle.tb_http.specs.declared.replies.Reply.{Reply}
use Rattle.tb_http.specs.declared.replies.Reply.TheVariants.{Faulty, Memory}
use Rattle.tb_http.specs.declared.status.Status.{Status}
use Rattle.tb_http.specs.Actions.{Act, export_batch, export_released, search, count}
use Rattle.tb_http.specs.Asks.{Outcome, refused, called, Asks, body_limit}
use Rattle.tb_http.specs.Faults.{BeginsBody}
use Rattle.tb_http.specs.Replies.{status_of}
use Rattle.tb_store.specs.Kept.{Kept}
use Rattle.tb_store.specs.Represents.{Represents}
use Rattle.tb_store.specs.Calls.{InState}
use Rattle.tb_answer.specs.Calls.{CallText, call_asked, IsSafe, ReadsOnly}
use Rattle.tb_answer.specs.Responses.{reply_response, IsResponse, IsSent}
use Rattle.tb_answer.specs.Commanded.{HasFailed}
use Rattle.tb_answer.specs.Exported.{IsExportResponse}
use Rattle.tb_answer.specs.Found.{IsSearchResponse, IsCountResponse}
use Rattle.tb_answer.specs.declared.answering.Broken.{Broken}
use Rattle.tb_answer.specs.declared.answering.Broken.TheVariants.{Write}

-- ---- what a request asks

-- what the bytes of a reader ask, where its contract names them
abbrev pub AsksKnown : Option (List ℕ) → Outcome → Type 0
AsksKnown bytes reported = IfSome bytes (λ b. Asks body_limit b reported)

-- the actions that ask for an export, a search or a count
abbrev pub AsksText : Act → Type 0
AsksText (export_batch name) = ⊤
AsksText export_released = ⊤
AsksText (search strategy context) = ⊤
AsksText (count strategy column) = ⊤
AsksText _ = ⊥

-- ---- what a sink has of the response, and the status of one that was written whole

module _ {Reason : Type 0} (before after : Option (List ℕ)) (is_refusal : Reason
    → Type 0) (sent : Option Status) where
  -- a response of which this holds
  abbrev pub IsSentAs : (List ℕ → Status → Type 0) → Type 0
  IsSentAs P = (text : List ℕ) × (status : Status) × P text status
      × IsSent before after text status is_refusal sent

  -- the response whose body is the line of a reply
  abbrev pub IsReplySent : Reply → Type 0
  IsReplySent r = IsSent before after (reply_response r) (status_of r) is_refusal sent

  -- the body of a search or a count has to be text
  abbrev pub ForText : (body : List ℕ) → Type 0 → Type 0
  ForText body P = ((¬ (IsUtf8 body)) × IsReplySent (Faulty Body)) ⊎ (IsUtf8 body × P)

  -- the response of an export, a search or a count in a state
  abbrev pub IsTextSent : (cause : Type 0) → Limits → Machine → Act → (body : List ℕ) → Type 0
  IsTextSent cause l s (export_batch name) body = IsSentAs (IsExportResponse cause s (Some name))
  IsTextSent cause l s export_released body = IsSentAs (IsExportResponse cause s None)
  IsTextSent cause l s (search strategy context) body = ForText body (IsSearchResponse cause l s (record {
    query = body;
    strategy = strategy;
    context = context;
  }) before after is_refusal sent)
  IsTextSent cause l s (count strategy column) body = ForText body (IsSentAs (IsCountResponse cause l s (record {
    query = body;
    strategy = strategy;
    column = column;
  })))
  IsTextSent cause l s _ body = ⊥

  -- the response of a command or a question in a state; else that of a text, and the desk still represents the state
  abbrev pub IsCallSent : {S : Type 0} → Ghosts S → Limits → Machine → Option CallText → Act
      → (body : List ℕ) → (old new : Kept S) → Type 0
  IsCallSent g l s (Some call) act body old new = IsSentAs (IsResponse g l s call old new)
  IsCallSent g l s None act body old new = (IsTrue (state g new.conn).is_open → Represents g new s)
      × IsTextSent (HasFailed g old new) l s act body

  -- The response to what a request says, in a state: that of its call; or the line of its fault, and the desk is
  -- unchanged.
  abbrev pub IsReplied : {S : Type 0} → Ghosts S → Limits → Machine → Outcome → (old new : Kept S) → Type 0
  IsReplied g l s (refused why) old new = (new ≡ old) × IsReplySent (Faulty why)
  IsReplied g l s (called c) old new = IsCallSent g l s (call_asked c.act c.user c.body) c.act c.body
      old new

  -- The response to the bytes of a request, in a state: to what they ask. Or memory ran out for a body that they begin,
  -- before anything was done.
  abbrev pub IsAnswerTo : {S : Type 0} → Ghosts S → Limits → Machine → (bytes : Option (List ℕ))
      → (old new : Kept S) → Type 0
  IsAnswerTo g l s bytes old new =
      ((reported : Outcome) × AsksKnown bytes reported × IsReplied g l s reported old new)
      ⊎ ((new ≡ old) × IfSome bytes (BeginsBody body_limit) × IsReplySent Memory)

-- ---- what a crash leaves

-- a crash of a command leaves the tables of a state in which it ends; any other call writes nothing
abbrev pub IsSafeCall : {S : Type 0} → Ghosts S → Option CallText → (old new : Kept S) → Type 0
IsSafeCall g (Some call) old new = IsSafe g call old new
IsSafeCall g None old new = ReadsOnly g old new

abbrev pub IsSafeFor : {S : Type 0} → Ghosts S → Outcome → (old new : Kept S) → Type 0
IsSafeFor g (refused why) old new = new ≡ old
IsSafeFor g (called c) old new = IsSafeCall g (call_asked c.act c.user c.body) old new

-- the desk is unchanged, or a crash leaves what a crash of the asked call may leave
abbrev pub IsSafeOf : {S : Type 0} → Ghosts S → (bytes : Option (List ℕ)) → (old new : Kept S) → Type 0
IsSafeOf g bytes old new = (new ≡ old) ⊎ ((reported : Outcome) × AsksKnown bytes reported
    × IsSafeFor g reported old new)

-- ---- the result for the caller

-- the status of a response that was written whole, or that the sink refused a part
abbrev pub outcome : Option Status → Result Status Broken
outcome (Some status) = Ok status
outcome None = Err Write

-- The response to the bytes of a request in a state, and the result for the caller.
abbrev pub IsServed : {S Reason : Type 0} → Ghosts S → Limits → Machine → (bytes : Option (List ℕ))
    → (old new : Kept S)
    → (before after : Option (List ℕ)) → (Reason → Type 0) → Result Status Broken → Type 0
IsServed g l s bytes old new before after is_refusal result =
    (sent : Option Status) × IsAnswerTo before after is_refusal sent g l s bytes old new × (result ≡ outcome sent)

-- The same in the state that the desk represents.
abbrev pub Serves : {S Reason : Type 0} → Ghosts S → (bytes : Option (List ℕ)) → (old new : Kept S)
    → (before after : Option (List ℕ)) → (Reason → Type 0) → Result Status Broken → Type 0
Serves g bytes old new before after is_refusal result =
    InState g old new (λ s. IsServed g old.limits s bytes old new before after is_refusal result)
