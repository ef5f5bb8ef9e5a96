-- What the bytes of a request ask, by tests in their order. Requests are a part of RFC 9112, sections 2 to 6: one head,
-- and a body whose length Content-Length gives.
use Rattle.std.specs.Prelude.{◌≡◌, ◌<◌, ◌≤◌, ℕ, List, length, take, map, Some, None, ⊤}
use Rattle.httparse.specs.Grammar.{RequestHead}
use Rattle.httparse.specs.Spans.{name_and_value}
use Rattle.tb_http.specs.declared.asks.RequestFault.{RequestFault}
use Rattle.tb_http.specs.declared.asks.RequestFault.TheVariants.{Head, Length, Path, Method, Long, Body}
use Rattle.tb_http.specs.declared.asks.Ask.{Ask}
use Rattle.tb_http.specs.declared.asks.Ask.TheVariants as ask
use Rattle.tb_http.specs.Actions.{Act, Place, place_of, act_of, allow_of, act_by}
use Rattle.tb_http.specs.Head.{BeginsWithHead}
use Rattle.tb_http.specs.Headers.{Header, body_length, user_of}
use Rattle.tb_http.specs.Stage.{Stage}

-- the most bytes of a body
abbrev pub body_limit : ℕ
body_limit = 4194304

-- an action, who asks for it, and the body that comes with it
pub record RequestText : Type 0 where
  pub act : Act
  pub user : List ℕ
  pub body : List ℕ

-- what bytes ask: nothing, for a reason, or a call
pub data Outcome : Type 0 where
  refused : RequestFault → Outcome
  called : RequestText → Outcome

-- the headers of a head
abbrev pub headers_of : RequestHead → List Header
headers_of head = map name_and_value head.fields

-- a head, the user that it names, and what follows it
pub record Front : Type 0 where
  pub head : RequestHead
  pub user : List ℕ
  pub rest : List ℕ

-- the bytes begin with this head within the limits, and it names no user twice
pub record IsFront (bytes : List ℕ) (front : Front) : Type 0 where
  pub begins : BeginsWithHead bytes front.head front.rest
  pub named : user_of (headers_of front.head) ≡ Some front.user

-- refused for this reason, where P holds
abbrev pub RefusesFor : RequestFault → Type 0 → Outcome → Type 0
RefusesFor why P reported = P × (reported ≡ refused why)

abbrev pub call_text : Act → List ℕ → List ℕ → Outcome
call_text act user body = called record { act = act; user = user; body = body }

-- the body: n bytes follow
abbrev pub AsksBody : Front → ℕ → Act → Outcome → Type 0
AsksBody f n act reported = Stage (List ℕ) Outcome
    (RefusesFor Body (length f.rest < n)) (λ body. (n ≤ length f.rest) × (body ≡ take n f.rest))
    (λ body t. t ≡ call_text act f.user body) reported

-- the length is within the limit
abbrev pub AsksLong : ℕ → Front → ℕ → Act → Outcome → Type 0
AsksLong limit f n act reported = Stage ⊤ Outcome
    (RefusesFor Long (limit < n)) (λ _. n ≤ limit)
    (λ _. AsksBody f n act) reported

-- the target has this method
abbrev pub AsksMethod : ℕ → Front → ℕ → Place → Outcome → Type 0
AsksMethod limit f n place reported = Stage Act Outcome
    (RefusesFor (Method (allow_of place)) (act_of place f.head.method ≡ None)) (λ act. act_of place f.head.method
    ≡ Some act)
    (AsksLong limit f n) reported

-- the target is one of the desk's
abbrev pub AsksPath : ℕ → Front → ℕ → Outcome → Type 0
AsksPath limit f n reported = Stage Place Outcome
    (RefusesFor Path (place_of f.head.target ≡ None)) (λ place. place_of f.head.target ≡ Some place)
    (AsksMethod limit f n) reported

-- the headers give one length
abbrev pub AsksLength : ℕ → Front → Outcome → Type 0
AsksLength limit f reported = Stage ℕ Outcome
    (RefusesFor Length (body_length (headers_of f.head) ≡ None)) (λ n. body_length (headers_of f.head) ≡ Some n)
    (AsksPath limit f) reported

-- what the bytes ask, where a body may have `limit` bytes; tests the head, its length, path, method, limit and body
abbrev pub Asks : ℕ → List ℕ → Outcome → Type 0
Asks limit bytes reported = Stage Front Outcome
    (RefusesFor Head ((f : Front) → ¬ (IsFront bytes f))) (IsFront bytes)
    (AsksLength limit) reported

-- bytes ask exactly one thing
abbrev pub AsksOneThing : Type 0
AsksOneThing = (limit : ℕ) (bytes : List ℕ) (reported other : Outcome) → Asks limit bytes reported
    → Asks limit bytes other → reported ≡ other

-- the plain data of the code's answer
abbrev pub reported_by : Ask → Outcome
reported_by (ask.Refused why) = refused why
reported_by (ask.Call call) = called record { act = act_by call.action; user = call.user.now; body = call.body.items }
