-- Inner: no contract beyond this crate cites a definition of this module.
-- What is done for one request, from the first look at the desk's files on.
use Rattle.std.specs.Prelude.{◌≡◌, ◌≢◌, ◌⊎◌, ◌++◌, List, [], ◌∷◌, Bool, true, false, ⊤, Option, None, Some, Result, Ok, Err}
use Rattle.tb_http.specs.declared.replies.Reply.{Reply}
use Rattle.tb_http.specs.declared.replies.Reply.TheVariants as reply
use Rattle.tb_http.specs.declared.status.Status.{Status}
use Rattle.tb_http.specs.declared.status.Status.TheVariants.{ServiceUnavailable}
use Rattle.tb_answer.specs.declared.answering.Broken.{Broken}
use Rattle.tb_answer.specs.declared.answering.Broken.TheVariants as broken
use Rattle.tb_host.specs.declared.causes.Cause.{Cause}
use Rattle.tb_host.specs.declared.causes.Cause.TheVariants as cause
use Rattle.tb_desk.specs.Serving.{ended_by}
use Rattle.tb_desk.specs.declared.exchanges.Tried.{Tried}
use Rattle.tb_desk.specs.declared.exchanges.Tried.TheVariants as tried

-- one thing that is done for a request
pub data ExchangeStep : Type 0 where
  -- the desk's files were looked for: whether they had left their place
  looked_for : (has_moved : Bool) → ExchangeStep
  -- the line that it is not done was written
  refused : Reply → ExchangeStep
  -- its bytes were asked for: whether they can be read
  begun : (can_be_read : Bool) → ExchangeStep
  -- room for its answer was asked for: whether there is some
  opened : (has_room : Bool) → ExchangeStep
  -- what it asks was done, and the answer was written
  answered_so : Result Status Broken → ExchangeStep
  -- what was written was handed on to the client
  handed_on : ExchangeStep

-- these steps were added to those that are kept
abbrev pub Adds : (old new : Option (List ExchangeStep)) → (more : List ExchangeStep) → Type 0
Adds None new more = ⊤
Adds (Some before) None more = ⊥
Adds (Some before) (Some all) more = all ≡ before ++ more

-- a look at the desk's files; where they have left their place, the client is told so
abbrev pub looked : (has_moved : Bool) → List ExchangeStep
looked true = looked_for true ∷ refused reply.Device ∷ []
looked false = looked_for false ∷ []

-- An attempt to answer. What was written is handed on, also where the answer is not whole.
abbrev pub attempted : Tried → List ExchangeStep
attempted tried.Lost = begun false ∷ []
attempted tried.Memory = begun true ∷ (opened false ∷ [])
attempted (tried.Answered answered) = begun true ∷ (opened true ∷ (answered_so answered ∷ (handed_on ∷ [])))

-- What follows an attempt to answer: a read that failed may have failed because the files have left their place, and a
-- client is told where memory was wanting.
abbrev pub after : Tried → (has_moved : Bool) → List ExchangeStep
after tried.Lost moved = []
after tried.Memory moved = refused reply.Memory ∷ []
after (tried.Answered (Ok status)) moved = []
after (tried.Answered (Err broken.Read)) moved = looked moved
after (tried.Answered (Err broken.Write)) moved = []

-- Whether the client has a whole answer, or why the server ends.
abbrev pub led_to : Tried → (has_moved is_shut : Bool) → Result Bool Cause
led_to tried.Lost moved shut = Ok false
led_to tried.Memory moved shut = Ok true
led_to (tried.Answered answered) moved shut = ended_by answered moved shut

-- A store counts as shut only after a response that says that something failed.
abbrev pub IsShutFor : Tried → (is_shut : Bool) → Type 0
IsShutFor came shut = (code : Status) → came ≡ tried.Answered (Ok code) → code ≢ ServiceUnavailable → shut ≡ false

-- Nothing is done on files that have left their place. Else the request is answered once.
abbrev pub IsExchange : (old new : Option (List ExchangeStep)) → Result Bool Cause → Type 0
IsExchange old new result = (Adds old new (looked true) × (result ≡ Err cause.FilesMoved))
    ⊎ ((tried : Tried) × (moved shut : Bool) × IsShutFor tried shut
    × Adds old new (looked_for false ∷ (attempted tried ++ after tried moved)) × (result ≡ led_to tried moved shut))

-- why a desk cannot be served any further
abbrev pub IsDeskEnd : Cause → Type 0
IsDeskEnd c = (c ≡ cause.FilesMoved) ⊎ (c ≡ cause.FileShut)
