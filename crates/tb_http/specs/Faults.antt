-- When what a request asks stays unknown: only where a read was needed, or memory for the body.
use Rattle.std.specs.Prelude.{◌≡◌, ◌<◌, ◌≤◌, ◌⊎◌, ℕ, List, [], ◌++◌, length, Option, Some}
use Rattle.std.specs.Prelude.{IfSome}
use Rattle.std.specs.Io.KnownBytes.{Consumes}
use Rattle.httparse.specs.Grammar.{HasNoRequest, MayBecomeRequest}
use Rattle.tb_http.specs.declared.asks.AskFault.{AskFault}
use Rattle.tb_http.specs.declared.asks.AskFault.TheVariants as ask
use Rattle.tb_http.specs.declared.head.BodyFault.{BodyFault}
use Rattle.tb_http.specs.declared.head.BodyFault.TheVariants as body
use Rattle.tb_http.specs.Actions.{Act, Place, place_of, act_of}
use Rattle.tb_http.specs.Asks.{Front, IsFront, headers_of}
use Rattle.tb_http.specs.Headers.{body_length}

-- the taken bytes hold no complete head, and may become one within the limit
pub record AwaitsHead (taken : List ℕ) : Type 0 where
  pub none : HasNoRequest taken
  pub becoming : MayBecomeRequest taken
  pub room : length taken < 8192

-- the bytes begin with a head that passes each test and gives a body of n bytes
pub record HasCall (limit : ℕ) (bytes : List ℕ) (front : Front) (n : ℕ) : Type 0 where
  pub begins : IsFront bytes front
  pub reported : body_length (headers_of front.head) ≡ Some n
  pub path : (place : Place) × (place_of front.head.target ≡ Some place) × (act : Act)
      × (act_of place front.head.method ≡ Some act)
  pub within : n ≤ limit

-- such a head was taken, and less of its body than it gives
abbrev pub AwaitsBody : ℕ → List ℕ → Type 0
AwaitsBody limit taken = (front : Front) × (n : ℕ) × HasCall limit taken front n × (length front.rest < n)

-- such a head was taken, and the first byte of its body
abbrev pub BeginsBody : ℕ → List ℕ → Type 0
BeginsBody limit taken = (front : Front) × (n : ℕ) × HasCall limit taken front n × (0 < n)
    × (0 < length front.rest)

-- after these bytes a read is needed, for the head or for the body
abbrev pub AwaitsMore : ℕ → List ℕ → Type 0
AwaitsMore limit taken = AwaitsHead taken ⊎ AwaitsBody limit taken

-- this fault is possible after these bytes were taken
abbrev pub IsFaultOf : ℕ → List ℕ → AskFault → Type 0
IsFaultOf limit taken ask.Broken = AwaitsMore limit taken
IsFaultOf limit taken ask.Memory = BeginsBody limit taken

-- at most as many bytes as a head may have, or such a head and at most its body
abbrev pub IsAtMostOne : ℕ → List ℕ → Type 0
IsAtMostOne limit taken =
    (length taken ≤ 8192) ⊎ ((front : Front) × (n : ℕ) × HasCall limit taken front n
    × (length front.rest ≤ n))

-- this fault is possible after these of the n bytes of a body came
abbrev pub IsBodyFaultOf : ℕ → List ℕ → BodyFault → Type 0
IsBodyFaultOf n came body.Read = length came < n
IsBodyFaultOf n came body.Memory = (0 < length came) × (length came ≤ n)

-- why what a request asks is unknown, by why its body did not come
abbrev pub fault_of : BodyFault → AskFault
fault_of body.Read = ask.Broken
fault_of body.Memory = ask.Memory

-- P holds of `before` and then the bytes that were taken from a reader
abbrev pub TakenAfter : List ℕ → Option (List ℕ) → Option (List ℕ) → (List ℕ → Type 0) → Type 0
TakenAfter before old new P = (taken : List ℕ) × Consumes old new taken × P (before ++ taken)

-- at most this many bytes were taken from a reader
abbrev pub TakesAtMost : ℕ → Option (List ℕ) → Option (List ℕ) → Type 0
TakesAtMost most old new = TakenAfter [] old new (λ taken. length taken ≤ most)

-- `start` and all that a reader has are fewer than n bytes
abbrev pub AreTooFew : ℕ → List ℕ → Option (List ℕ) → Type 0
AreTooFew n start left = IfSome left (λ rest. length (start ++ rest) < n)
