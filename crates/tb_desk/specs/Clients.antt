-- Inner: no contract beyond this crate cites a definition of this module.
-- What a server has done at its connections: which came, which were served, and which clients it parted from.
use Rattle.std.specs.Prelude.{◌≡◌, ◌≢◌, ◌++◌, ◌+◌, ℕ, List, [], ◌∷◌, map, length, All, Bool, true, ⊤, Option, None, Some}
use Rattle.std.specs.Prelude.{Result, Ok, Err, IsOk, if◌then◌else◌}
use Rattle.tb_host.specs.declared.causes.Cause.{Cause}
use Rattle.tb_desk.specs.declared.callers.Caller.{Caller}
use Rattle.tb_desk.specs.declared.waiting.Next.{Next}
use Rattle.tb_desk.specs.declared.waiting.Next.TheVariants.{Whole, Late, Broken}

-- a request that was served, and whether its client has an answer, or why the server ends
abbrev pub Served : Type 0
Served = Caller × Result Bool Cause

-- What was noted, in its order.
pub record Notes : Type 0 where
  -- the connections that no longer waited
  pub came : List (Option Next)
  pub served : List Served
  -- the clients whose connections were ended
  pub parted : List Caller
  -- how many times the server waited until all those had ended
  pub partings : ℕ

-- the requests among the connections that were whole
abbrev pub whole_in : List (Option Next) → List Caller
whole_in [] = []
whole_in (Some (Whole caller) ∷ more) = caller ∷ whole_in more
whole_in (Some (Late caller) ∷ more) = whole_in more
whole_in (Some (Broken error) ∷ more) = whole_in more
whole_in (None ∷ more) = whole_in more

-- whether a client has an answer
abbrev pub has_answer : Result Bool Cause → Bool
has_answer (Ok whole) = whole
has_answer (Err cause) = true

-- why the server ends, if it does
abbrev pub end_of : Result Bool Cause → Result (Unit {0}) Cause
end_of (Ok whole) = Ok tt
end_of (Err cause) = Err cause

-- the clients that have an answer
abbrev pub answered_in : List Served → List Caller
answered_in [] = []
answered_in (one ∷ more) = (if has_answer one.1 then one.0 ∷ [] else []) ++ answered_in more

-- Each whole request was served once, in the order in which they came, and each client with an answer was parted from.
abbrev pub AreServed : Notes → Type 0
AreServed notes = (map (λ one. one.0) notes.served ≡ whole_in notes.came) × (notes.parted ≡ answered_in notes.served)

-- no request ended the server
abbrev pub GoesOn : Notes → Type 0
GoesOn notes = All (λ one. IsOk one.1) notes.served

-- the request that was served last ended the server, for this cause
abbrev pub EndsBy : Cause → Notes → Type 0
EndsBy cause notes = (before : List Served) × (caller : Caller) × (notes.served ≡ before ++ (caller, Err cause) ∷ [])

-- what became of what was noted, where that is kept
abbrev pub Become : (old new : Option Notes) → (Notes → Notes → Type 0) → Type 0
Become None new P = ⊤
Become (Some before) None P = ⊥
Become (Some before) (Some after) P = P before after

-- this was noted, and nothing else
abbrev pub IsNoted : (old new : Option Notes) → (Notes → Notes) → Type 0
IsNoted old new f = Become old new (λ before after. after ≡ f before)

abbrev pub with_next : Option Next → Notes → Notes
with_next next notes = record notes { came = notes.came ++ next ∷ [] }

abbrev pub with_served : Caller → Result Bool Cause → Notes → Notes
with_served caller result notes = record notes { served = notes.served ++ (caller, result) ∷ [] }

abbrev pub with_parted : Caller → Notes → Notes
with_parted caller notes = record notes { parted = notes.parted ++ caller ∷ [] }

abbrev pub with_parting : Notes → Notes
with_parting notes = record notes { partings = notes.partings + 1 }

-- a request was served, and its client parted from where it has an answer
abbrev pub with_turn : Caller → Result Bool Cause → Notes → Notes
with_turn caller result notes = record notes {
  served = notes.served ++ (caller, result) ∷ [];
  parted = notes.parted ++ (if has_answer result then caller ∷ [] else []);
}

-- a connection has had its turn: its request was served where it is whole
abbrev pub IsTurn : Option Next → Result (Unit {0}) Cause → (before after : Notes) → Type 0
IsTurn None result before after = (after ≡ before) × (result ≡ Ok tt)
IsTurn (Some (Late caller)) result before after = (after ≡ before) × (result ≡ Ok tt)
IsTurn (Some (Broken error)) result before after = (after ≡ before) × (result ≡ Ok tt)
IsTurn (Some (Whole caller)) result before after = (served : Result Bool Cause)
    × (after ≡ with_turn caller served before) × (result ≡ end_of served)
