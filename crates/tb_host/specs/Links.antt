-- Inner: no contract beyond this crate cites a definition of this module.
-- What a connection to a client has answered.
use Rattle.std.specs.Prelude.{◌≡◌, ℕ, List, [], ◌∷◌, ◌++◌, ⊤, Option, None, Some, Result}
use Rattle.std.specs.declared.io.Error.{Error}

-- an answer to a read or a write: the nanoseconds that it was given, and how many bytes came or went
abbrev pub Answer : Type 0
Answer = ℕ × Result ℕ Error

-- this answer was added to those that are counted
abbrev pub AddsAnswer : (old new : Option (List Answer)) → Answer → Type 0
AddsAnswer None new answer = ⊤
AddsAnswer (Some before) None answer = ⊥
AddsAnswer (Some before) (Some after) answer = after ≡ before ++ answer ∷ []
