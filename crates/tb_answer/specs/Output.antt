-- What a sink holds after an answer, and the exit status.
use Rattle.std.specs.Prelude.{◌≡◌, ◌⊎◌, ℕ, List, Option}
use Rattle.std.specs.Io.KnownBytes.{Appends}
use Rattle.tb_conllu.specs.Sunk.{AppendsPart}
use Rattle.tb_search.specs.Visited.{HasReason}

-- The text was written whole, and the status is its own. Or the sink refused it for one of its reasons: then it holds a
-- first part of it, and the status is 3.
abbrev pub IsWritten : {Reason : Type 0} → (old new : Option (List ℕ)) → (text : List ℕ) → (own : ℕ)
    → (Reason → Type 0) → (status : ℕ) → Type 0
IsWritten old new text own is_refusal status =
    (Appends old new text × (status ≡ own)) ⊎ (AppendsPart old new text × HasReason is_refusal × (status ≡ 3))
