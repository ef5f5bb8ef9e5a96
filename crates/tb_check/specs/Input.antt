-- What was read from an input.
use Rattle.std.specs.Prelude.{◌≡◌, ◌≤◌, ◌<◌, ◌+◌, ℕ, List, [], ◌∷◌, length, Option, ⊤}
use Rattle.std.specs.Io.KnownBytes.{Consumes, IsAtEnd}
use Rattle.std.specs.List.{AllByRecursion, concat}
use Rattle.tb_conllu.specs.Pieces.{AllOwed, Gives}
use Rattle.tb_check.specs.declared.input.Input.{Input}
use Rattle.tb_check.specs.declared.input.Input.TheVariants.{Whole, TooLong, Memory, Broken}

-- some bytes were taken of what a source had left, and P holds of how many
abbrev pub TakenSome : Option (List ℕ) → Option (List ℕ) → (ℕ → Type 0) → Type 0
TakenSome old new P = (taken : List ℕ) × Consumes old new taken × P (length taken)

-- the source failed, for one of its reasons, after at most `limit` bytes
abbrev pub IsBrokenWithin : {Why : Type 0} → (Why → Type 0) → ℕ → Option (List ℕ) → Option (List ℕ)
    → Type 0
IsBrokenWithin {Why} is_failure limit old new = ((why : Why) × is_failure why) × TakenSome old new (λ n. n ≤ limit)

-- the outcome, and the bytes that were taken; memory runs out only for bytes that came
abbrev pub IsInput : {Why : Type 0} → (Why → Type 0) → ℕ → Option (List ℕ) → Option (List ℕ) → Input
    → Type 0
IsInput is_failure limit old new (Whole bytes) =
    Consumes old new bytes.items × IsAtEnd new × (length bytes.items ≤ limit)
IsInput is_failure limit old new TooLong = TakenSome old new (λ n. n ≡ limit + 1)
IsInput is_failure limit old new Memory = TakenSome old new (λ n. (0 < n) × (n ≤ limit + 1))
IsInput is_failure limit old new Broken = IsBrokenWithin is_failure limit old new

-- bytes came in pieces, none of which is empty, and each was asked for while at most `limit` bytes had come
abbrev pub CameInPieces : (limit : ℕ) → (old new : Option (List (List ℕ))) → (bytes : List ℕ) → Type 0
CameInPieces limit old new bytes = (ps : List (List ℕ)) × Gives old new ps × (concat ps ≡ bytes)
    × AllByRecursion (λ p. 0 < length p) ps × AllOwed (λ came. length came ≤ limit) [] ps

-- The pieces that a source was asked for. At its end it gives an empty one, and is not asked again. Nothing is said of a
-- source that failed: so where something is said, no read failed.
abbrev pub IsAskedFor : (limit : ℕ) → (old new : Option (List (List ℕ))) → Input → Type 0
IsAskedFor limit old new (Whole bytes) = (before : Option (List (List ℕ))) × CameInPieces limit old before bytes.items
    × Gives before new ([] ∷ [])
IsAskedFor limit old new Broken = ⊤
IsAskedFor limit old new _ = (taken : List ℕ) × CameInPieces limit old new taken

-- what was read whole has at most so many bytes
abbrev pub IsWithin : (limit : ℕ) → Input → Type 0
IsWithin limit (Whole bytes) = length bytes.items ≤ limit
IsWithin limit _ = ⊤
