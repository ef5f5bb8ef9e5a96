-- The body of a line: what it takes from its input.
use Rattle.std.specs.Prelude.{◌≡◌, ◌≢◌, ◌≤◌, ◌<◌, ◌+◌, ◌⊎◌, ℕ, List, [], ◌∷◌, length, Bool, true}
use Rattle.std.specs.Prelude.{false, Option, Result, Ok, Err}
use Rattle.std.specs.Io.KnownBytes.{Consumes, IsAtEnd}
use Rattle.tb_check.specs.Input.{CameInPieces, TakenSome, IsBrokenWithin}
use Rattle.tb_check.specs.declared.input.Input.{Input}
use Rattle.tb_conllu.specs.Pieces.{Gives}
use Rattle.tb_check.specs.declared.input.Input.TheVariants as input
use Rattle.tb_http.specs.declared.asks.RequestFault.TheVariants.{Long}
use Rattle.tb_http.specs.declared.replies.Reply.{Reply}
use Rattle.tb_http.specs.declared.replies.Reply.TheVariants as reply
use Rattle.tb_cli.specs.Lines.{Said, import_batch, correct}

-- only an import and a correction have a body
abbrev pub has_body : Said → Bool
has_body (import_batch db user name) = true
has_body (correct db user n base) = true
has_body _ = false

-- the body in what was read of an input, or the reply that says why there is none
abbrev pub body_in : Input → Result (List ℕ) Reply
body_in (input.Whole body) = Ok body.items
body_in input.TooLong = Err (reply.Faulty Long)
body_in input.Memory = Err reply.Memory
body_in input.Broken = Err reply.Device

-- The body is the whole input, of at most `limit` bytes. Or the input is longer, and one byte more is taken. Or memory
-- ran out for bytes that came. Or a read failed, as the reader's failure says.
abbrev pub IsBodyTaken : {Why : Type 0} → (Why → Type 0) → (limit : ℕ) → (old new : Option (List ℕ))
    → Result (List ℕ) Reply → Type 0
IsBodyTaken is_failure limit old new (Ok body) = Consumes old new body × IsAtEnd new × (length body ≤ limit)
IsBodyTaken is_failure limit old new (Err r) =
    ((r ≡ reply.Faulty Long) × TakenSome old new (λ n. n ≡ limit + 1))
    ⊎ ((r ≡ reply.Memory) × TakenSome old new (λ n. (0 < n) × (n ≤ limit + 1)))
    ⊎ ((r ≡ reply.Device) × IsBrokenWithin is_failure limit old new)

-- What was asked of the reader for a body. What came whole came in pieces, and the last read gave nothing. A longer body,
-- or one that memory ran out for, came in pieces too. Nothing is said of a reader that failed.
abbrev pub IsBodyAskedFor : (limit : ℕ) → (old new : Option (List (List ℕ))) → Result (List ℕ) Reply → Type 0
IsBodyAskedFor limit old new (Ok body) = (before : Option (List (List ℕ))) × CameInPieces limit old before body
    × Gives before new ([] ∷ [])
IsBodyAskedFor limit old new (Err r) = r ≢ reply.Device → (taken : List ℕ) × CameInPieces limit old new taken

module _ {R Why : Type 0} (is_failure : R → Why → Type 0) (left : R
    → Option (List ℕ)) (limit : ℕ) (said : Said)
    (old new : R) where
  -- A line without a body leaves the reader unchanged.
  abbrev pub IsTaken : Result (List ℕ) Reply → Type 0
  IsTaken taken =
      ((has_body said ≡ true) × IsBodyTaken (is_failure new) limit (left old) (left new) taken)
      ⊎ ((has_body said ≡ false) × (new ≡ old) × (taken ≡ Ok []))

  -- P holds of the body, or of what came in its place
  abbrev pub WithTaken : (Result (List ℕ) Reply → Type 0) → Type 0
  WithTaken P = (taken : Result (List ℕ) Reply) × IsTaken taken × P taken
