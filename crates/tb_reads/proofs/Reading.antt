-- What one turn of a loop over rows reads.
use Rattle.std.proofs.Common.{◌≡◌, ◌≢◌, ℕ, zero, suc, ◌+◌, ◌<◌, List, [], ◌∷◌, ◌++◌, map, length, take, get_or, Some, slice_get, refl, sym, ap, ap₂, ◌∙◌, arith, All}
use Rattle.std.proofs.Math.Seq.{take-suc}
use Rattle.std.proofs.lemmas.List.{map-append, length-map}
use Rattle.sqlite.specs.Order.{Row}
use Rattle.tb_tables.specs.Records.{numbered}
use Rattle.tb_tables.proofs.Keyed.{numbered_more}

module _ {X : Type 0} (row : ℕ → X → Row) where
  length-numbered : (k : ℕ) (xs : List X) → length (numbered row k xs) ≡ length xs
  length-numbered k [] = refl
  length-numbered k (x ∷ xs) = ap suc (length-numbered (suc k) xs)

  numbered_at : (k i : ℕ) (xs : List X) (d : Row) (dx : X) → i < length xs → get_or (numbered row k xs) i d ≡ row (k + i) (get_or xs i dx)
  numbered_at k i [] d dx low = absurd (omega (arith, low))
  numbered_at k zero (x ∷ xs) d dx low = let same : k ≡ k + 0 = omega arith in ap (λ m. row m x) same
  numbered_at k (suc i) (x ∷ xs) d dx low = let same : suc k + i ≡ k + suc i = omega arith in numbered_at (suc k) i xs d dx (omega (arith, low)) ∙ ap (λ m. row m (get_or xs i dx)) same

  pub read_more : {S : Type 0} (of : S → X) (rows : List Row) (found : List S) (k : ℕ) (r : Row) (s : S) → k < length rows → length found ≡ k → take k rows ≡ numbered row 1 (map of found)
      → get_or rows k r ≡ r → r ≡ row (k + 1) (of s) → take (k + 1) rows ≡ numbered row 1 (map of (found ++ s ∷ []))
  read_more of rows found k r s low len so at is =
      let no_is : k + 1 ≡ 1 + length (map of found) = omega (arith, len, length-map found of) in
      let next : k + 1 ≡ suc k = omega arith in
      ap (λ j. take j rows) next ∙ take-suc rows k r low ∙ ap₂ (λ a b. a ++ b ∷ []) so (at ∙ is ∙ ap (λ m. row m (of s)) no_is)
      ∙ sym (numbered_more row 1 (map of found) (of s)) ∙ ap (numbered row 1) (sym (map-append of found (s ∷ [])))

  pub form_here : (Is : X → Type 0) (rows : List Row) (k : ℕ) (r : Row) → k < length rows → get_or rows k r ≡ r → ((x : X) → Is x → r ≢ row (k + 1) x)
      → (xs : List X) → All Is xs → rows ≢ numbered row 1 xs
  form_here Is rows k r low at apart [] each e = absurd (omega (arith, low, ap length e))
  form_here Is rows k r low at apart (x ∷ xs) each e =
      let within : k < length (x ∷ xs) = omega (arith, low, ap length e, length-numbered 1 (x ∷ xs)) in
      let is = sym at ∙ ap (λ rs. get_or rs k r) e ∙ numbered_at 1 k (x ∷ xs) r x within in
      let no_is : 1 + k ≡ k + 1 = omega arith in
      apart (get_or (x ∷ xs) k x) (each k x within) (is ∙ ap (λ m. row m (get_or (x ∷ xs) k x)) no_is)

  -- a row that was read, or the rows before it, tell of the first row that it is a record's
  pub first_read : {S : Type 0} (of : S → X) (rows : List Row) (found : List S) (k : ℕ) (r : Row) (x : X) → k < length rows → length found ≡ k → take k rows ≡ numbered row 1 (map of found)
      → get_or rows k r ≡ r → r ≡ row (k + 1) x → (y : X) × (slice_get rows 0 ≡ Some (row 1 y))
  first_read of [] found k r x low len so at is = absurd (omega (arith, low))
  first_read of (first ∷ rows) found zero r x low len so at is = (x, ap Some (at ∙ is))
  first_read of (first ∷ rows) [] (suc k) r x low len so at is = absurd (omega (arith, len))
  first_read of (first ∷ rows) (s ∷ found) (suc k) r x low len so at is = (of s, ap (λ rs. slice_get rs 0) so)

-- rows that show no number
pub numbered_flat : {X : Type 0} (row : X → Row) (k : ℕ) (xs : List X) → numbered (λ _. row) k xs ≡ map row xs
numbered_flat row k [] = refl
numbered_flat row k (x ∷ xs) = ap (λ rs. row x ∷ rs) (numbered_flat row (suc k) xs)
