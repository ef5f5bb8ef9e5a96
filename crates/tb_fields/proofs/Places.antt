use Rattle.std.proofs.Common.{◌≡◌, ℕ, suc, ◌+◌, ◌-◌, ◌<◌, ◌≤◌, List, [], ◌∷◌, length, Bool, true, false, cond, not, ◌||◌, Option, Some, None, Bor, eqb, refl, sym, ◌∙◌, ap, arith, length-drop, length-take-le}
use Rattle.std.specs.List.{list_any, position_or_len, slice_split, onto_first, before_first, after_first}
use Rattle.std.specs.Option.{MatchOption}
use Rattle.std.proofs.Math.Seq.{take-length}
use Rattle.std.proofs.lemmas.List.Splits.{slice_split_first}
use Rattle.std.proofs.lemmas.Str.Pattern.{IsSplitOnceResult, split_once_first}

-- one element and the rest, of which the same is known
none_step : (b rest : Bool) (place end : ℕ) → (place ≡ end → rest ≡ false) → cond (not b) (1 + place) 0 ≡ suc end → b || rest ≡ false
none_step true rest place end h e = absurd (omega arith)
none_step false rest place end h e = h (omega arith)

some_step : (b rest : Bool) (place end : ℕ) → (place < end → rest ≡ true) → cond (not b) (1 + place) 0 < suc end → b || rest ≡ true
some_step true rest place end h l = refl
some_step false rest place end h l = h (omega arith)

-- no element passes where the first place that does is the end
pub list_any-from_no_place : {X : Type 0} (p : X → Bool) (xs : List X) → position_or_len p xs ≡ length xs → list_any p xs ≡ false
list_any-from_no_place p [] e = refl
list_any-from_no_place p (x ∷ xs) e = none_step (p x) (list_any p xs) (position_or_len p xs) (length xs) (list_any-from_no_place p xs) e

pub list_any-from_place : {X : Type 0} (p : X → Bool) (xs : List X) → position_or_len p xs < length xs → list_any p xs ≡ true
list_any-from_place p [] h = absurd (omega arith)
list_any-from_place p (x ∷ xs) h = some_step (p x) (list_any p xs) (position_or_len p xs) (length xs) (list_any-from_place p xs) h

-- one element and the rest, which has one part
one_part_step : {X : Type 0} (b : Bool) (x : X) (xs : List X) (parts : List (List X)) (place end : ℕ) → (place ≡ end → parts ≡ xs ∷ []) → cond (not b) (1 + place) 0 ≡ suc end → cond b ([] ∷ parts) (onto_first x parts) ≡ (x ∷ xs) ∷ []
one_part_step true x xs parts place end h e = absurd (omega arith)
one_part_step false x xs parts place end h e = ap (onto_first x) (h (omega arith))

-- a list in which no element passes is its one part
pub slice_split-whole : {X : Type 0} (p : X → Bool) (xs : List X) → position_or_len p xs ≡ length xs → slice_split p xs ≡ xs ∷ []
slice_split-whole p [] e = refl
slice_split-whole p (x ∷ xs) e = one_part_step (p x) x xs (slice_split p xs) (position_or_len p xs) (length xs) (slice_split-whole p xs) e

-- what `split_once` at an ASCII character leaves of the parts
pub parts_at : (c : ℕ) (bs : List ℕ) (r : Option (Bor (List ℕ) × Bor (List ℕ))) → IsSplitOnceResult c bs r → c < 128 → MatchOption r (slice_split (λ b. eqb b c) bs ≡ bs ∷ []) (λ x. (slice_split (λ b. eqb b c) bs ≡ x.0.now ∷ slice_split (λ b. eqb b c) x.1.now) × (length x.1.now < length bs))
parts_at c bs None h small = slice_split-whole (λ b. eqb b c) bs (split_once_first c bs None h small)
parts_at c bs (Some (x, y)) h small =
    let cut = split_once_first c bs (Some (x, y)) h small in (
      slice_split_first (λ b. eqb b c) bs 0 cut.0 ∙ (ap (λ front. front ∷ slice_split (λ b. eqb b c) (after_first (λ b. eqb b c) bs)) (sym cut.1) ∙ ap (λ rest. x.now ∷ slice_split (λ b. eqb b c) rest) (sym cut.2)),
      (let short : length y.now ≡ length bs - (position_or_len (λ b. eqb b c) bs + 1) = ap length cut.2 ∙ length-drop (position_or_len (λ b. eqb b c) bs + 1) bs in omega (arith, cut.0)),
    )

-- the parts that come after the first
pub first_part : (c : ℕ) (bs : List ℕ) (r : Option (Bor (List ℕ) × Bor (List ℕ))) → IsSplitOnceResult c bs r → c < 128 → MatchOption r (before_first (λ b. eqb b c) bs ≡ bs) (λ x. x.0.now ≡ before_first (λ b. eqb b c) bs)
first_part c bs None h small = let none : position_or_len (λ b. eqb b c) bs ≡ length bs = split_once_first c bs None h small in rw none (take-length bs)
first_part c bs (Some (x, y)) h small = (split_once_first c bs (Some (x, y)) h small).1

-- what comes before an ASCII character is no longer than all
pub front_length : (c : ℕ) (bs : List ℕ) (r : Option (Bor (List ℕ) × Bor (List ℕ))) → IsSplitOnceResult c bs r → c < 128 → MatchOption r (Unit {0}) (λ x. length x.0.now ≤ length bs)
front_length c bs None h small = tt
front_length c bs (Some (x, y)) h small =
    let cut = split_once_first c bs (Some (x, y)) h small in
    let short : length x.now ≡ position_or_len (λ b. eqb b c) bs = ap length cut.1 ∙ length-take-le (position_or_len (λ b. eqb b c) bs) bs (omega (arith, cut.0)) in
    omega (arith, cut.0, short)
