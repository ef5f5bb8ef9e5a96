-- Which numbers a list has, and that those of pulled sentences ascend.
use Rattle.std.proofs.Common.{◌≡◌, ◌≢◌, ℕ, zero, suc, ◌+◌, ◌<◌, ◌≤◌, List, [], ◌∷◌, length, get_or, Bool, true, false, cond, ◌||◌, nat_eq, Some, None, slice_get, refl, sym, ap, ◌∙◌, arith, Result, Ok, Err}
use Rattle.std.specs.Prelude.{MatchResult, is_ok}
use Rattle.std.specs.List.{AllByRecursion}
use Rattle.std.proofs.lemmas.Bool.Decides.{nat_tests}
use Rattle.std.proofs.lemmas.Option.{same_Some}
use Rattle.std.proofs.lemmas.List.Elements.{All-from_recursion}
use Rattle.sqlite_trees.specs.Tree.{IsAscending}
use Rattle.tb_core.specs.Machine.{Sentence}
use Rattle.tb_core.specs.Rows.{pulled_from}
use Rattle.tb_refine.specs.Listed.{is_listed}

-- ---- numbers that ascend

pub ascends : (xs : List ℕ) → IsAscending (λ a b. a < b) xs → (i j : ℕ) → i ≤ j → j < length xs → get_or xs i 0 ≤ get_or xs j 0
ascends [] up i j low within = absurd (omega (arith, within))
ascends (x ∷ xs) up zero zero low within = omega arith
ascends (x ∷ xs) up zero (suc j) low within =
    let above = All-from_recursion (λ b. x < b) xs up.0 j 0 (omega (arith, within)) in omega (arith, above)
ascends (x ∷ xs) up (suc i) zero low within = absurd (omega (arith, low))
ascends (x ∷ xs) up (suc i) (suc j) low within = ascends xs up.1 i j (omega (arith, low)) (omega (arith, within))

above : (j n : ℕ) (xs : List Sentence) → j < n → AllByRecursion (λ m. j < m) (pulled_from n xs)
above j n [] low = tt
above j n (x ∷ xs) low = by_flag x.pulled (above j (n + 1) xs (omega (arith, low)))
  where
    by_flag : (p : Bool) → AllByRecursion (λ m. j < m) (pulled_from (n + 1) xs) → AllByRecursion (λ m. j < m) (cond p (n ∷ pulled_from (n + 1) xs) (pulled_from (n + 1) xs))
    by_flag true h = (low, h)
    by_flag false h = h

pub pulled_ascends : (n : ℕ) (xs : List Sentence) → IsAscending (λ a b. a < b) (pulled_from n xs)
pulled_ascends n [] = tt
pulled_ascends n (x ∷ xs) = by_flag x.pulled (pulled_ascends (n + 1) xs)
  where
    by_flag : (p : Bool) → IsAscending (λ a b. a < b) (pulled_from (n + 1) xs) → IsAscending (λ a b. a < b) (cond p (n ∷ pulled_from (n + 1) xs) (pulled_from (n + 1) xs))
    by_flag true h = (above n (n + 1) xs (omega arith), h)
    by_flag false h = h

-- ---- which numbers are listed

listed_there : (n : ℕ) (ns : List ℕ) (i : ℕ) → i < length ns → get_or ns i 0 ≡ n → is_listed n ns ≡ true
listed_there n [] i within is = absurd (omega (arith, within))
listed_there n (m ∷ ms) zero within is = let same : nat_eq m n ≡ true = grind (arith, nat_tests, is) in ap (λ t. t || is_listed n ms) same
listed_there n (m ∷ ms) (suc i) within is = either_way (nat_eq m n) (is_listed n ms) (listed_there n ms i (omega (arith, within)) is)
  where
    either_way : (s t : Bool) → t ≡ true → (s || t) ≡ true
    either_way true t h = refl
    either_way false t h = h

listed_nowhere : (n : ℕ) (ns : List ℕ) → ((k : ℕ) → k < length ns → get_or ns k 0 ≢ n) → is_listed n ns ≡ false
listed_nowhere n [] none = refl
listed_nowhere n (m ∷ ms) none =
    let first : m ≢ n = none 0 (omega arith) in
    let other : nat_eq m n ≡ false = grind (arith, nat_tests, first) in
    ap (λ t. t || is_listed n ms) other ∙ listed_nowhere n ms (λ k low. none (suc k) (omega (arith, low)))

pub search_tells : (n : ℕ) (ns : List ℕ) (r : Result ℕ ℕ) → MatchResult r (λ i. (i < length ns) × (get_or ns i 0 ≡ n)) (λ i. (i ≤ length ns) × ((k : ℕ) → k < i → get_or ns k 0 < n) × ((k : ℕ) → i ≤ k → k < length ns → n < get_or ns k 0)) → is_ok r ≡ is_listed n ns
search_tells n ns (Ok i) h = sym (listed_there n ns i h.0 h.1)
search_tells n ns (Err i) h = sym (listed_nowhere n ns (λ k low is.
    let other : ¬ (k < i) = λ left. (let less = h.1 k left in omega (arith, less, is)) in
    let right : i ≤ k = omega (arith, other) in
    let more = h.2 k right low in omega (arith, more, is)))

-- ---- the numbers of pulled sentences

other : (n m : ℕ) → m < n → nat_eq n m ≡ false
other n m low = grind (arith, nat_tests, low)

behind : (m n : ℕ) (xs : List Sentence) → m < n → is_listed m (pulled_from n xs) ≡ false
behind m n [] low = refl
behind m n (x ∷ xs) low = by_flag x.pulled (behind m (n + 1) xs (omega (arith, low)))
  where
    by_flag : (p : Bool) → is_listed m (pulled_from (n + 1) xs) ≡ false → is_listed m (cond p (n ∷ pulled_from (n + 1) xs) (pulled_from (n + 1) xs)) ≡ false
    by_flag true h = ap (λ t. t || is_listed m (pulled_from (n + 1) xs)) (other n m low) ∙ h
    by_flag false h = h

pub listed_pulled : (m n : ℕ) (xs : List Sentence) (i : ℕ) (x : Sentence) → m ≡ n + i → slice_get xs i ≡ Some x → is_listed m (pulled_from n xs) ≡ x.pulled
listed_pulled m n [] i x at there = let d : None ≡ Some x = there in absurd cc
listed_pulled m n (y ∷ ys) zero x at there = by_flag y.pulled ∙ ap (λ (z : Sentence). z.pulled) (same_Some y x there)
  where
    by_flag : (p : Bool) → is_listed m (cond p (n ∷ pulled_from (n + 1) ys) (pulled_from (n + 1) ys)) ≡ p
    by_flag true = let same : nat_eq n m ≡ true = grind (arith, nat_tests, at) in ap (λ t. t || is_listed m (pulled_from (n + 1) ys)) same
    by_flag false = behind m (n + 1) ys (omega (arith, at))
listed_pulled m n (y ∷ ys) (suc i) x at there = by_flag y.pulled (listed_pulled m (n + 1) ys i x (omega (arith, at)) there)
  where
    by_flag : (p : Bool) → is_listed m (pulled_from (n + 1) ys) ≡ x.pulled → is_listed m (cond p (n ∷ pulled_from (n + 1) ys) (pulled_from (n + 1) ys)) ≡ x.pulled
    by_flag true h = let differs : nat_eq n m ≡ false = grind (arith, nat_tests, at) in ap (λ t. t || is_listed m (pulled_from (n + 1) ys)) differs ∙ h
    by_flag false h = h
