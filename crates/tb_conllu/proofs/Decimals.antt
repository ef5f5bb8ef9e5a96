-- Numbers of at most six digits.
use Rattle.std.proofs.Common.{◌≡◌, ℕ, ◌+◌, ◌<◌, ◌≤◌, ◌^◌, List, [], ◌∷◌, ◌++◌, length, Bool, true, false, ◌||◌, not, refl, ◌∙◌, ap, arith, lit<, get_or, zero, suc, ◌*◌, ◌-◌, length-take, ◌⊎◌, inl, inr}
use Rattle.std.specs.Prelude.{◌==◌, slice_index, take, bytes_eq}
use Rattle.std.specs.List.{list_all, list_any}
use Rattle.std.specs.Char.{digit_value}
use Rattle.std.specs.Fmt.{decimal}
use Rattle.std.specs.Str.Parse.{AllDigits, digits_value}
use Rattle.std.proofs.lemmas.Bool.{and_parts, and_from, cases_lt}
use Rattle.std.proofs.lemmas.Bool.Decides.{nat_tests}
use Rattle.std.proofs.lemmas.Fmt.{decimal_is_IsNumeral, length-decimal-le, first_decimal, decimal_digit, decimal-digits_value, decimal_injective}
use Rattle.std.proofs.lemmas.Str.Parse.{IsNumeralModel}
use Rattle.std.proofs.lemmas.Int.Digits.{digits_value-lt, digits_value_more}
use Rattle.std.proofs.Math.Nat.{pow-le-pow_right}
use Rattle.tb_chars.specs.Digits.{is_digit}
use Rattle.tb_conllu.specs.Shape.{IsShort}
use Rattle.tb_conllu.specs.Lines.{is_number, is_positive, is_empty, is_comment}

digit_is : (c : ℕ) → digit_value c < 10 → is_digit c ≡ true
digit_is c h = grind (arith, nat_tests)

is_digit_value : (c : ℕ) → is_digit c ≡ true → digit_value c < 10
is_digit_value c h = grind (arith, nat_tests)

digits_are : (ds : List ℕ) → AllDigits 10 ds → list_all is_digit ds ≡ true
digits_are [] h = refl
digits_are (d ∷ ds) h = and_from _ _ (digit_is d h.0) (digits_are ds h.1)

all_digits : (ds : List ℕ) → list_all is_digit ds ≡ true → AllDigits 10 ds
all_digits [] h = tt
all_digits (d ∷ ds) h = let p = and_parts (is_digit d) _ h in (is_digit_value d p.0, all_digits ds p.1)

pub first-decimal : (n : ℕ) → 1 ≤ n → IsShort n → 48 < slice_index (decimal n) 0
first-decimal n l h = first_decimal n (omega arith) (omega arith)

number_test : (ds : List ℕ) → list_all is_digit ds ≡ true → 0 < length ds → length ds ≤ 6 → (48 < slice_index ds 0) ⊎ (length ds ≡ 1) → is_number ds ≡ true
number_test ds a b c d =
    and_from _ _ (and_from _ _ (and_from _ _ a (grind (arith, nat_tests))) (grind (arith, nat_tests))) (first_test d)
  where
    first_test : (48 < slice_index ds 0) ⊎ (length ds ≡ 1) → (not (slice_index ds 0 == 48) || length ds == 1) ≡ true
    first_test d = grind (arith, nat_tests)

pub is_number-decimal : (n : ℕ) → IsShort n → is_number (decimal n) ≡ true
is_number-decimal n h =
    let small : n < 2 ^ 64 = omega arith in
    let own = decimal_is_IsNumeral n small in
    let first : (48 < slice_index (decimal n) 0) ⊎ (length (decimal n) ≡ 1) = elim (cases_lt 0 n) [
      | inl some ↦ inl (first-decimal n some h)
      | inr none ↦ inr (ap length (decimal_digit n (omega arith)))
    ] in
    number_test (decimal n) (digits_are _ own.0.1) own.0.0 (length-decimal-le 6 n (lit< tt) h small) first

not_zero : (ds : List ℕ) → 48 < slice_index ds 0 → not (bytes_eq ds (48 ∷ [])) ≡ true
not_zero [] k = absurd (omega arith)
not_zero (d ∷ ds) k = let e : (d == 48) ≡ false = grind (arith, nat_tests) in rw e refl

pub is_positive-decimal : (n : ℕ) → 1 ≤ n → IsShort n → is_positive (decimal n) ≡ true
is_positive-decimal n l h = and_from _ _ (is_number-decimal n h) (not_zero (decimal n) (first-decimal n l h))

-- two short numbers with one text are equal
pub decimal_same : (n m : ℕ) → IsShort n → IsShort m → decimal n ≡ decimal m → n ≡ m
decimal_same n m hn hm e = decimal_injective n m (omega arith) (omega arith) e

digits_below : (ds : List ℕ) → AllDigits 10 ds → length ds ≤ 6 → digits_value 10 ds < 1000000
digits_below ds h short = let b = digits_value-lt 10 ds h in let m = pow-le-pow_right {n = 10} (omega arith) {i = length ds} {j = 6} short in omega (arith, b, m)

digit_parts : (d : ℕ) → digit_value d < 10 → (48 ≤ d) × (digit_value d ≡ d - 48)
digit_parts d h = (grind (arith, nat_tests), grind (arith, nat_tests))

-- what the test accepts is spelled so
pub decimal-is_number : (ds : List ℕ) → is_number ds ≡ true → (decimal (digits_value 10 ds) ≡ ds) × (digits_value 10 ds < 1000000)
decimal-is_number ds h =
    let p = and_parts _ _ h in
    let q = and_parts _ _ p.0 in
    let r = and_parts _ _ q.0 in
    let all = all_digits ds r.0 in
    let short : length ds ≤ 6 = grind (arith, nat_tests) in
    let some : 0 < length ds = grind (arith, nat_tests) in
    let first : get_or ds 0 0 ≡ 48 → length ds ≡ 1 = grind (arith, nat_tests) in
    let low : digits_value 10 ds < 1000000 = digits_below ds all short in
    let own : IsNumeralModel (AllDigits 10) (digits_value 10) = record { to = λ xs k. k; from = λ xs k. k; same = λ xs k. refl } in
    (decimal-digits_value own ds all some first (omega arith), low)

-- what is false of digits
pub digits_lack : (p : ℕ → Bool) → ((b : ℕ) → is_digit b ≡ true → p b ≡ false) → (ds : List ℕ) → list_all is_digit ds ≡ true → list_any p ds ≡ false
digits_lack p f [] h = refl
digits_lack p f (d ∷ ds) h =
    let parts = and_parts (is_digit d) _ h in
    rw (f d parts.0, digits_lack p f ds parts.1) refl

-- what is true of digits
pub digits_have : (p : ℕ → Bool) → ((b : ℕ) → is_digit b ≡ true → p b ≡ true) → (ds : List ℕ) → list_all is_digit ds ≡ true → list_all p ds ≡ true
digits_have p f [] h = refl
digits_have p f (d ∷ ds) h =
    let parts = and_parts (is_digit d) _ h in
    and_from _ _ (f d parts.0) (digits_have p f ds parts.1)

pub number_digits : (ds : List ℕ) → is_number ds ≡ true → (list_all is_digit ds ≡ true) × (0 < length ds)
number_digits ds h =
    let p = and_parts _ _ h in
    let q = and_parts _ _ p.0 in
    let r = and_parts _ _ q.0 in
    (r.0, grind (arith, nat_tests))

-- a line that begins with a digit is a word line
pub begins_word : (ds rest : List ℕ) → list_all is_digit ds ≡ true → 0 < length ds → (is_empty (ds ++ rest) ≡ false) × (is_comment (ds ++ rest) ≡ false)
begins_word [] rest h n = absurd (omega arith)
begins_word (d ∷ ds) rest h n =
    let parts = and_parts (is_digit d) _ h in
    (refl, not_hash d (take 0 (ds ++ rest)) parts.0)
  where
    not_hash : (d : ℕ) (more : List ℕ) → is_digit d ≡ true → bytes_eq (d ∷ more) (35 ∷ []) ≡ false
    not_hash d more h = let e : (d == 35) ≡ false = grind (arith, nat_tests) in rw e refl

-- ---- the loop over the digits

digits_of_number : (ds : List ℕ) → is_number ds ≡ true → AllDigits 10 ds × (length ds ≤ 6)
digits_of_number ds h =
    let p = and_parts _ _ h in
    let q = and_parts _ _ p.0 in
    let r = and_parts _ _ q.0 in
    (all_digits ds r.0, grind (arith, nat_tests))

taken : (i : ℕ) (ds : List ℕ) → AllDigits 10 ds → AllDigits 10 (take i ds)
taken zero ds h = tt
taken (suc i) [] h = tt
taken (suc i) (d ∷ ds) h = (h.0, taken i ds h.1)

pub value_small : (ds : List ℕ) (i : ℕ) → is_number ds ≡ true → digits_value 10 (take i ds) < 1000000
value_small ds i h = let k = digits_of_number ds h in digits_below (take i ds) (taken i ds k.0) (omega (arith, length-take i ds))

digit_at : (ds : List ℕ) (i : ℕ) → AllDigits 10 ds → i < length ds → (48 ≤ get_or ds i 0) × (digit_value (get_or ds i 0) ≡ get_or ds i 0 - 48)
digit_at [] i h l = absurd (omega arith)
digit_at (d ∷ ds) zero h l = digit_parts d h.0
digit_at (d ∷ ds) (suc i) h l = digit_at ds i h.1 (omega arith)

pub value_step : (ds : List ℕ) (i : ℕ) → is_number ds ≡ true → i < length ds → (48 ≤ get_or ds i 0) × (digits_value 10 (take (i + 1) ds) ≡ digits_value 10 (take i ds) * 10 + (get_or ds i 0 - 48))
value_step ds i h l =
    let k = digits_of_number ds h in
    let d = digit_at ds i k.0 l in
    (d.0, digits_value_more 10 ds i l ∙ ap (λ x. digits_value 10 (take i ds) * 10 + x) d.1)
