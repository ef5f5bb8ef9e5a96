-- Numbers as they are written, and heads that are cut from pairs.
use Rattle.std.proofs.Common.{◌≡◌, ℕ, ◌+◌, ◌-◌, ◌*◌, ◌<◌, ◌≤◌, ◌^◌, List, [], ◌∷◌, length, take, get_or, Bool, true, false, not, ◌||◌, refl, sym, ◌∙◌, ap, arith, lit<, length-take, ◌⊎◌, inl, inr, eqb, ltb, leb, cond, Some, None, ◌&&◌}
use Rattle.std.specs.List.{list_all, list_any, position_or_len, before_first, after_first}
use Rattle.std.specs.Char.{digit_value}
use Rattle.std.specs.Fmt.{decimal}
use Rattle.std.specs.Str.Parse.{AllDigits, digits_value}
use Rattle.std.proofs.lemmas.Bool.{and_parts, and_from, cases_lt}
use Rattle.std.proofs.lemmas.Bool.Decides.{nat_tests}
use Rattle.std.proofs.lemmas.Fmt.{decimal_is_IsNumeral, length-decimal-le, first_decimal, decimal_digit, decimal-digits_value}
use Rattle.std.proofs.lemmas.Str.Parse.{IsNumeralModel}
use Rattle.std.proofs.lemmas.List.{take_all}
use Rattle.std.proofs.lemmas.List.Folds.{list_all_at}
use Rattle.std.proofs.lemmas.Int.Digits.{digits_value-lt, digits_value_more}
use Rattle.std.proofs.Math.Nat.{pow-le-pow_right}
use Rattle.tb_conllu.specs.Text.{RowText}
use Rattle.tb_chars.specs.Digits.{is_digit}
use Rattle.tb_fields.specs.Relations.{is_colon}
use Rattle.tb_chars.specs.Spaces.{is_solid}
use Rattle.tb_fields.proofs.Places.{list_any-from_no_place, list_any-from_place}
use Rattle.tb_fields.proofs.Parts.{and_true, two_tests}
use Rattle.tb_rules.specs.Places.{value_of, number_of, is_dot, place_of, word_place, is_place_there, is_placed_pair, place_precedes, places_ascend, are_placed_pairs}

-- ---- digits

digit_is : (c : ℕ) → digit_value c < 10 → is_digit c ≡ true
digit_is c h = grind (arith, nat_tests)

is_digit_value : (c : ℕ) → is_digit c ≡ true → digit_value c < 10
is_digit_value c h = grind (arith, nat_tests)

digits_are : (ds : List ℕ) → AllDigits 10 ds → list_all is_digit ds ≡ true
digits_are [] h = refl
digits_are (d ∷ ds) h = and_from _ _ (digit_is d h.0) (digits_are ds h.1)

all_digits : (ds : List ℕ) → list_all is_digit ds ≡ true → AllDigits 10 ds
all_digits [] h = tt
all_digits (d ∷ ds) h = let p = and_parts (is_digit d) _ h in (is_digit_value d p.0, all_digits ds p.1)

-- what is false of digits
pub digits_lack : (p : ℕ → Bool) → ((b : ℕ) → is_digit b ≡ true → p b ≡ false) → (ds : List ℕ) → list_all is_digit ds ≡ true → list_any p ds ≡ false
digits_lack p f [] h = refl
digits_lack p f (d ∷ ds) h =
    let parts = and_parts (is_digit d) _ h in
    rw (f d parts.0, digits_lack p f ds parts.1) refl

digits_below : (ds : List ℕ) → AllDigits 10 ds → length ds ≤ 19 → digits_value 10 ds < 10 ^ 19
digits_below ds h short = let b = digits_value-lt 10 ds h in let m = pow-le-pow_right {n = 10} (omega arith) {i = length ds} {j = 19} short in omega (arith, b, m)

digit_parts : (d : ℕ) → digit_value d < 10 → (48 ≤ d) × (digit_value d ≡ d - 48)
digit_parts d h = (grind (arith, nat_tests), grind (arith, nat_tests))

-- ---- numbers

-- a number as it is written, of at most 19 digits
abbrev pub is_numeral : List ℕ → Bool
is_numeral bs = list_all is_digit bs && ltb 0 (length bs) && leb (length bs) 19 && (not (eqb (get_or bs 0 0) 48) || eqb (length bs) 1)

one_test : (all a b c : Bool) (v : ℕ) → cond ((a && b) && c) (cond all (Some v) None) None ≡ cond (((all && a) && b) && c) (Some v) None
one_test true a b c v = refl
one_test false true true true v = refl
one_test false true true false v = refl
one_test false true false c v = refl
one_test false false b c v = refl

pub number_of-numeral : (bs : List ℕ) → number_of bs ≡ cond (is_numeral bs) (Some (digits_value 10 bs)) None
number_of-numeral bs = one_test (list_all is_digit bs) (ltb 0 (length bs)) (leb (length bs) 19) (not (eqb (get_or bs 0 0) 48) || eqb (length bs) 1) (digits_value 10 bs)

first_test : (ds : List ℕ) → (48 < get_or ds 0 0) ⊎ (length ds ≡ 1) → (not (eqb (get_or ds 0 0) 48) || eqb (length ds) 1) ≡ true
first_test ds d = grind (arith, nat_tests)

number_test : (ds : List ℕ) → list_all is_digit ds ≡ true → 0 < length ds → length ds ≤ 19 → (48 < get_or ds 0 0) ⊎ (length ds ≡ 1) → is_numeral ds ≡ true
number_test ds a b c d = and_from _ _ (and_from _ _ (and_from _ _ a (grind (arith, nat_tests))) (grind (arith, nat_tests))) (first_test ds d)

pub numeral-decimal : (n : ℕ) → n < 10 ^ 19 → (is_numeral (decimal n) ≡ true) × (digits_value 10 (decimal n) ≡ n)
numeral-decimal n h =
    let small : n < 2 ^ 64 = omega arith in
    let own = decimal_is_IsNumeral n small in
    let first : (48 < get_or (decimal n) 0 0) ⊎ (length (decimal n) ≡ 1) = elim (cases_lt 0 n) [
      | inl some ↦ inl (first_decimal n some small)
      | inr none ↦ inr (ap length (decimal_digit n (omega arith)))
    ] in
    (number_test (decimal n) (digits_are _ own.0.1) own.0.0 (length-decimal-le 19 n (lit< tt) h small) first, own.1)

-- the parts of the test
record IsWritten (ds : List ℕ) : Type 0 where
  pub digits : list_all is_digit ds ≡ true
  pub some : 0 < length ds
  pub short : length ds ≤ 19
  pub first : get_or ds 0 0 ≡ 48 → length ds ≡ 1

written : (ds : List ℕ) → is_numeral ds ≡ true → IsWritten ds
written ds h =
    let p = and_parts _ _ h in
    let q = and_parts _ _ p.0 in
    let r = and_parts _ _ q.0 in record {
      digits = r.0;
      some = grind (arith, nat_tests);
      short = grind (arith, nat_tests);
      first = grind (arith, nat_tests);
    }

pub numeral_digits : (ds : List ℕ) → is_numeral ds ≡ true → list_all is_digit ds ≡ true
numeral_digits ds h = (written ds h).digits

-- what the test accepts is written so
pub decimal-numeral : (ds : List ℕ) → is_numeral ds ≡ true → decimal (digits_value 10 ds) ≡ ds
decimal-numeral ds h =
    let w = written ds h in
    let all = all_digits ds w.digits in
    let low : digits_value 10 ds < 10 ^ 19 = digits_below ds all w.short in
    let own : IsNumeralModel (AllDigits 10) (digits_value 10) = record { to = λ xs k. k; from = λ xs k. k; same = λ xs k. refl } in
    decimal-digits_value own ds all w.some w.first (omega (arith, low))

-- ---- the loop over the digits

-- before the last digit there is room for one more
pub value_room : (ds : List ℕ) (i : ℕ) → list_all is_digit (take i ds) ≡ true → length ds ≤ 19 → i < length ds → digits_value 10 (take i ds) < 10 ^ 18
value_room ds i h short l =
    let b = digits_value-lt 10 (take i ds) (all_digits (take i ds) h) in
    let m = pow-le-pow_right {n = 10} (omega arith) {i = length (take i ds)} {j = 18} (omega (arith, length-take i ds, short, l)) in
    omega (arith, b, m)

pub value_step : (ds : List ℕ) (i : ℕ) → i < length ds → is_digit (get_or ds i 0) ≡ true → digits_value 10 (take (i + 1) ds) ≡ digits_value 10 (take i ds) * 10 + (get_or ds i 0 - 48)
value_step ds i l h = digits_value_more 10 ds i l ∙ ap (λ x. digits_value 10 (take i ds) * 10 + x) (digit_parts (get_or ds i 0) (is_digit_value (get_or ds i 0) h)).1

pub value_of-no_digit : (bs : List ℕ) (i b : ℕ) → i < length bs → b ≡ get_or bs i 0 → is_digit b ≡ false → value_of bs ≡ None
value_of-no_digit bs i b l e h =
    let some_not : list_all is_digit bs ≡ false = list_all_at is_digit bs i 0 l (ap is_digit (sym e) ∙ h) in
    rw some_not refl

pub value_of-whole : (bs : List ℕ) (n v : ℕ) → length bs ≤ n → list_all is_digit (take n bs) ≡ true → v ≡ digits_value 10 (take n bs) → Some v ≡ value_of bs
value_of-whole bs n v l digits e =
    let whole : take n bs ≡ bs = take_all n bs l in
    let all : list_all is_digit bs ≡ true = ap (list_all is_digit) (sym whole) ∙ digits in
    let is : v ≡ digits_value 10 bs = e ∙ ap (digits_value 10) whole in
    rw all (ap (λ x. Some x) is)

-- ---- heads of pairs

pub place_of-plain : (bs : List ℕ) → position_or_len is_dot bs ≡ length bs → place_of bs ≡ word_place (number_of bs)
place_of-plain bs none = let no_dot : list_any is_dot bs ≡ false = list_any-from_no_place is_dot bs none in rw no_dot refl

pub is_pair-plain : (rs : List RowText) (bs : List ℕ) → position_or_len is_colon bs ≡ length bs → false ≡ is_placed_pair rs bs
is_pair-plain rs bs none = let no_colon : list_any is_colon bs ≡ false = list_any-from_no_place is_colon bs none in rw no_colon refl

pub are_pairs-cons : (rs : List RowText) (xs ys : List (List ℕ)) (x : List ℕ) → xs ≡ x ∷ ys → are_placed_pairs rs xs ≡ ((is_placed_pair rs x && place_precedes x ys) && are_placed_pairs rs ys)
are_pairs-cons rs xs ys x e = ap (are_placed_pairs rs) e ∙ two_tests (is_placed_pair rs x) (list_all (is_placed_pair rs) ys) (place_precedes x ys) (places_ascend ys)

pub are_pairs-one : (rs : List RowText) (xs : List (List ℕ)) (x : List ℕ) → xs ≡ x ∷ [] → is_placed_pair rs x ≡ are_placed_pairs rs xs
are_pairs-one rs xs x e = sym (ap (are_placed_pairs rs) e ∙ (and_true (is_placed_pair rs x && true) ∙ and_true (is_placed_pair rs x)))

pub is_pair-cut : (rs : List RowText) (bs front rest : List ℕ) → position_or_len is_colon bs < length bs → front ≡ before_first is_colon bs → rest ≡ after_first is_colon bs → is_placed_pair rs bs ≡ (is_place_there rs (place_of front) && is_solid rest)
is_pair-cut rs bs front rest l e h =
    let colon : list_any is_colon bs ≡ true = list_any-from_place is_colon bs l in
    rw colon (ap (λ (x : List ℕ). is_place_there rs (place_of x) && is_solid (after_first is_colon bs)) (sym e) ∙ ap (λ (x : List ℕ). is_place_there rs (place_of front) && is_solid x) (sym h))
