-- Numbers of any length against a limit.
use Rattle.std.proofs.Common.{◌≡◌, ◌≤◌, ◌<◌, ◌+◌, ◌-◌, ◌*◌, ℕ, Bool, true, false, List, [], ◌∷◌, ◌++◌, length, take, get_or, None, refl, sym, ◌∙◌, ap, arith}
use Rattle.std.proofs.lemmas.List.{take_more}
use Rattle.std.proofs.lemmas.Bool.{true≢false}
use Rattle.std.proofs.lemmas.List.Folds.{list_all_at}
use Rattle.std.proofs.lemmas.Str.Parse.{digits_value-take-le}
use Rattle.std.specs.List.{list_all}
use Rattle.std.specs.Char.{is_ascii_digit, digit_value}
use Rattle.std.specs.Str.Parse.{digits_value, digits_value_after}
use Rattle.tb_http.specs.Forms.{within}

after_push : (n : ℕ) (ds : List ℕ) (d : ℕ) → digits_value_after 10 n (ds ++ d ∷ []) ≡ digits_value_after 10 n ds * 10 + digit_value d
after_push n [] d = refl
after_push n (c ∷ cs) d = after_push (n * 10 + digit_value c) cs d

-- the value of a byte that is a digit
digit_is : (d : ℕ) → is_ascii_digit d ≡ true → (48 ≤ d) × (digit_value d ≡ d - 48)
digit_is d h = grind arith

all_here : (ds : List ℕ) (i : ℕ) → i < length ds → list_all is_ascii_digit ds ≡ true → is_ascii_digit (get_or ds i 0) ≡ true
all_here ds i l all = by_test (is_ascii_digit (get_or ds i 0)) refl
  where
    by_test : (t : Bool) → is_ascii_digit (get_or ds i 0) ≡ t → t ≡ true
    by_test true e = refl
    by_test false e = absurd (true≢false (sym all ∙ list_all_at is_ascii_digit ds i 0 l e))

-- one more digit
pub one_more : (ds : List ℕ) (i : ℕ) → i < length ds → list_all is_ascii_digit ds ≡ true
    → (48 ≤ get_or ds i 0) × (digits_value 10 (take (i + 1) ds) ≡ digits_value 10 (take i ds) * 10 + (get_or ds i 0 - 48))
one_more ds i l all =
    let d = digit_is (get_or ds i 0) (all_here ds i l all) in
    (d.0, ap (digits_value 10) (take_more ds i 0 l) ∙ after_push 0 (take i ds) (get_or ds i 0) ∙ ap (λ k. digits_value 10 (take i ds) * 10 + k) d.1)

-- a number above the limit is none
pub above : (limit n : ℕ) → limit < n → None ≡ within limit n
above limit n h = grind arith

pub beyond : (ds : List ℕ) (i limit : ℕ) → limit < digits_value 10 (take i ds) → None ≡ within limit (digits_value 10 ds)
beyond ds i limit h = above limit _ (omega (arith, h, digits_value-take-le 10 ds i (omega arith)))
