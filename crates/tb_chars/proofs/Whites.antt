-- A character of white space begins with one of a few bytes.
use Rattle.std.proofs.Common.{◌≡◌, ℕ, ◌+◌, ◌<◌, ◌≤◌, ◌/◌, List, [], ◌∷◌, false, refl, sym, ◌∙◌, ap, arith, ◌⊎◌, inl, inr}
use Rattle.std.specs.List.{list_any}
use Rattle.std.specs.Str.{IsUtf8, chars}
use Rattle.std.specs.Char.{is_whitespace}
use Rattle.std.proofs.lemmas.Bool.{or_parts, or_from, cases_lt}
use Rattle.std.proofs.lemmas.Bool.Decides.{nat_tests}
use Rattle.std.proofs.lemmas.List.Folds.{list_any-append}
use Rattle.std.proofs.lemmas.Str.{encodes-chars}
use Rattle.tb_chars.specs.Spaces.{begins_white, has_space}
use Rattle.tb_chars.proofs.FirstBytes.{one, two, three, four, first_fails}
use lib.Utf8.{encode, encodes}

of_one : (c : ℕ) → c < 128 → begins_white c ≡ false → is_whitespace c ≡ false
of_one c l h = grind (arith, nat_tests)

not_194 : (q : ℕ) → begins_white (192 + q) ≡ false → (q < 2) ⊎ (3 ≤ q)
not_194 q h = elim (cases_lt q 2) [
  | inl low ↦ inl low
  | inr up ↦ elim (cases_lt q 3) [
    | inl equal ↦ absurd (grind (arith, nat_tests))
    | inr high ↦ inr high
  ]
]

of_two : (c q : ℕ) → q ≡ c / 64 → 128 ≤ c → c < 2048 → begins_white (192 + q) ≡ false → is_whitespace c ≡ false
of_two c q e l g h =
    let above : 192 ≤ c = elim (not_194 q h) [ inl low ↦ absurd (omega (arith, e, low)) | inr high ↦ omega (arith, e, high) ] in
    grind (arith, nat_tests)

not_225 : (q : ℕ) → begins_white (224 + q) ≡ false → (q < 1) ⊎ (4 ≤ q)
not_225 q h = elim (cases_lt q 1) [
  | inl low ↦ inl low
  | inr up ↦ elim (cases_lt q 4) [
    | inl mid ↦ absurd (grind (arith, nat_tests))
    | inr high ↦ inr high
  ]
]

of_three : (c q : ℕ) → q ≡ c / 4096 → 2048 ≤ c → c < 65536 → begins_white (224 + q) ≡ false → is_whitespace c ≡ false
of_three c q e l g h = elim (not_225 q h) [
  | inl low ↦ (let under : c < 4096 = omega (arith, e, low) in grind (arith, nat_tests))
  | inr high ↦ (let above : 16384 ≤ c = omega (arith, e, high) in grind (arith, nat_tests))
]

of_four : (c : ℕ) → 65536 ≤ c → is_whitespace c ≡ false
of_four c l = grind (arith, nat_tests)

one_char : (c : ℕ) → list_any begins_white (encode c) ≡ false → is_whitespace c ≡ false
one_char c h = elim (first_fails begins_white c h) [
  | one small f ↦ of_one c small f
  | two great short f ↦ of_two c (c / 64) refl great short f
  | three long mid f ↦ of_three c (c / 4096) refl long mid f
  | four far f ↦ of_four c far
]

no_white : (cs : List ℕ) → list_any begins_white (encodes cs) ≡ false → list_any is_whitespace cs ≡ false
no_white [] h = refl
no_white (c ∷ cs) h =
    let parts = or_parts (list_any begins_white (encode c)) (list_any begins_white (encodes cs)) (sym (list_any-append begins_white (encode c) (encodes cs)) ∙ h) in
    or_from (is_whitespace c) (list_any is_whitespace cs) (one_char c parts.0) (no_white cs parts.1)

pub spaceless : (bs : List ℕ) → IsUtf8 bs → list_any begins_white bs ≡ false → has_space bs ≡ false
spaceless bs u h = no_white (chars bs) (ap (list_any begins_white) (encodes-chars bs u) ∙ h)
