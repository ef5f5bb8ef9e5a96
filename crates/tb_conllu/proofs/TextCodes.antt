-- The codes of a line that is no text of a file.
use Rattle.std.proofs.Common.{◌≡◌, ℕ, List, Bool, true, false, not, ◌∙◌, ap, inl, inr}
use Rattle.std.specs.List.{list_any}
use Rattle.std.specs.Str.{IsUtf8, is_utf8}
use Rattle.std.proofs.lemmas.Bool.{cases_Bool, cond-true, cond-false}
use Rattle.std.proofs.lemmas.Str.{IsUtf8-from_is_utf8, is_utf8-from_IsUtf8}
use Rattle.tb_conllu.specs.Shape.{is_control}
use Rattle.tb_conllu.specs.Lines.{line_code, is_nfc_text}

pub no_utf8_code : (came : Bool) (raw : List ℕ) → (IsUtf8 raw → ⊥) → line_code came raw ≡ 1
no_utf8_code came raw h = elim (cases_Bool (is_utf8 raw)) [
  | inl yes_text ↦ absurd (h (IsUtf8-from_is_utf8 raw yes_text))
  | inr none ↦ cond-true _ _ _ (ap not none)
]

pub no_nfc_code : (came : Bool) (raw : List ℕ) → IsUtf8 raw → is_nfc_text raw ≡ false → line_code came raw ≡ 2
no_nfc_code came raw u h = cond-false _ _ _ (ap not (is_utf8-from_IsUtf8 raw u)) ∙ cond-true _ _ _ (ap not h)

pub control_code : (came : Bool) (raw : List ℕ) → IsUtf8 raw → is_nfc_text raw ≡ true → list_any is_control raw ≡ true → line_code came raw ≡ 3
control_code came raw u n h = cond-false _ _ _ (ap not (is_utf8-from_IsUtf8 raw u)) ∙ cond-false _ _ _ (ap not n) ∙ cond-true _ _ _ h
