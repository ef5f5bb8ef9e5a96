-- A folded text stays as it is when it is folded.
use Rattle.std.proofs.Common.{◌≡◌, ℕ, List, [], ◌∷◌, Bool, true, false, refl, sym, ◌∙◌, ap, inl, inr}
use Rattle.std.specs.Char.{is_whitespace}
use Rattle.std.specs.Str.{chars, IsUtf8}
use Rattle.std.proofs.lemmas.Bool.{cases_Bool}
use Rattle.std.proofs.lemmas.Str.{chars_from_encodes}
use lib.Utf8.{encodes}
use Rattle.tb_rules.specs.Restored.{folded, folded_text}
use Rattle.tb_rules.specs.Expected.{folded_after}
use Rattle.tb_rules.proofs.Pieces.{folds}

refolded : (begun gap : Bool) (cs : List ℕ) → folded_after begun false (folded_after begun gap cs) ≡ folded_after begun gap cs
refolded begun gap [] = refl
refolded true true (c ∷ cs) =
    elim (cases_Bool (is_whitespace c)) [
      | inl white ↦ rw white (refolded true true cs)
      | inr black ↦ rw black (rw black (ap (λ (x : List ℕ). 32 ∷ c ∷ x) (refolded true false cs)))
    ]
refolded true false (c ∷ cs) =
    elim (cases_Bool (is_whitespace c)) [
      | inl white ↦ rw white (refolded true true cs)
      | inr black ↦ rw black (rw black (ap (λ (x : List ℕ). c ∷ x) (refolded true false cs)))
    ]
refolded false gap (c ∷ cs) =
    elim (cases_Bool (is_whitespace c)) [
      | inl white ↦ rw white (refolded false true cs)
      | inr black ↦ rw black (rw black (ap (λ (x : List ℕ). c ∷ x) (refolded true false cs)))
    ]

twice : (cs : List ℕ) → folded (folded cs) ≡ folded cs
twice cs = sym (folds (folded cs)) ∙ (ap (folded_after false false) (sym (folds cs)) ∙ (refolded false false cs ∙ folds cs))

-- a text that is what some characters fold to
pub folded_already : (cs text : List ℕ) → IsUtf8 text → encodes (folded cs) ≡ text → encodes (folded cs) ≡ folded_text text
folded_already cs text utf8 e =
    let same : folded cs ≡ chars text = chars_from_encodes (folded cs) text utf8 e in
    sym (ap (λ (x : List ℕ). encodes (folded x)) (sym same) ∙ ap encodes (twice cs))
