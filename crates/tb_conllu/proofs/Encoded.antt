-- The text of a shaped sentence is UTF-8.
use Rattle.std.proofs.Common.{◌≡◌, ℕ, ◌-◌, List, [], ◌∷◌, ◌++◌, length, take, Bool, false, not, refl, ap, subst, sym, ◌∙◌, arith, inl, inr, length-append}
use Rattle.std.specs.Str.{IsUtf8, is_utf8}
use Rattle.std.proofs.Math.Seq.{take-append_seam}
use Rattle.std.proofs.lemmas.Bool.{cases_Bool, cond-true}
use Rattle.std.proofs.lemmas.Str.{IsUtf8-append, IsUtf8-nil, IsUtf8-from_is_utf8}
use Rattle.tb_conllu.specs.Left.{Left, IsNext}
use Rattle.tb_conllu.specs.Lines.{line_code, came_after}
use Rattle.tb_conllu.specs.Shape.{IsShaped}
use Rattle.tb_conllu.specs.Text.{BlockText, ended, lines_of, text_of}
use Rattle.tb_conllu.proofs.Reported.{AreClean, lines_clean}

-- a line feed
feed_utf8 : IsUtf8 (10 ∷ [])
unfolding lib.Utf8.encode
feed_utf8 = (10 ∷ [], (refl, refl))

line_utf8 : (came : Bool) (l : List ℕ) → line_code came l ≡ 0 → IsUtf8 l
line_utf8 came l clean = elim (cases_Bool (is_utf8 l)) [
  | inl encoded ↦ IsUtf8-from_is_utf8 l encoded
  | inr none ↦ (let one : line_code came l ≡ 1 = cond-true _ _ _ (ap not none) in absurd (omega (arith, one, clean)))
]

lines_utf8 : (came : Bool) (ls : List (List ℕ)) → AreClean came ls → IsUtf8 (ended ls)
lines_utf8 came [] clean = IsUtf8-nil
lines_utf8 came (l ∷ ls) clean =
    IsUtf8-append (l ++ 10 ∷ []) (ended ls) (IsUtf8-append l (10 ∷ []) (line_utf8 came l clean.0) feed_utf8) (lines_utf8 (came_after came l) ls clean.1)

pub sentence_utf8 : (b : BlockText) → IsShaped b → IsUtf8 (text_of (b ∷ []))
sentence_utf8 b shaped = lines_utf8 false (lines_of (b ∷ [])) (lines_clean (b ∷ []) (shaped, tt))

-- the bytes that are no longer left are the text of the sentence
pub passage_is : (old new : Left) (b : BlockText) (before after cut : List ℕ) → IsNext old new b → before ≡ old.rest → after ≡ new.rest → cut ≡ take (length before - length after) before
    → cut ≡ text_of (b ∷ [])
passage_is old new b before after cut next e f g =
    let whole : before ≡ text_of (b ∷ []) ++ new.rest = e ∙ next.text in
    let sum = ap length whole ∙ length-append (text_of (b ∷ [])) new.rest in
    let n : length before - length after ≡ length (text_of (b ∷ [])) = omega (arith, sum, ap length f) in
    g ∙ ap (λ k. take k before) n ∙ ap (take (length (text_of (b ∷ [])))) whole ∙ take-append_seam (text_of (b ∷ [])) new.rest

pub passage_utf8 : (old new : Left) (b : BlockText) (before after cut : List ℕ) → IsNext old new b → before ≡ old.rest → after ≡ new.rest → cut ≡ take (length before - length after) before
    → IsUtf8 cut
passage_utf8 old new b before after cut next e f g = subst IsUtf8 (sym (passage_is old new b before after cut next e f g)) (sentence_utf8 b next.shaped)
