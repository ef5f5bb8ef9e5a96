-- One more line of a sentence.
use Rattle.std.proofs.Common.{◌≡◌, ℕ, List, [], ◌∷◌, ◌++◌, Bool, true, false, map, refl, ◌∙◌, ap}
use Rattle.std.proofs.lemmas.Bool.{cond-true, cond-false}
use Rattle.tb_conllu.specs.Text.{RowText, row_line}
use Rattle.tb_conllu.specs.Shape.{IsLineText}
use Rattle.tb_conllu.specs.Lines.{line_code, word_code, is_empty, is_comment}
use Rattle.tb_conllu.proofs.RowLines.{text_code}

-- the code of a line that is neither blank nor a comment is that of a word line
pub word_line_code : (came : Bool) (t : List ℕ) → IsLineText t → is_empty t ≡ false → is_comment t ≡ false → line_code came t ≡ word_code t
word_line_code came t h filled plain = text_code came t h ∙ cond-false _ _ _ filled ∙ cond-false _ _ _ plain

pub late_comment_code : (came : Bool) (t : List ℕ) → IsLineText t → is_empty t ≡ false → is_comment t ≡ true → came ≡ true → line_code came t ≡ 8
late_comment_code came t h filled hashed after = text_code came t h ∙ cond-false _ _ _ filled ∙ cond-true _ _ _ hashed ∙ cond-true _ _ _ after

map_append : (rs : List RowText) (r : RowText) → map row_line (rs ++ r ∷ []) ≡ map row_line rs ++ row_line r ∷ []
map_append [] r = refl
map_append (x ∷ rs) r = ap (λ ls. row_line x ∷ ls) (map_append rs r)

pub first_comment_code : (came : Bool) (t : List ℕ) → IsLineText t → is_empty t ≡ false → is_comment t ≡ true → came ≡ false → line_code came t ≡ 0
first_comment_code came t h filled hashed before = text_code came t h ∙ cond-false _ _ _ filled ∙ cond-true _ _ _ hashed ∙ cond-false _ _ _ before
