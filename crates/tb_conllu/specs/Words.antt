-- Words of a sentence: the rows whose ID is one number.
-- CoNLL-U format page, "Words, Tokens and Empty Nodes".
use Rattle.std.specs.Prelude.{ℕ, Bool, true, false, count_by}
use Rattle.tb_conllu.specs.declared.id.LineId.{LineId}
use Rattle.tb_conllu.specs.declared.id.LineId.TheVariants.{Word, Span, Empty}
use Rattle.tb_conllu.specs.Text.{RowText, BlockText}

abbrev pub is_word_id : LineId → Bool
is_word_id (Word n) = true
is_word_id (Span n m) = false
is_word_id (Empty i k) = false

abbrev pub is_word : RowText → Bool
is_word r = is_word_id r.id

abbrev pub words_of : BlockText → ℕ
words_of b = count_by is_word b.rows
