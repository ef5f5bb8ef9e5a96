-- The text of the rows of a sentence, in which white space does not count.
-- CoNLL-U format page, "Words, Tokens and Empty Nodes" and "Miscellaneous" (SpaceAfter=No): the text is the forms of
-- the tokens, with a range in place of its words. A space follows each unless it has SpaceAfter=No. White space is
-- Unicode's White_Space.
use Rattle.std.specs.Prelude.{◌≡◌, ℕ, List, [], ◌∷◌, ◌++◌, length, filter, Bool, true, false}
use Rattle.std.specs.Prelude.{◌&&◌, not, nat_lt, nat_le, bytes_eq, if◌then◌else◌, codes, chars}
use Rattle.std.specs.Prelude.{encode_utf8_all}
use Rattle.std.specs.List.{flat_map, list_any, slice_split, join_with_byte}
use Rattle.std.specs.Char.{is_whitespace}
use Rattle.tb_conllu.specs.declared.id.LineId.{LineId}
use Rattle.tb_conllu.specs.declared.id.LineId.TheVariants.{Word, Span, Empty}
use Rattle.tb_conllu.specs.Text.{RowText, BlockText}
use Rattle.tb_rules.specs.Comments.{texts}
use Rattle.tb_fields.specs.Feats.{is_bar}

-- ---- white space

-- the texts between white space, without the empty ones
abbrev pub pieces : List ℕ → List (List ℕ)
pieces cs = filter (λ piece. nat_lt 0 (length piece)) (slice_split is_whitespace cs)

-- The characters with each run of white space as one space, and none at the ends.
abbrev pub folded : List ℕ → List ℕ
folded cs = join_with_byte 32 (pieces cs)

-- ---- the text of rows, as characters

abbrev pub covers : ℕ → LineId → Bool
covers m (Word n) = false
covers m (Span a b) = nat_le a m && nat_le m b
covers m (Empty i k) = false

-- a word in a range of the sentence
abbrev pub is_covered : List RowText → ℕ → Bool
is_covered rs m = list_any (λ r. covers m r.id) rs

-- the ranges, and the words in no range of the sentence
abbrev pub is_token_id : List RowText → LineId → Bool
is_token_id rs (Word m) = not (is_covered rs m)
is_token_id rs (Span a b) = true
is_token_id rs (Empty i k) = false

-- an item of MISC
abbrev pub has_no_space_after : RowText → Bool
has_no_space_after r = list_any (bytes_eq (codes "SpaceAfter=No")) (slice_split is_bar r.misc)

abbrev pub form_and_space : RowText → List ℕ
form_and_space r = if has_no_space_after r then chars r.form else chars r.form ++ 32 ∷ []

-- the text that a row adds
abbrev pub token_text : List RowText → RowText → List ℕ
token_text rs r = if is_token_id rs r.id then form_and_space r else []

-- the text of the rows
abbrev pub text_of_rows : List RowText → List ℕ
text_of_rows rs = flat_map (token_text rs) rs

-- the text of the rows, folded, as UTF-8
abbrev pub restored_text : BlockText → List ℕ
restored_text b = encode_utf8_all (folded (text_of_rows b.rows))

-- a text, folded
abbrev pub folded_text : List ℕ → List ℕ
folded_text bs = encode_utf8_all (folded (chars bs))

-- The text of the rows is that of the comment. Differences in white space do not count.
pub record IsRestored (b : BlockText) : Type 0 where
  pub value : List ℕ
  pub one : texts b ≡ value ∷ []
  pub same : restored_text b ≡ folded_text value
