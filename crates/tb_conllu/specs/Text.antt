-- Sentences as plain data, and the text that each has.
-- CoNLL-U format page, "CoNLL-U Format" and "Sentence Boundaries and Comments": a sentence is its comment lines, its
-- word lines, and one blank line. A word line has ten fields, separated by single tabs. Every line ends with LF.
use Rattle.std.specs.Prelude.{ℕ, List, [], ◌∷◌, ◌++◌, map, Option, Some, None}
use Rattle.std.specs.List.{flat_map, join_with_byte}
use Rattle.std.specs.Fmt.{decimal}
use Rattle.tb_conllu.specs.declared.id.LineId.{LineId}
use Rattle.tb_conllu.specs.declared.id.LineId.TheVariants.{Word, Span, Empty}

-- a row as plain data: each text is its list of bytes
pub record RowText : Type 0 where
  pub id : LineId
  pub form : List ℕ
  pub lemma : List ℕ
  pub upos : List ℕ
  pub xpos : List ℕ
  pub feats : List ℕ
  pub head : Option ℕ
  pub deprel : List ℕ
  pub deps : List ℕ
  pub misc : List ℕ

-- a sentence as plain data
pub record BlockText : Type 0 where
  pub comments : List (List ℕ)
  pub rows : List RowText

-- `n`, `n-m` or `i.k`
abbrev pub id_text : LineId → List ℕ
id_text (Word n) = decimal n
id_text (Span n m) = decimal n ++ 45 ∷ decimal m
id_text (Empty i k) = decimal i ++ 46 ∷ decimal k

-- a number, or `_` where there is none
abbrev pub head_text : Option ℕ → List ℕ
head_text None = 95 ∷ []
head_text (Some n) = decimal n

-- the ten fields of a row, in order
abbrev pub fields_of : RowText → List (List ℕ)
fields_of r = id_text r.id ∷ r.form ∷ r.lemma ∷ r.upos ∷ r.xpos ∷ r.feats ∷ head_text r.head ∷ r.deprel
    ∷ r.deps ∷ r.misc ∷ []

-- a row's line, without its line feed
abbrev pub row_line : RowText → List ℕ
row_line r = join_with_byte 9 (fields_of r)

-- the lines of a sentence, without their line feeds
abbrev pub block_lines : BlockText → List (List ℕ)
block_lines b = b.comments ++ (map row_line b.rows ++ [] ∷ [])

-- the lines of sentences, one sentence after another
abbrev pub lines_of : List BlockText → List (List ℕ)
lines_of bs = flat_map block_lines bs

-- these lines, each with its line feed
abbrev pub ended : List (List ℕ) → List ℕ
ended ls = flat_map (λ l. l ++ 10 ∷ []) ls

-- the text of sentences
abbrev pub text_of : List BlockText → List ℕ
text_of bs = ended (lines_of bs)
