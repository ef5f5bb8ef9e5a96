-- Multiword tokens: rows `a-b` for words that are written as one.
-- CoNLL-U format page, "Words, Tokens and Empty Nodes": the range comes before its first word, and ranges do not
-- overlap. All fields but ID, FORM and MISC are empty. FEATS may hold features (page "Morphological Annotation").
use Rattle.std.specs.Prelude.{ℕ, ◌+◌, List, Bool, true, ◌&&◌, nat_lt, nat_le, ◌==◌, is_none, count_by}
use Rattle.std.specs.List.{list_all}
use Rattle.tb_conllu.specs.declared.id.LineId.{LineId}
use Rattle.tb_conllu.specs.declared.id.LineId.TheVariants.{Word, Span, Empty}
use Rattle.tb_conllu.specs.Text.{RowText}
use Rattle.tb_conllu.specs.Words.{is_word}
use Rattle.tb_fields.specs.Blank.{is_blank}
use Rattle.tb_rules.specs.Rows.{RowTest}

-- LEMMA, UPOS, XPOS, HEAD, DEPREL and DEPS are `_`
abbrev pub is_bare : RowText → Bool
is_bare r = is_blank r.lemma && is_blank r.upos && is_blank r.xpos && is_none r.head && is_blank r.deprel
    && is_blank r.deps

-- a range that ends before word m; other rows are no ranges
abbrev pub ends_before : ℕ → LineId → Bool
ends_before m (Word n) = true
ends_before m (Span a b) = nat_lt b m
ends_before m (Empty i k) = true

-- before a range from word a on come exactly the words before a, and only ranges that end before a
abbrev pub lead_to : ℕ → List RowText → Bool
lead_to a before = a == (count_by is_word before + 1) && list_all (λ r. ends_before a r.id) before

-- a row of a sentence of n words, after these rows
abbrev pub is_fine_as_span : ℕ → List RowText → LineId → RowText → Bool
is_fine_as_span n before (Word m) r = true
is_fine_as_span n before (Span a b) r = lead_to a before && nat_le a b && nat_le b n && is_bare r
is_fine_as_span n before (Empty i k) r = true

-- Each range of a sentence of n words; other rows pass. It comes before its first word and after all earlier words, and
-- begins after the end of every range before it.
abbrev pub span_test : ℕ → RowTest
span_test n before r = is_fine_as_span n before r.id r
