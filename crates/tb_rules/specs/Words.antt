-- The part of speech of each word, its head and its relation to the head.
-- UD v2 guidelines, "Universal POS tags", "Universal Dependency Relations" and "Syntax: General Principles";
-- CoNLL-U format page, "Syntactic Annotation" (HEAD 0 and the relation root go together).
use Rattle.std.specs.Prelude.{ℕ, List, Option, Some, None, Bool, true, false, ◌&&◌, not, nat_le, ◌==◌}
use Rattle.std.specs.Prelude.{bytes_eq, if◌then◌else◌, codes}
use Rattle.tb_conllu.specs.declared.id.LineId.{LineId}
use Rattle.tb_conllu.specs.declared.id.LineId.TheVariants.{Word, Span, Empty}
use Rattle.tb_conllu.specs.Text.{RowText}
use Rattle.tb_fields.specs.Relations.{universal_part, is_relation}
use Rattle.tb_fields.specs.Tags.{is_universal_tag}
use Rattle.tb_rules.specs.Rows.{RowTest}

-- a head for word m, in a sentence of n words
abbrev pub is_head_of : ℕ → ℕ → Option ℕ → Bool
is_head_of n m None = false
is_head_of n m (Some h) = nat_le h n && not (h == m)

abbrev pub is_root_head : Option ℕ → Bool
is_root_head None = false
is_root_head (Some h) = h == 0

-- the head 0 has the relation root, and no other head has it
abbrev pub fits_root : Option ℕ → List ℕ → Bool
fits_root head deprel = if is_root_head head then bytes_eq (universal_part deprel) (codes "root") else not (bytes_eq
    (universal_part deprel) (codes "root"))

-- word m of n
abbrev pub is_word_row_fine : ℕ → ℕ → RowText → Bool
is_word_row_fine n m r = is_universal_tag r.upos && is_head_of n m r.head && is_relation r.deprel
    && fits_root r.head r.deprel

abbrev pub is_fine_as_word : ℕ → LineId → RowText → Bool
is_fine_as_word n (Word m) r = is_word_row_fine n m r
is_fine_as_word n (Span a b) r = true
is_fine_as_word n (Empty i k) r = true

-- each word of a sentence of n words; other rows pass
abbrev pub word_test : ℕ → RowTest
word_test n before r = is_fine_as_word n r.id r
