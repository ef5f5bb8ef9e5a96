-- Between crates: no contract of a front door cites a definition of this module.
-- Which IDs the rows of a sentence have, from counts alone.
-- CoNLL-U format page, "Words, Tokens and Empty Nodes": words are numbered from 1 on, and the empty nodes after word i
-- are i.1, i.2, ...
use Rattle.std.specs.Prelude.{◌≡◌, ℕ, ◌≤◌, List, Bool, true, false, ◌&&◌, nat_lt, nat_le, ◌==◌}
use Rattle.std.specs.Prelude.{slice_index, count_by}
use Rattle.std.specs.List.{list_any}
use Rattle.tb_conllu.specs.declared.id.LineId.{LineId}
use Rattle.tb_conllu.specs.declared.id.LineId.TheVariants.{Word, Span, Empty}
use Rattle.tb_conllu.specs.Text.{RowText}
use Rattle.tb_conllu.specs.Words.{is_word}
use Rattle.tb_rules.specs.Rows.{EachRowPasses}
use Rattle.tb_rules.specs.Ids.{is_node_after, is_in_place}

abbrev pub is_word_numbered : ℕ → LineId → Bool
is_word_numbered n (Word m) = m == n
is_word_numbered n (Span a b) = false
is_word_numbered n (Empty i k) = false

abbrev pub is_node_numbered : ℕ → ℕ → LineId → Bool
is_node_numbered i k (Word m) = false
is_node_numbered i k (Span a b) = false
is_node_numbered i k (Empty j l) = j == i && l == k

abbrev pub is_node_id : LineId → Bool
is_node_id (Word n) = false
is_node_id (Span a b) = false
is_node_id (Empty i k) = true

-- Rows with this many words, and with the right numbers.
pub record AreNumbered (rs : List RowText) (words : ℕ) : Type 0 where
  pub in_place : EachRowPasses is_in_place rs
  pub count : words ≡ count_by is_word rs
  pub few : words ≤ 1000

-- for each word, and for 0, how many empty nodes come after it
abbrev pub AreNodeCounts : List RowText → List ℕ → Type 0
AreNodeCounts rs nodes = (i : ℕ) → slice_index nodes i ≡ count_by (is_node_after i) rs

-- The number of words, and of empty nodes after each, decide which IDs there are.
pub record TellIds (rs : List RowText) (words : ℕ) (nodes : List ℕ) : Type 0 where
  pub word : (n : ℕ) → list_any (λ r. is_word_numbered n r.id) rs ≡ (nat_lt 0 n && nat_le n words)
  pub node : (i k : ℕ) → list_any (λ r. is_node_numbered i k r.id) rs
      ≡ (nat_lt 0 k && nat_le k (slice_index nodes i))
