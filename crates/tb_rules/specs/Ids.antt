-- The numbers of the rows of a sentence.
-- CoNLL-U format page, "Words, Tokens and Empty Nodes": words are numbered from 1 on, without a gap. Empty nodes come
-- after the word whose number they have (0 before the first), and are numbered i.1, i.2, .. there. That a sentence has
-- at most 1000 words is this project's own limit.
use Rattle.std.specs.Prelude.{ℕ, ◌+◌, ◌≤◌, Bool, true, false, ◌&&◌, ◌==◌, count_by}
use Rattle.tb_conllu.specs.declared.id.LineId.{LineId}
use Rattle.tb_conllu.specs.declared.id.LineId.TheVariants.{Word, Span, Empty}
use Rattle.tb_conllu.specs.Text.{RowText, BlockText}
use Rattle.tb_conllu.specs.Words.{is_word, words_of}
use Rattle.tb_rules.specs.Rows.{RowTest, EachRowPasses}

abbrev pub is_node_id_after : ℕ → LineId → Bool
is_node_id_after w (Word n) = false
is_node_id_after w (Span n m) = false
is_node_id_after w (Empty i k) = i == w

-- an empty node whose ID has the number of word w
abbrev pub is_node_after : ℕ → RowText → Bool
is_node_after w r = is_node_id_after w r.id

-- The ID of the next row after `words` words. `nodes i` is how many empty nodes have the number i so far.
abbrev pub is_next_id : ℕ → (ℕ → ℕ) → LineId → Bool
is_next_id words nodes (Word n) = n == (words + 1)
is_next_id words nodes (Span n m) = true
is_next_id words nodes (Empty i k) = i == words && k == (nodes i + 1)

-- A word has the next number. An empty node has the number of the last word before it, and the next one there.
abbrev pub is_in_place : RowTest
is_in_place before r = is_next_id (count_by is_word before) (λ i. count_by (is_node_after i) before) r.id

pub record HasIds (b : BlockText) : Type 0 where
  pub some : 1 ≤ words_of b
  pub few : words_of b ≤ 1000
  pub in_place : EachRowPasses is_in_place b.rows
