-- Inner: no contract beyond this crate cites a definition of this module.
-- What the greatest end of the ranges before a row shows: where a range may begin and, if ranges come before their
-- words, whether a word is in one.
use Rattle.std.specs.Prelude.{◌≡◌, ℕ, ◌+◌, ◌<◌, max, List, length, take, slice_index_or, Bool, true}
use Rattle.std.specs.Prelude.{false, ◌&&◌, not, nat_lt, nat_le, ◌==◌}
use Rattle.std.specs.List.{fold}
use Rattle.tb_conllu.specs.declared.id.LineId.{LineId}
use Rattle.tb_conllu.specs.declared.id.LineId.TheVariants.{Word, Span, Empty}
use Rattle.tb_conllu.specs.Text.{RowText}
use Rattle.tb_rules.specs.Restored.{is_covered}
use Rattle.tb_rules.specs.Spans.{is_bare}

-- the last word of a range; other rows have none
abbrev pub end_of_id : LineId → ℕ
end_of_id (Word n) = 0
end_of_id (Span a b) = b
end_of_id (Empty i k) = 0

-- the greatest last word of the ranges among the rows, 0 where there are none
abbrev pub greatest_end : List RowText → ℕ
greatest_end rs = fold (λ e r. max e (end_of_id r.id)) 0 rs

-- A row of a sentence of n words, after `words` words and ranges up to this end.
abbrev pub is_fine_past : ℕ → ℕ → ℕ → LineId → RowText → Bool
is_fine_past n words end (Word m) r = true
is_fine_past n words end (Span a b) r = a == (words + 1) && nat_le a b && nat_le b n && nat_lt end a && is_bare r
is_fine_past n words end (Empty i k) r = true

-- a word is in a range exactly where it is at most the greatest end of the ranges before it
abbrev pub RangesLead : List RowText → Type 0
RangesLead rs = (k w : ℕ) (d : RowText) → k < length rs → (slice_index_or rs k d).id ≡ Word w
    → is_covered rs w ≡ nat_le w (greatest_end (take k rs))

-- a range, or a word after this end
abbrev pub is_token_after : ℕ → LineId → Bool
is_token_after end (Word w) = not (nat_le w end)
is_token_after end (Span a b) = true
is_token_after end (Empty i k) = false

-- the number of a word, and the first word of a range; 0 for other rows
abbrev pub number_of_id : LineId → ℕ
number_of_id (Word w) = w
number_of_id (Span a b) = 0
number_of_id (Empty i k) = 0

abbrev pub start_of_id : LineId → ℕ
start_of_id (Word w) = 0
start_of_id (Span a b) = a
start_of_id (Empty i k) = 0

-- a word not before the starts so far, and a range that starts after the words so far
abbrev pub ascends : ℕ → ℕ → LineId → Bool
ascends word start (Word w) = nat_lt 0 w && nat_le start w
ascends word start (Span a b) = nat_lt word a
ascends word start (Empty i k) = true
