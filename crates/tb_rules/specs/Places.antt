-- Inner: no contract beyond this crate cites a definition of this module.
-- Heads as numbers, by which rows with the right numbers are found and compared without looking at any.
use Rattle.std.specs.Prelude.{ℕ, List, [], ◌∷◌, length, Option, Some, None, Bool, true, false, ◌&&◌}
use Rattle.std.specs.Prelude.{◌||◌, not, nat_lt, nat_le, ◌==◌, slice_index, if◌then◌else◌}
use Rattle.std.specs.List.{list_any, list_all, before_first, after_first, slice_split}
use Rattle.std.specs.Str.Parse.{digits_value}
use Rattle.tb_conllu.specs.declared.id.LineId.{LineId}
use Rattle.tb_conllu.specs.declared.id.LineId.TheVariants.{Word, Span, Empty}
use Rattle.tb_conllu.specs.Text.{RowText}
use Rattle.tb_fields.specs.Blank.{is_blank}
use Rattle.tb_chars.specs.Digits.{is_digit}
use Rattle.tb_fields.specs.Feats.{is_bar}
use Rattle.tb_fields.specs.Relations.{is_colon}
use Rattle.tb_chars.specs.Spaces.{is_solid}
use Rattle.tb_rules.specs.Rows.{RowTest}
use Rattle.tb_rules.specs.Deps.{pair_head}
use Rattle.tb_rules.specs.Named.{is_word_numbered, is_node_numbered}

-- ---- numbers

-- not empty, without a leading zero, and at most 19 digits, which fit 64 bits
abbrev pub is_plain : List ℕ → Bool
is_plain bs = nat_lt 0 (length bs) && nat_le (length bs) 19 && (not (slice_index bs 0 == 48) || length bs == 1)

abbrev pub value_of : List ℕ → Option ℕ
value_of bs = if list_all is_digit bs then Some (digits_value 10 bs) else None

-- the number that the text writes
abbrev pub number_of : List ℕ → Option ℕ
number_of bs = if is_plain bs then value_of bs else None

-- ---- places

abbrev pub is_dot : ℕ → Bool
is_dot b = b == 46

abbrev pub word_place : Option ℕ → Option (ℕ × ℕ)
word_place None = None
word_place (Some n) = Some (n, 0)

abbrev pub node_place : Option ℕ → Option ℕ → Option (ℕ × ℕ)
node_place None k = None
node_place (Some i) None = None
node_place (Some i) (Some k) = if k == 0 then None else Some (i, k)

-- the place of a head: (0, 0) for the root, (n, 0) for word n, and (i, k) for the empty node i.k
abbrev pub place_of : List ℕ → Option (ℕ × ℕ)
place_of bs = if list_any is_dot bs then node_place (number_of (before_first is_dot bs)) (number_of
    (after_first is_dot bs)) else word_place (number_of bs)

abbrev pub is_there : List RowText → (ℕ × ℕ) → Bool
is_there rs p = if p.1 == 0 then p.0 == 0 || list_any (λ r. is_word_numbered p.0 r.id) rs else list_any (λ r.
    is_node_numbered p.0 p.1 r.id) rs

abbrev pub is_place_there : List RowText → Option (ℕ × ℕ) → Bool
is_place_there rs None = false
is_place_there rs (Some p) = is_there rs p

abbrev pub is_up_to : (ℕ × ℕ) → (ℕ × ℕ) → Bool
is_up_to p q = nat_lt p.0 q.0 || (p.0 == q.0 && nat_le p.1 q.1)

abbrev pub are_places_in_order : Option (ℕ × ℕ) → Option (ℕ × ℕ) → Bool
are_places_in_order None q = false
are_places_in_order (Some p) None = false
are_places_in_order (Some p) (Some q) = is_up_to p q

-- ---- pairs of a head and a relation

abbrev pub is_placed_pair : List RowText → List ℕ → Bool
is_placed_pair rs bs = list_any is_colon bs && is_place_there rs (place_of
    (pair_head bs)) && is_solid (after_first is_colon bs)

abbrev pub place_precedes : List ℕ → List (List ℕ) → Bool
place_precedes x [] = true
place_precedes x (y ∷ ys) = are_places_in_order (place_of (pair_head x)) (place_of (pair_head y))

abbrev pub places_ascend : List (List ℕ) → Bool
places_ascend [] = true
places_ascend (x ∷ xs) = place_precedes x xs && places_ascend xs

abbrev pub are_placed_pairs : List RowText → List (List ℕ) → Bool
are_placed_pairs rs items = list_all (is_placed_pair rs) items && places_ascend items

abbrev pub is_placed_text : List RowText → List ℕ → Bool
is_placed_text rs bs = is_blank bs || are_placed_pairs rs (slice_split is_bar bs)

abbrev pub is_placed_dependent : List RowText → LineId → RowText → Bool
is_placed_dependent rs (Word n) r = is_placed_text rs r.deps
is_placed_dependent rs (Span a b) r = true
is_placed_dependent rs (Empty i k) r = is_placed_text rs r.deps

abbrev pub place_test : List RowText → RowTest
place_test rs before r = is_placed_dependent rs r.id r
