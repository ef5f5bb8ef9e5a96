-- The enhanced dependencies of words and empty nodes.
-- CoNLL-U format page, "Syntactic Annotation" and UD v2 guidelines, "Enhanced Dependencies": `_`, or pairs
-- `head:relation` joined by bars, in the order of their heads. A head is 0, or the ID, as it is written, of a word or
-- an empty node of the sentence. 0 comes before all, and `i.k` after `i`. Pairs with the same head may be in any order.
use Rattle.std.specs.Prelude.{ℕ, List, [], ◌∷◌, Option, Some, None, Bool, true, false, ◌&&◌, ◌||◌}
use Rattle.std.specs.Prelude.{nat_lt, nat_le, ◌==◌, bytes_eq, codes}
use Rattle.std.specs.Option.{is_some}
use Rattle.std.specs.List.{list_any, list_all, find, before_first, after_first, slice_split}
use Rattle.tb_conllu.specs.declared.id.LineId.{LineId}
use Rattle.tb_conllu.specs.declared.id.LineId.TheVariants.{Word, Span, Empty}
use Rattle.tb_conllu.specs.Text.{RowText, id_text}
use Rattle.tb_fields.specs.Feats.{is_bar}
use Rattle.tb_rules.specs.Rows.{RowTest}
use Rattle.tb_fields.specs.Blank.{is_blank}
use Rattle.tb_fields.specs.Relations.{is_colon}
use Rattle.tb_chars.specs.Spaces.{is_solid}

-- ---- heads

-- the root
abbrev pub is_root_text : List ℕ → Bool
is_root_text head = bytes_eq head (codes "0")

-- the ID, as it is written, of a word or an empty node
abbrev pub is_written : List ℕ → LineId → Bool
is_written head (Word n) = bytes_eq head (id_text (Word n))
is_written head (Span a b) = false
is_written head (Empty i k) = bytes_eq head (id_text (Empty i k))

-- the row of the sentence that a head names
abbrev pub named_row : List RowText → List ℕ → Option RowText
named_row rs head = find (λ r. is_written head r.id) rs

abbrev pub is_head_there : List RowText → List ℕ → Bool
is_head_there rs head = is_root_text head || is_some (named_row rs head)

-- an ID as a place: i is (i, 0), and i.k is (i, k)
abbrev pub place_word : LineId → ℕ
place_word (Word n) = n
place_word (Span a b) = a
place_word (Empty i k) = i

abbrev pub place_node : LineId → ℕ
place_node (Word n) = 0
place_node (Span a b) = 0
place_node (Empty i k) = k

abbrev pub is_place_in_order : LineId → LineId → Bool
is_place_in_order a b = nat_lt (place_word a) (place_word b) || (place_word a == place_word b && nat_le (place_node a)
    (place_node b))

-- the rows of two heads are in order: the root, which has none, before all, and the others by their IDs
abbrev pub are_in_order : Option RowText → Option RowText → Bool
are_in_order None next = true
are_in_order (Some r) None = false
are_in_order (Some r) (Some s) = is_place_in_order r.id s.id

-- ---- pairs of a head and a relation

abbrev pub pair_head : List ℕ → List ℕ
pair_head bs = before_first is_colon bs

abbrev pub is_pair : List RowText → List ℕ → Bool
is_pair rs bs = list_any is_colon bs && is_head_there rs (pair_head bs) && is_solid (after_first is_colon bs)

abbrev pub pair_precedes : List RowText → List ℕ → List (List ℕ) → Bool
pair_precedes rs x [] = true
pair_precedes rs x (y ∷ ys) = are_in_order (named_row rs (pair_head x)) (named_row rs (pair_head y))

abbrev pub are_pairs_in_order : List RowText → List (List ℕ) → Bool
are_pairs_in_order rs [] = true
are_pairs_in_order rs (x ∷ xs) = pair_precedes rs x xs && are_pairs_in_order rs xs

abbrev pub are_pairs : List RowText → List (List ℕ) → Bool
are_pairs rs items = list_all (is_pair rs) items && are_pairs_in_order rs items

abbrev pub is_dependency_text : List RowText → List ℕ → Bool
is_dependency_text rs bs = is_blank bs || are_pairs rs (slice_split is_bar bs)

abbrev pub is_fine_as_dependent : List RowText → LineId → RowText → Bool
is_fine_as_dependent rs (Word n) r = is_dependency_text rs r.deps
is_fine_as_dependent rs (Span a b) r = true
is_fine_as_dependent rs (Empty i k) r = is_dependency_text rs r.deps

-- each word and each empty node of a sentence with these rows; ranges pass
abbrev pub dependency_test : List RowText → RowTest
dependency_test rs before r = is_fine_as_dependent rs r.id r
