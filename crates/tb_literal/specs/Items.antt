-- The items of a list of features, and when such a list contains a literal.
-- CoNLL-U format page, on FEATS: items are separated by `|`, and a list without items is an underscore.
-- The CQP Query Language Manual, on feature sets and `contains`.
use Rattle.std.specs.Prelude.{ℕ, List, [], Bool, nat_eq, if◌then◌else◌, codes}
use Rattle.std.specs.List.{list_any, slice_split}
use Rattle.std.specs.Str.{bytes_eq}
use Rattle.tb_literal.specs.Literals.{PlainLit, meets}

abbrev pub is_bar : ℕ → Bool
is_bar c = nat_eq c 0x7C

-- the texts between the bars
abbrev pub pieces : List ℕ → List (List ℕ)
pieces = slice_split is_bar

abbrev pub items : List ℕ → List (List ℕ)
items feats = if bytes_eq feats (codes "_") then [] else pieces feats

-- the literal fits some item
abbrev pub meets_item : PlainLit → List ℕ → Bool
meets_item literal feats = list_any (meets literal) (items feats)
