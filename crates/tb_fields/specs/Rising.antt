-- Inner: no contract beyond this crate cites a definition of this module.
-- Features whose names ascend strictly, as in nearly all lists. Then each name is unique.
use Rattle.std.specs.Prelude.{ℕ, List, [], ◌∷◌, Bool, true, false, ◌&&◌, ◌||◌, nat_lt, ◌==◌}
use Rattle.std.specs.Char.{to_ascii_lowercase}
use Rattle.tb_fields.specs.Feats.{is_feature, feature_name}

-- the first is strictly before the second in the order of their bytes; ASCII case does not matter
abbrev pub is_below : List ℕ → List ℕ → Bool
is_below [] [] = false
is_below [] (y ∷ ys) = true
is_below (x ∷ xs) [] = false
is_below (x ∷ xs) (y ∷ ys) =
    nat_lt (to_ascii_lowercase x) (to_ascii_lowercase y) || (to_ascii_lowercase x == to_ascii_lowercase y
    && is_below xs ys)

-- features, each with a name above the one before
abbrev pub are_rising : List ℕ → List (List ℕ) → Bool
are_rising last [] = true
are_rising last (x ∷ xs) = (is_feature x && is_below last (feature_name x)) && are_rising (feature_name x) xs
