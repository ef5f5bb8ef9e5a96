-- Morphological features.
-- CoNLL-U format page, "Morphological Annotation", and UD v2 guidelines, "Morphology: General Principles" (layered
-- features, several values). The field is `_`, or features `Name=Value` joined by bars, in the order of their names.
-- Names and values are ASCII letters and digits, and begin with a capital or a digit. The order of names ignores the
-- case of letters. Several values of a feature are joined by commas. This project requires the same of ranges, and
-- leaves the order of a feature's values free.
use Rattle.std.specs.Prelude.{ℕ, List, [], ◌∷◌, length, map, Bool, true, false, ◌&&◌, ◌||◌, not, nat_lt}
use Rattle.std.specs.Prelude.{nat_le, ◌==◌, bytes_eq}
use Rattle.std.specs.Char.{to_ascii_lowercase}
use Rattle.std.specs.List.{list_any, list_all, before_first, after_first, slice_split}
use Rattle.tb_chars.specs.Digits.{is_digit}
use Rattle.tb_fields.specs.Blank.{is_blank}

abbrev pub is_equals : ℕ → Bool
is_equals b = b == 61

abbrev pub is_bar : ℕ → Bool
is_bar b = b == 124

abbrev pub is_comma : ℕ → Bool
is_comma b = b == 44

abbrev pub is_opening : ℕ → Bool
is_opening b = b == 91

abbrev pub is_closing : ℕ → Bool
is_closing b = b == 93

abbrev pub is_capital : ℕ → Bool
is_capital b = nat_le 65 b && nat_le b 90

abbrev pub is_small : ℕ → Bool
is_small b = nat_le 97 b && nat_le b 122

abbrev pub is_capital_or_digit : ℕ → Bool
is_capital_or_digit b = is_capital b || is_digit b

abbrev pub is_small_or_digit : ℕ → Bool
is_small_or_digit b = is_small b || is_digit b

abbrev pub is_letter_or_digit : ℕ → Bool
is_letter_or_digit b = is_capital b || is_small b || is_digit b

-- a capital or a digit, and then letters and digits
abbrev pub is_label : List ℕ → Bool
is_label [] = false
is_label (b ∷ bs) = is_capital_or_digit b && list_all is_letter_or_digit bs

-- the text after the opening bracket of a layer: small letters and digits, and the closing bracket at the end
abbrev pub is_layer : List ℕ → Bool
is_layer bs =
    list_any is_closing bs && nat_lt 0 (length
    (before_first is_closing bs)) && list_all is_small_or_digit (before_first is_closing bs) &&
    length (after_first is_closing bs) == 0

-- a name, alone or with a layer in brackets
abbrev pub is_name : List ℕ → Bool
is_name bs = is_label (before_first is_opening bs) && (not (list_any is_opening bs) || is_layer
    (after_first is_opening bs))

-- each text is unique
abbrev pub are_distinct : List (List ℕ) → Bool
are_distinct [] = true
are_distinct (x ∷ xs) = not (list_any (bytes_eq x) xs) && are_distinct xs

-- values, each unique
abbrev pub are_values : List (List ℕ) → Bool
are_values vs = list_all is_label vs && are_distinct vs

abbrev pub is_feature : List ℕ → Bool
is_feature bs = list_any is_equals bs && is_name (before_first is_equals bs) && are_values (slice_split is_comma
    (after_first is_equals bs))

abbrev pub feature_name : List ℕ → List ℕ
feature_name bs = before_first is_equals bs

-- the first is not after the second in the order of their bytes; ASCII case does not matter
abbrev pub is_not_after : List ℕ → List ℕ → Bool
is_not_after [] ys = true
is_not_after (x ∷ xs) [] = false
is_not_after (x ∷ xs) (y ∷ ys) =
    nat_lt (to_ascii_lowercase x) (to_ascii_lowercase y) || (to_ascii_lowercase x == to_ascii_lowercase y
    && is_not_after xs ys)

-- it is not after the first of the others
abbrev pub precedes : List ℕ → List (List ℕ) → Bool
precedes x [] = true
precedes x (y ∷ ys) = is_not_after x y

abbrev pub are_in_order : List (List ℕ) → Bool
are_in_order [] = true
are_in_order (x ∷ xs) = precedes x xs && are_in_order xs

-- features in the order of their names, each name unique
abbrev pub are_features : List (List ℕ) → Bool
are_features items = list_all is_feature items && (are_in_order (map feature_name items) && are_distinct
    (map feature_name items))

abbrev pub is_feature_text : List ℕ → Bool
is_feature_text bs = is_blank bs || are_features (slice_split is_bar bs)
