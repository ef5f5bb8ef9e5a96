-- Names of batches and users, and lists of texts without repetition.
use Rattle.std.specs.Prelude.{◌≡◌, ℕ, List, [], ◌∷◌, length, Bool, ◌&&◌, ◌||◌, ◌==◌, nat_le}
use Rattle.std.specs.List.{AllByRecursion, list_all}

-- an ASCII letter or digit, a full stop, an underscore or a hyphen
abbrev pub is_name_byte : ℕ → Bool
is_name_byte c = (nat_le 65 c && nat_le c 90) || (nat_le 97 c && nat_le c 122) || (nat_le 48 c && nat_le c 57)
    || c == 46 || c == 95 || c == 45

-- a name: 1 to 32 of these
abbrev pub is_name : List ℕ → Bool
is_name text = nat_le 1 (length text) && nat_le (length text) 32 && list_all is_name_byte text

-- no text of the list is this one
abbrev pub Lacks : List (List ℕ) → List ℕ → Type 0
Lacks texts text = AllByRecursion (λ t. text ≡ t → ⊥) texts

-- no two are equal
abbrev pub AreApart : List (List ℕ) → Type 0
AreApart [] = Unit {0}
AreApart (t ∷ ts) = Lacks ts t × AreApart ts
