-- Texts without white space, as Unicode's property White_Space has it.
use Rattle.std.specs.Prelude.{ℕ, List, length, Bool, ◌&&◌, ◌||◌, not, nat_lt, nat_le, ◌==◌, chars}
use Rattle.std.specs.Char.{is_whitespace}
use Rattle.std.specs.List.{list_any}

abbrev pub has_space : List ℕ → Bool
has_space bs = list_any is_whitespace (chars bs)

-- not empty, and without white space
abbrev pub is_solid : List ℕ → Bool
is_solid bs = nat_lt 0 (length bs) && not (has_space bs)

-- a byte that white space may begin with: a space or a control character, the first byte of U+0080 to U+00BF, or one
-- of U+1000 to U+3FFF
abbrev pub begins_white : ℕ → Bool
begins_white b = nat_le b 32 || b == 194 || (nat_le 225 b && nat_le b 227)
