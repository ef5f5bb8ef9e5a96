-- Bytes that need a second test.
use Rattle.std.specs.Prelude.{ℕ, Bool, ◌&&◌, not, nat_le, nat_lt, ◌==◌}
use Rattle.tb_chars.specs.Spaces.{begins_white}

-- the first byte of a character from U+0300 on; NFC does not change those below, which are starters
abbrev pub is_beyond_latin : ℕ → Bool
is_beyond_latin b = nat_le 204 b

-- a byte other than a tab that white space may begin with
abbrev pub is_loose : ℕ → Bool
is_loose b = begins_white b && not (b == 9)

-- a control character other than tab and line feed
abbrev pub is_stray : ℕ → Bool
is_stray b = nat_lt b 32 && not (b == 9) && not (b == 10)

-- a byte other than a tab or a line feed that white space may begin with
abbrev pub is_wide : ℕ → Bool
is_wide b = is_loose b && not (b == 10)
