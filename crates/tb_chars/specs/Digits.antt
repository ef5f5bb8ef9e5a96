-- ASCII digits: the CoNLL-U format page writes IDs and heads with them, and features have no others.
use Rattle.std.specs.Prelude.{ℕ, Bool, ◌&&◌, nat_le}

abbrev pub is_digit : ℕ → Bool
is_digit b = nat_le 48 b && nat_le b 57
