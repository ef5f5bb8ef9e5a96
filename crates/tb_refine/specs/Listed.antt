-- Between crates: no contract of a front door cites a definition of this module.
-- A list of numbers that has a number.
use Rattle.std.specs.Prelude.{ℕ, List, [], ◌∷◌, Bool, false, ◌||◌, nat_eq}

abbrev pub is_listed : ℕ → List ℕ → Bool
is_listed n [] = false
is_listed n (m ∷ ms) = nat_eq m n || is_listed n ms
