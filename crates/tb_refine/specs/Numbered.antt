-- Between crates: no contract of a front door cites a definition of this module.
-- Moves that are numbered in their order.
use Rattle.std.specs.Prelude.{◌≡◌, ℕ, ◌+◌, List, [], ◌∷◌}
use Rattle.tb_core.specs.Moves.{MoveText}

-- from this number on
abbrev pub AreNumbered : ℕ → List MoveText → Type 0
AreNumbered n [] = Unit {0}
AreNumbered n (m ∷ ms) = (m.no ≡ n) × AreNumbered (n + 1) ms
