-- What a desk keeps for its commands beside the tables, and what a command writes.
use Rattle.std.specs.Prelude.{◌≡◌, ◌≤◌, length}
use Rattle.tb_core.specs.declared.limits.Limits.{Limits}
use Rattle.tb_core.specs.Machine.{Machine}
use Rattle.tb_core.specs.Acts.{Act, after}
use Rattle.tb_core.specs.Acts.{move_of as move_made}
use Rattle.tb_core.specs.Totals.{AreTotalsOf}
use Rattle.tb_refine.specs.declared.counters.Counters.{Counters}
use Rattle.tb_refine.specs.declared.preparing.PreparedMove.{PreparedMove}
use Rattle.tb_refine.specs.Recorded.{IsChangeOf}

-- limits of at most 1,000,000 sentences and hits and 1,000,000,000 moves
pub record IsWithin (l : Limits) : Type 0 where
  pub sentences : l.sentences ≤ 1000000
  pub moves : l.moves ≤ 1000000000
  pub hits : l.hits ≤ 1000000

-- the counts and totals are those of this state
pub record IsCounted (k : Counters) (s : Machine) : Type 0 where
  pub moves : k.moves ≡ length s.moves
  pub totals : AreTotalsOf k.totals s

-- what an accepted command writes, and the totals after it
pub record IsPrepared (s : Machine) (a : Act) (p : PreparedMove) : Type 0 where
  pub stand : AreTotalsOf p.totals (after s a)
  pub change : IsChangeOf p.totals (move_made s a) p.change
