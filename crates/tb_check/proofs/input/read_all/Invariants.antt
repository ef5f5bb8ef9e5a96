use Rattle.std.proofs.Common.{◌-◌, ◌+◌, vec_len}
use Rattle.tb_check.specs.Input.{CameInPieces}
use Rattle.tb_check.proofs.Inputs.{IsTaking}
use Rattle.tb_check.proofs.input.read_all.Given as goal

abbrev pub invariant-reads : goal.invariant-reads
invariant-reads g l = IsTaking (g.R.Source.left l.fn.source) (g.R.Source.left l.source) l.all.items l.limit
    × CameInPieces l.limit (g.R.Source.pieces l.fn.source) (g.R.Source.pieces l.source) l.all.items

abbrev pub decreases-reads : goal.decreases-reads
decreases-reads g l = (l.limit + 1) - vec_len l.all
