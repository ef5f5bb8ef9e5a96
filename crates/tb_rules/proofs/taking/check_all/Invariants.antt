use Rattle.std.proofs.Common.{take}
use Rattle.tb_rules.specs.File.{HasTaken}
use Rattle.tb_rules.proofs.taking.check_all.Given as goal

abbrev pub invariant-loop-block : goal.invariant-loop-block
invariant-loop-block g l = HasTaken l.checker (take l.block-index l.blocks)
