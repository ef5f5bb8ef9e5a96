use Rattle.std.proofs.Common.{map, take}
use Rattle.tb_rules.specs.Broken.{AreBrokenOf, rule_of}
use Rattle.tb_rules.proofs.breaking.broken_of.Given as goal

abbrev pub invariant-loop-rule : goal.invariant-loop-rule
invariant-loop-rule g l = AreBrokenOf (map rule_of (take l.rule-index l.rules)) l.block l.broken.items
