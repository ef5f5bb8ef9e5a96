use Rattle.tb_rules.proofs.Covers.{Led}
use Rattle.tb_rules.proofs.covering.ranges_lead.Given as goal

abbrev pub invariant-loop-row : goal.invariant-loop-row
invariant-loop-row g l = Led l.rows l.row-index l.word l.start
