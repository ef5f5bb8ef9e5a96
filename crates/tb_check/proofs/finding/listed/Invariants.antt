use Rattle.std.proofs.Common.{◌≡◌, map, take}
use Rattle.tb_check.specs.Faults.{at_line}
use Rattle.tb_check.proofs.finding.listed.Given as goal

abbrev pub invariant-loop-faulty : goal.invariant-loop-faulty
invariant-loop-faulty l = l.found.items ≡ map at_line (take l.faulty-index l.lines)
