use Rattle.std.proofs.Common.{◌≡◌, ◌++◌, List, map, take}
use Rattle.tb_check.specs.Faults.{in_sentence}
use Rattle.tb_check.specs.declared.fault.Fault.{Fault}
use Rattle.tb_check.proofs.finding.push_broken.Given as goal

abbrev pub invariant-loop-fault : goal.invariant-loop-fault
invariant-loop-fault l = (all : List Fault) → l.initial.found.items ≡ take l.most all → l.found.items ≡ take l.most (all ++ map (in_sentence l.sentence) (take l.fault-index l.broken))
