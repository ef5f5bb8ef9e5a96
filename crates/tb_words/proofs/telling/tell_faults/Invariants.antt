use Rattle.std.proofs.Common.{◌≡◌, ◌++◌, List, drop, map, take}
use Rattle.tb_report.specs.FaultList.{FaultText}
use Rattle.tb_words.specs.Told.{AreTold}
use Rattle.tb_words.specs.Walks.{IsWalk}
use Rattle.tb_words.proofs.telling.tell_faults.Given as goal

abbrev pub invariant-loop-fault : goal.invariant-loop-fault
invariant-loop-fault l =
    (map (λ x. x.fault) l.told.items ≡ take l.fault-index l.faults) × IsWalk l.file l.walk
    × ((others : List FaultText) → AreTold l.file l.walk.lines.here.number l.walk.number (drop l.fault-index l.faults) others
    → AreTold l.file 0 0 l.faults (l.told.items ++ others))
