use Rattle.std.proofs.Common.{◌≡◌, List, length, take}
use Rattle.tb_conllu.specs.Text.{BlockText}
use Rattle.tb_rules.specs.Broken.{AreNames}
use Rattle.tb_check.specs.declared.fault.Fault.{Fault}
use Rattle.tb_check.proofs.Found.{AreFound}
use Rattle.tb_check.proofs.finding.sentence_faults.Given as goal

abbrev pub invariant-loop-found : goal.invariant-loop-found
invariant-loop-found l = (bs : List BlockText) × (all : List Fault) × AreFound l.bytes l.unread l.sentence bs all × AreNames l.examiner bs × (l.found.items ≡ take l.most all)

abbrev pub decreases-loop-found : goal.decreases-loop-found
decreases-loop-found l = length l.unread.rest
