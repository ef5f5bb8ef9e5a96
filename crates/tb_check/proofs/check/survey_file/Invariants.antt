use Rattle.std.proofs.Common.{List, length}
use Rattle.tb_conllu.specs.Text.{BlockText}
use Rattle.tb_check.specs.Check.{IsAsked}
use Rattle.tb_check.proofs.Counted.{IsCounted}
use Rattle.tb_check.proofs.check.survey_file.Given as goal

abbrev pub invariant-loop-checker : goal.invariant-loop-checker
invariant-loop-checker l = (bs : List BlockText) × IsCounted l.file l.unread l.found.sentences l.found.words bs × IsAsked l.checker l.found.fault bs

abbrev pub decreases-loop-checker : goal.decreases-loop-checker
decreases-loop-checker l = length l.unread.rest
