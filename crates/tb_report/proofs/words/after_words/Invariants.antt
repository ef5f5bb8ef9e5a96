use Rattle.std.proofs.Common.{◌≡◌, drop, filter, length}
use Rattle.tb_conllu.specs.Words.{is_word}
use Rattle.tb_report.proofs.words.after_words.Given as goal

abbrev pub invariant-loop-left : goal.invariant-loop-left
invariant-loop-left g l = drop l.left (filter is_word l.rest) ≡ drop l.words (filter is_word l.rows)

abbrev pub decreases-loop-left : goal.decreases-loop-left
decreases-loop-left g l = length l.rest
