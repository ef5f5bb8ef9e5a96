use Rattle.tb_words.proofs.Spellings.{cut_smaller}
use Rattle.tb_words.proofs.spelling.cut_before.Goals as goal

pub loop-at-smaller : goal.loop-at-smaller
loop-at-smaller c =
    cut_smaller c.args.first.now c.args.second.now c.loop-at.at c.saturating_sub-at.result c.may_cut.result c.utf8.first c.utf8.second
    c.may_cut.ensures.1 c.loop-at-test.true c.saturating_sub-at.ensures
