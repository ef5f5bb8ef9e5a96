use Rattle.tb_literal.proofs.PatternLemmas.{pattern_of_reads}
use Rattle.tb_words.proofs.patterns.is_pattern.Goals as goal

pub returns : goal.returns
returns c = λ is. pattern_of_reads c.args.text.now _ _ (rw c.default.ensures at c.in_default.ensures.ok)
