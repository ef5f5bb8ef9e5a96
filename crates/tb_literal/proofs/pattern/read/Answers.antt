use Rattle.tb_literal.proofs.PatternLemmas.{pattern_of_reads, outside_of_refuses}
use Rattle.tb_literal.proofs.pattern.read.Goals as goal

pub returns-in-Err-clause-refused : goal.returns-in-Err-clause-refused
returns-in-Err-clause-refused c syntax =
    outside_of_refuses c.args.text.now c.in-Err.error.kind (rw c.default.ensures at c.in-Err.ensures.err) (λ memory. c.fault_of.ensures.syntax syntax memory)

pub returns-clause-pattern : goal.returns-clause-pattern
returns-clause-pattern c = pattern_of_reads c.args.text.now _ _ (rw c.default.ensures at c.in_default.ensures.ok)
