use Rattle.tb_words.proofs.QueryPatterns.{at_boundary, no_pattern}
use Rattle.tb_words.proofs.patterns.stop.Goals as goal

pub returns-in-Err-clause-none : goal.returns-in-Err-clause-none
returns-in-Err-clause-none c =
    no_pattern c.args.text.now c.in-Err.error.kind c.unless_memory.result (rw c.default.ensures at c.in-Err.ensures.err)
    c.unless_memory.ensures.kind

pub returns-in-Err-clause-place : goal.returns-in-Err-clause-place
returns-in-Err-clause-place c =
    at_boundary c.args.text.now c.in-Err.error.span.start c.unless_memory.result c.in-Err.ensures.span.1 c.unless_memory.ensures.place
