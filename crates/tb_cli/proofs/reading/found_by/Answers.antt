use Rattle.clap.specs.declared.parser.matches.ArgMatches.{ArgMatches}
use Rattle.tb_cli.proofs.Answered.{told_answers, told_comes}
use Rattle.tb_cli.proofs.reading.found_by.Goals as goal

pub returns-in-Ok-clause-ok : goal.returns-in-Ok-clause-ok
returns-in-Ok-clause-ok c simple = (c.in-Ok.ensures.matches simple).1

pub returns-in-Ok-clause-answers : goal.returns-in-Ok-clause-answers
returns-in-Ok-clause-answers c free = c.in-Ok.ensures.kinds free

pub returns-in-Err-clause-err : goal.returns-in-Err-clause-err
returns-in-Err-clause-err c = told_comes c.in-Err.error _ c.fault_by.ensures c.in-Err.ensures.passes

pub returns-in-Err-clause-answers : goal.returns-in-Err-clause-answers
returns-in-Err-clause-answers c free = told_answers ArgMatches _ c.in-Err.error _ c.fault_by.ensures (c.in-Err.ensures.kinds free)
