use Rattle.std.proofs.Common.{sym, ◌∙◌}
use Rattle.tb_check.proofs.Asked.{asked_before, asked_next, none_before}
use Rattle.tb_check.proofs.check.ask.Goals as goal

pub returns-then-is_some-clause-asked : goal.returns-then-is_some-clause-asked
returns-then-is_some-clause-asked g c = λ before h.
    asked_before c.a_fault_stays.ensures c.args.checker.now c.args.checker.now c.args.reported before c.args.block.now (sym c.is_some.ensures ∙ c.if-is_some.true) h

pub returns-clause-asked : goal.returns-clause-asked
returns-clause-asked g c = λ before h.
    let taken = none_before c.args.checker.now c.args.reported before (sym c.is_some.ensures ∙ c.if-is_some.false) h in
    rw c.err.ensures.value (asked_next c.args.checker.now c.take.new.self before c.args.block.now c.take.result taken (c.take.ensures.valid before taken) (c.take.ensures.fault before taken) c.take.ensures.memory)
