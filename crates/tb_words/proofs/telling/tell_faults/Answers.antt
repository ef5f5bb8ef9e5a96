use Rattle.std.proofs.Common.{arith, rules}
use Rattle.std.proofs.lemmas.List.{drop_all}
use Rattle.tb_words.proofs.ListSteps.{all_told, none_told, one_more_fault, one_more_told}
use Rattle.tb_words.proofs.telling.tell_faults.Goals as goal

pub loop-fault-init : goal.loop-fault-init
loop-fault-init c = (
  search rules,
  c.new-walk.ensures.at,
  λ others come. none_told c.args.file.now c.args.faults.now _ _ _ others c.new-walk.ensures.start.0 c.new-walk.ensures.start.1
      (search rules) come,
)

pub loop-fault-preserved : goal.loop-fault-preserved
loop-fault-preserved c = (
  one_more_fault c.args.faults.now c.loop-fault.fault-index _ c.in_ok-tell.field-0 c.loop-fault.told.items _ c.loop-fault-test.true
      c.in_ok-tell.ensures.fault (search rules) c.loop-fault.invariant.0,
  c.in_ok-tell.ensures.at c.args.file.now c.loop-fault.invariant.1,
  one_more_told c.args.file.now c.args.faults.now c.loop-fault.fault-index _ _ _ _ _ c.in_ok-tell.field-0 c.loop-fault.told.items _
      c.loop-fault-test.true (c.in_ok-tell.ensures.told c.args.file.now c.loop-fault.invariant.1) c.in_ok-tell.ensures.number.0
      c.in_ok-tell.ensures.number.1 (search rules) c.loop-fault.invariant.2,
)

pub returns-clause-told : goal.returns-clause-told
returns-clause-told c =
    all_told c.args.file.now c.args.faults.now c.loop-fault.fault-index _ _ c.loop-fault.told.items
    (drop_all c.loop-fault.fault-index c.args.faults.now (omega (arith, c.loop-fault-test.false))) c.loop-fault.invariant.2
