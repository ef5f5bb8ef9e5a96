use Rattle.std.proofs.Common.{◌≡◌, rules, take}
use Rattle.tb_rules.specs.File.{IsCutShort}
use Rattle.tb_rules.specs.declared.filefault.FileFault.TheVariants.{Memory}
use Rattle.tb_rules.proofs.Valid.{fault_inside, only_memory, cut_short}
use Rattle.tb_rules.proofs.taking.check_all.Goals as goal

pub returns-in_err-take-clause-fault : goal.returns-in_err-take-clause-fault
returns-in_err-take-clause-fault g c =
    let reported = c.in_err-take.ensures.fault (take c.loop-block.block-index c.args.blocks.now) c.loop-block.invariant in
    let fault = fault_inside c.args.blocks.now c.loop-block.block-index c.block-item.result c.in_err-take.field-0.0 c.loop-block-test.true c.block-item.is reported in
    search (rules, fault)

pub returns-in_err-take-clause-only : goal.returns-in_err-take-clause-only
returns-in_err-take-clause-only g c = λ v.
    only_memory c.args.blocks.now c.from_residual.result (returns-in_err-take-clause-fault g c) v

pub returns-in_err-take-clause-memory : goal.returns-in_err-take-clause-memory
returns-in_err-take-clause-memory g c =
    let short : c.in_err-take.field-0.0 ≡ Memory → IsCutShort c.args.blocks.now = λ m.
    cut_short c.args.blocks.now c.loop-block.block-index c.block-item.result c.loop-block-test.true c.block-item.is c.loop-block.invariant.valid (c.in_err-take.ensures.memory m) in
    search (rules, short)
