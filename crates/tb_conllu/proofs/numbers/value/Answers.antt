use Rattle.std.proofs.Common.{arith, ◌∙◌, ap}
use Rattle.std.specs.Str.Parse.{digits_value}
use Rattle.std.specs.Fmt.{decimal}
use Rattle.std.proofs.lemmas.List.{take_all}
use Rattle.tb_conllu.proofs.Decimals.{value_small, value_step, decimal-is_number}
use Rattle.tb_conllu.proofs.numbers.value.Goals as goal

pub overflow_mul-n : goal.overflow_mul-n
overflow_mul-n c = omega (arith, value_small c.args.text.now c.loop-b.b-index c.requires)

pub overflow_add-n : goal.overflow_add-n
overflow_add-n c = omega (arith, value_small c.args.text.now c.loop-b.b-index c.requires, c.type_inv.text c.loop-b.b-index)

pub loop-b-preserved : goal.loop-b-preserved
loop-b-preserved c =
    let s = value_step c.args.text.now c.loop-b.b-index c.requires (omega arith) in
    let i = c.loop-b.invariant in
    let f = c.from.ensures in
    omega (arith, s.1, i, f)

pub returns-clause-text : goal.returns-clause-text
returns-clause-text c =
    let e = c.loop-b.invariant ∙ ap (digits_value 10) (take_all c.loop-b.b-index c.args.text.now c.loop-b-test.false) in
    ap decimal e ∙ (decimal-is_number c.args.text.now c.requires).0

pub returns-clause-bound : goal.returns-clause-bound
returns-clause-bound c = omega (arith, value_small c.args.text.now c.loop-b.b-index c.requires, c.loop-b.invariant)
