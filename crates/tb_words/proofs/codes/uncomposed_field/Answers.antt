use Rattle.std.proofs.Common.{◌<◌, arith, length, lit<, subst, ℕ}
use Rattle.std.proofs.lemmas.Iterator.Consumers.{YieldsList-from_enumerate, YieldsList-turn}
use Rattle.std.proofs.lemmas.Iterator.Splits.{YieldsList-from_str_split}
use Rattle.std.proofs.lemmas.List.{length_push}
use Rattle.tb_words.proofs.Walked.{is_composed_at, is_uncomposed_at, next_field, one_more_composed}
use Rattle.tb_words.proofs.codes.uncomposed_field.Goals as goal

pub returns-then-not-is_composed : goal.returns-then-not-is_composed
returns-then-not-is_composed c =
    let t = YieldsList-turn {s = c.into_iter-column-iterator.result} (YieldsList-from_enumerate {s = c.into_iter-column-iterator.result}
    (YieldsList-from_str_split {s = c.into_iter-column-iterator.result.iter} 9 c.args.line.now (lit< tt) (cc) (cc) (cc)) (cc))
    c.loop-column.yielded _ c.loop-column.yielded_by _ _ (c.in-Some.column, c.in-Some.value) c.in-Some.is c.next.ensures.steps in
    let here = next_field c.args.line.now c.in-Some.column (length c.loop-column.yielded) c.in-Some.value.now t.0 t.1 in (
      is_uncomposed_at c.args.line.now c.in-Some.column c.in-Some.value.now c.in-Ok.is_composed here.1 c.in-Ok.ensures.answer
          c.if-not-is_composed.true,
      λ k less. c.loop-column.invariant k (omega (arith, here.0)),
    )

pub loop-column-preserved : goal.loop-column-preserved
loop-column-preserved c =
    let t = YieldsList-turn {s = c.into_iter-column-iterator.result} (YieldsList-from_enumerate {s = c.into_iter-column-iterator.result}
    (YieldsList-from_str_split {s = c.into_iter-column-iterator.result.iter} 9 c.args.line.now (lit< tt) (cc) (cc) (cc)) (cc))
    c.loop-column.yielded _ c.loop-column.yielded_by _ _ (c.in-Some.column, c.in-Some.value) c.in-Some.is c.next.ensures.steps in
    let here = next_field c.args.line.now c.in-Some.column (length c.loop-column.yielded) c.in-Some.value.now t.0 t.1 in
    λ k less. one_more_composed c.args.line.now c.in-Some.column (length c.loop-column.yielded) here.0 c.loop-column.invariant
    (is_composed_at c.args.line.now c.in-Some.column c.in-Some.value.now c.in-Ok.is_composed here.1 c.in-Ok.ensures.answer
    c.if-not-is_composed.false) k (subst (λ (n : ℕ). k < n) (length_push c.loop-column.yielded _) less)
