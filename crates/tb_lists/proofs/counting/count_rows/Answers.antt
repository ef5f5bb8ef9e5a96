use Rattle.std.proofs.Common.{◌≡◌, arith, rules, replicate, sym, ap, subst, ◌∙◌}
use Rattle.std.specs.List.{AllByRecursion}
use Rattle.tb_lists.specs.Counted.{IsOfSoMany, count_all, no_count}
use Rattle.tb_lists.proofs.Summed.{many_none}
use Rattle.tb_lists.proofs.counting.count_rows.Goals as goal

pub put_all-requires-clause-none : goal.put_all-requires-clause-none
put_all-requires-clause-none c =
    let none : c.resize.new.self.items ≡ replicate c.args.batches no_count = search rules in
    subst (AllByRecursion (IsOfSoMany 0)) (sym none) (many_none c.args.batches)

pub returns-clause-counts : goal.returns-clause-counts
returns-clause-counts c up =
    let none : c.resize.new.self.items ≡ replicate c.args.batches no_count = search rules in
    c.put_all.ensures up ∙ ap (count_all c.args.pulled.now 1 c.args.rows.now) none

pub returns-in_err-resize-clause-sure : goal.returns-in_err-resize-clause-sure
returns-in_err-resize-clause-sure c empty = absurd (omega (arith, empty, c.in_err-resize.ensures.full))
