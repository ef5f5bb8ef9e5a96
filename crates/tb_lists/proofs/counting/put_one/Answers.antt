use Rattle.std.proofs.Common.{◌≡◌, ◌+◌, ◌-◌, sym, ap, subst, ◌∙◌, arith, rules, slice_index_or}
use Rattle.std.specs.List.{AllByRecursion}
use Rattle.tb_core.specs.Machine.{change_at}
use Rattle.tb_lists.specs.Counted.{IsOfSoMany, counted, no_count}
use Rattle.tb_lists.proofs.Summed.{put_is, below, many_at, many_put}
use Rattle.tb_lists.proofs.counting.put_one.Goals as goal

pub with_one-count-requires-clause-bound : goal.with_one-count-requires-clause-bound
with_one-count-requires-clause-bound c =
    let read : c.as_slice.result.now ≡ c.args.counts.now.items = search rules in
    subst (IsOfSoMany c.args.seen) (sym (c.count_at.ensures ∙ ap (λ l. slice_index_or l (c.from-place.result - 1) no_count) read)) (many_at c.args.seen c.args.counts.now.items (c.from-place.result - 1) c.requires.bound)

pub returns-clause-value : goal.returns-clause-value
returns-clause-value c =
    let f = counted (c.args.seen + 1) c.args.row.now.words c.args.is_pulled in
    let cs = c.args.counts.now.items in
    let read : c.as_slice.result.now ≡ cs = search rules in
    let at : c.from-place.result ≡ c.args.row.now.batch = search rules in
    c.put_count.ensures ∙ put_is f cs (c.from-place.result - 1) c.with_one-count.result (c.with_one-count.ensures.value ∙ ap f (c.count_at.ensures ∙ ap (λ l. slice_index_or l (c.from-place.result - 1) no_count) read))
    ∙ ap (λ n. change_at f cs (n - 1)) at ∙ below f c.args.row.now.batch cs (λ none. omega (arith, c.if-row-eq0.false, none))

pub returns-clause-bound : goal.returns-clause-bound
returns-clause-bound c =
    subst (AllByRecursion (IsOfSoMany (c.args.seen + 1))) (sym c.put_count.ensures) (many_put c.args.seen c.args.counts.now.items (c.from-place.result - 1) c.with_one-count.result c.requires.bound c.with_one-count.ensures.bound)
