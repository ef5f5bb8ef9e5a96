use Rattle.std.proofs.Common.{◌≡◌, ◌<◌, ◌+◌, length, map, drop, sym, ap, ◌∙◌, arith, true, false, not, if◌then◌else◌, rules}
use Rattle.std.specs.Vec.{with_items}
use Rattle.std.proofs.lemmas.List.{with_items_is}
use Rattle.tb_query.specs.PreparedExprs.{asked}
use Rattle.tb_syntax.specs.Tests.{tests, denied_times, both, either}
use Rattle.tb_query.specs.Meaning.{holds, is_odd, all_hold, some_hold}
use Rattle.tb_query.specs.declared.prepared.PreparedExpr.TheVariants.{outs-Denied, outs-Both, outs-Either}
use Rattle.tb_query.proofs.AskerLemmas.{asked-Denied, asked-Both, asked-Either, denied_holds, same_after, all_next, some_next}
use Rattle.tb_query.proofs.prepared.+holds.Goals as goal

pub holds-returns-in-Denied-clause-unchanged : goal.holds-returns-in-Denied-clause-unchanged
holds-returns-in-Denied-clause-unchanged g t c =
    let n = c.in-Denied.field-0 in
    rw (c.in-Denied.is, outs-Denied n c.in-Denied.inner)
    (asked-Denied n _ ∙ ap (denied_times n) (c.holds.ensures.unchanged ∙ ap asked (c.deref_mut.ensures.value ∙ ap (λ b. b.value) c.in-Denied.inner-is)) ∙ sym (asked-Denied n c.in-Denied.inner))

pub holds-returns-in-Denied-clause-answer : goal.holds-returns-in-Denied-clause-answer
holds-returns-in-Denied-clause-answer g t c =
    let n = c.in-Denied.field-0 in
    let row = c.args.row.now in
    let odd = c.is_odd_denial-odd.ensures n c.in-Denied.inner c.in-Denied.is in
    let held = c.holds.ensures.answer ∙ ap (λ a. holds (asked a) row) (c.deref_mut.ensures.value ∙ ap (λ b. b.value) c.in-Denied.inner-is) in
    c.denied.ensures
    ∙ ap (λ o. if o then not c.holds.result else c.holds.result) odd
    ∙ ap (λ h. if is_odd n then not h else h) held
    ∙ sym (denied_holds n (asked c.in-Denied.inner.value) row)
    ∙ ap (λ t. holds t row) (sym (ap asked c.in-Denied.is ∙ asked-Denied n c.in-Denied.inner))

pub holds-returns-in-Both-clause-unchanged : goal.holds-returns-in-Both-clause-unchanged
holds-returns-in-Both-clause-unchanged g t c =
    let parts = c.in-Both.parts in
    let long : length c.all_hold.new.prepared_exprs ≡ parts.len = c.all_hold.auto.prepared_exprs ∙ c.deref_mut-in-Both.ensures.len ∙ ap (λ v. v.len) c.in-Both.parts-is in
    let items = ap (map asked) (with_items_is parts c.all_hold.new.prepared_exprs long) ∙ c.all_hold.ensures.unchanged ∙ ap (map asked) (c.deref_mut-in-Both.ensures.value ∙ ap (λ v. v.items) c.in-Both.parts-is) in
    rw (c.in-Both.is, outs-Both parts) (asked-Both (with_items parts c.all_hold.new.prepared_exprs) ∙ ap (λ ts. both (tests ts)) items ∙ sym (asked-Both parts))

pub holds-returns-in-Either-clause-unchanged : goal.holds-returns-in-Either-clause-unchanged
holds-returns-in-Either-clause-unchanged g t c =
    let parts = c.in-Either.parts in
    let long : length c.some_hold.new.prepared_exprs ≡ parts.len = c.some_hold.auto.prepared_exprs ∙ c.deref_mut-in-Either.ensures.len ∙ ap (λ v. v.len) c.in-Either.parts-is in
    let items = ap (map asked) (with_items_is parts c.some_hold.new.prepared_exprs long) ∙ c.some_hold.ensures.unchanged ∙ ap (map asked) (c.deref_mut-in-Either.ensures.value ∙ ap (λ v. v.items) c.in-Either.parts-is) in
    rw (c.in-Either.is, outs-Either parts) (asked-Either (with_items parts c.some_hold.new.prepared_exprs) ∙ ap (λ ts. either (tests ts)) items ∙ sym (asked-Either parts))

pub all_hold-returns-then-not-holds-clause-answer :
    goal.all_hold-returns-then-not-holds-clause-answer
all_hold-returns-then-not-holds-clause-answer g t c =
    let l = c.loop-prepared_expr in
    let inside : l.prepared_expr-index < length l.prepared_exprs = omega (arith, l.invariant.ahead.0) in
    let next = all_next l.prepared_exprs (map asked c.args.prepared_exprs.now) l.prepared_expr-index c.prepared_expr-item.result l.invariant.same c.args.row.now c.holds.result inside c.holds.ensures.answer in
    sym (l.invariant.rest ∙ next ∙ ap (λ b. if b then all_hold (tests (drop (l.prepared_expr-index + 1) (map asked c.args.prepared_exprs.now))) c.args.row.now else false) c.if-not-holds.true)

pub all_hold-returns-then-not-holds-clause-unchanged : goal.all_hold-returns-then-not-holds-clause-unchanged
all_hold-returns-then-not-holds-clause-unchanged g t c =
    same_after _ _ _ c.prepared_expr-item.result c.loop-prepared_expr.invariant.same _ c.holds.ensures.unchanged

pub all_hold-loop-prepared_expr-preserved : goal.all_hold-loop-prepared_expr-preserved
all_hold-loop-prepared_expr-preserved g t c =
    let l = c.loop-prepared_expr in
    let inside : l.prepared_expr-index < length l.prepared_exprs = omega (arith, l.invariant.ahead.0) in
    let next = all_next l.prepared_exprs (map asked c.args.prepared_exprs.now) l.prepared_expr-index c.prepared_expr-item.result l.invariant.same c.args.row.now c.holds.result inside c.holds.ensures.answer in
    record {
      ahead = search rules;
      same = same_after _ _ _ c.prepared_expr-item.result l.invariant.same _ c.holds.ensures.unchanged;
      rest = l.invariant.rest ∙ next ∙ ap (λ b. if b then all_hold (tests (drop (l.prepared_expr-index + 1) (map asked c.args.prepared_exprs.now))) c.args.row.now else false) c.if-not-holds.false;
    }

pub some_hold-returns-then-holds-clause-answer : goal.some_hold-returns-then-holds-clause-answer
some_hold-returns-then-holds-clause-answer g t c =
    let l = c.loop-prepared_expr in
    let inside : l.prepared_expr-index < length l.prepared_exprs = omega (arith, l.invariant.ahead.0) in
    let next = some_next l.prepared_exprs (map asked c.args.prepared_exprs.now) l.prepared_expr-index c.prepared_expr-item.result l.invariant.same c.args.row.now c.holds.result inside c.holds.ensures.answer in
    sym (l.invariant.rest ∙ next ∙ ap (λ b. if b then true else some_hold (tests (drop (l.prepared_expr-index + 1) (map asked c.args.prepared_exprs.now))) c.args.row.now) c.if-holds.true)

pub some_hold-returns-then-holds-clause-unchanged : goal.some_hold-returns-then-holds-clause-unchanged
some_hold-returns-then-holds-clause-unchanged g t c =
    same_after _ _ _ c.prepared_expr-item.result c.loop-prepared_expr.invariant.same _ c.holds.ensures.unchanged

pub some_hold-loop-prepared_expr-preserved : goal.some_hold-loop-prepared_expr-preserved
some_hold-loop-prepared_expr-preserved g t c =
    let l = c.loop-prepared_expr in
    let inside : l.prepared_expr-index < length l.prepared_exprs = omega (arith, l.invariant.ahead.0) in
    let next = some_next l.prepared_exprs (map asked c.args.prepared_exprs.now) l.prepared_expr-index c.prepared_expr-item.result l.invariant.same c.args.row.now c.holds.result inside c.holds.ensures.answer in
    record {
      ahead = search rules;
      same = same_after _ _ _ c.prepared_expr-item.result l.invariant.same _ c.holds.ensures.unchanged;
      rest = l.invariant.rest ∙ next ∙ ap (λ b. if b then true else some_hold (tests (drop (l.prepared_expr-index + 1) (map asked c.args.prepared_exprs.now))) c.args.row.now) c.if-holds.false;
    }
