use Rattle.std.proofs.Common.{◌≡◌, ◌∙◌, sym, subst, ap, not, is_none, is_some, true, All, take_all, arith}
use Rattle.std.proofs.lemmas.List.Elements.{All-more}
use Rattle.memchr.specs.Find.{FindsNeedle}
use Rattle.tb_prefilter.specs.Needed.{IsNeeded, IsSubstring}
use Rattle.tb_prefilter.proofs.Searched.{no_hit_by, found_in}
use Rattle.tb_prefilter.proofs.prefilter.may_hit.Goals as goal

pub returns-then-is_none-clause-none : goal.returns-then-is_none-clause-none
returns-then-is_none-clause-none c = λ _ s q b all file.
    let n = c.needle-item.result in
    let none : is_none c.find.result ≡ true = ap not (c.is_none.ensures ∙ ap not c.if-is_none.true) in
    no_hit_by s q b n.items c.args.body.now c.find.result none
    (subst (λ xs. FindsNeedle c.args.body.now xs 0 c.find.result) c.as_slice.ensures.value c.find.ensures)
    (subst (λ x. IsNeeded q x.items) (sym c.needle-item.is) (all c.loop-needle.needle-index n c.loop-needle-test.true)) file

pub loop-needle-preserved : goal.loop-needle-preserved
loop-needle-preserved c =
    let n = c.needle-item.result in
    let body = c.args.body.now in
    let some : is_some c.find.result ≡ true = c.is_none.ensures ∙ ap not c.if-is_none.false in
    let there = found_in n.items body c.find.result some (subst (λ xs. FindsNeedle body xs 0 c.find.result) c.as_slice.ensures.value c.find.ensures) in
    All-more (λ x. IsSubstring x.items body) c.args.needles.now c.loop-needle.needle-index n c.loop-needle-test.true c.loop-needle.invariant
    (subst (λ x. IsSubstring x.items body) c.needle-item.is there)

pub returns-clause-all : goal.returns-clause-all
returns-clause-all c = λ _.
    subst (All (λ x. IsSubstring x.items c.args.body.now)) (take_all c.loop-needle.needle-index c.args.needles.now (omega (arith, c.loop-needle-test.false))) c.loop-needle.invariant
