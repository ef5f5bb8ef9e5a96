use Rattle.std.proofs.Common.{ℕ, All, sym, subst, ap}
use Rattle.std.proofs.lemmas.List.Elements.{All-map}
use Rattle.std.specs.Global.{Global}
use Rattle.std.specs.declared.vec.Vec.{Vec}
use Rattle.tb_prefilter.specs.Needed.{AreNeeded, IsSubstring}
use Rattle.tb_prefilter.specs.Prefiltered.{Prefiltered}
use Rattle.tb_prefilter.proofs.searcher.PrefilteredSearcher.may_hit.Goals as goal

pub returns-clause-none : goal.returns-clause-none
returns-clause-none c = λ none s b file.
    let asked = ap (λ (p : Prefiltered). p.asked) c.self.view_is in
    let kept = subst (λ q. AreNeeded q c.self.inside.needles.items) asked c.self.invariant in
    c.may_hit.ensures.none none s c.args.self.now.asked b (subst (AreNeeded c.args.self.now.asked) (sym c.deref.ensures.value) kept) file

pub returns-clause-all : goal.returns-clause-all
returns-clause-all c = λ may.
    let body = c.args.body.now in
    let there = subst (All (λ (n : Vec ℕ Global). IsSubstring n.items body)) c.deref.ensures.value (c.may_hit.ensures.all may) in
    subst (All (λ n. IsSubstring n body)) (ap (λ (p : Prefiltered). p.needles) c.self.view_is) (All-map (λ n. IsSubstring n body) (λ (n : Vec ℕ Global). n.items) c.self.inside.needles.items there)
