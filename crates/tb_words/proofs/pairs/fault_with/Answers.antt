use Rattle.std.proofs.Common.{Bor, List, [], inl, inr, length, lit<, map, refl, subst, sym, ◌∙◌, ◌∷◌, ℕ}
use Rattle.std.proofs.lemmas.Iterator.Consumers.{YieldsList-end, YieldsList-so_far, YieldsList-turn}
use Rattle.std.proofs.lemmas.Iterator.Splits.{YieldsList-from_str_split}
use Rattle.std.proofs.lemmas.List.{get_or_default, map-append}
use Rattle.tb_words.proofs.PairSteps.{one_more_right}
use Rattle.tb_words.specs.PairFaults.{AreRight, pairs_of}
use Rattle.tb_words.proofs.pairs.fault_with.Goals as goal

pub returns-in-Err : goal.returns-in-Err
returns-in-Err c =
    let all = pairs_of c.args.deps.now in
    let n = length c.loop-pair.yielded in
    let parts = YieldsList-from_str_split {s = c.into_iter-pair-iterator.result} 124 c.args.deps.now (lit< tt) (cc) (cc) (cc) in
    let t = YieldsList-turn {s = c.into_iter-pair-iterator.result} parts c.loop-pair.yielded _ c.loop-pair.yielded_by _ _ c.in-Some.pair c.in-Some.is
    c.next.ensures.steps in
    inl (record {
      place = n;
      last = c.loop-pair.before;
      within = t.0;
      pair_is = t.1 ∙ get_or_default all n c.in-Some.pair.now [] t.0;
      before = subst (λ (xs : List (List ℕ)). AreRight c.args.nodes.now (0, 0) xs c.loop-pair.before)
          (YieldsList-so_far parts c.loop-pair.yielded _ c.loop-pair.yielded_by) c.loop-pair.invariant;
      said = c.in-Err.ensures.wrong;
    })

pub loop-pair-preserved : goal.loop-pair-preserved
loop-pair-preserved c =
    subst (λ (xs : List (List ℕ)). AreRight c.args.nodes.now (0, 0) xs c.in-Ok.head)
    (sym (map-append (λ (x : Bor (List ℕ)). x.now) c.loop-pair.yielded (c.in-Some.pair ∷ [])))
    (one_more_right c.args.nodes.now (0, 0) c.loop-pair.before c.in-Ok.head (map (λ (x : Bor (List ℕ)). x.now) c.loop-pair.yielded) c.in-Some.pair.now
    c.loop-pair.invariant c.in-Ok.ensures.right)

pub returns : goal.returns
returns c =
    let parts = YieldsList-from_str_split {s = c.into_iter-pair-iterator.result} 124 c.args.deps.now (lit< tt) (cc) (cc) (cc) in
    let e = YieldsList-end {s = c.into_iter-pair-iterator.result} parts c.loop-pair.yielded _ c.loop-pair.yielded_by _ _ c.in-None.is c.next.ensures.steps in
    inr (
      refl,
      refl,
      (c.loop-pair.before, subst (λ (xs : List (List ℕ)). AreRight c.args.nodes.now (0, 0) xs c.loop-pair.before) e.0 c.loop-pair.invariant),
    )
