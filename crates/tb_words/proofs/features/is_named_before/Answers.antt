use Rattle.std.proofs.Common.{ap, arith, length, lit<, sym, take, ◌∙◌, ℕ}
use Rattle.std.proofs.lemmas.Bool.{or_from}
use Rattle.std.proofs.lemmas.Iterator.{YieldsList-from_take}
use Rattle.std.proofs.lemmas.Iterator.Consumers.{YieldsList-end, YieldsList-turn}
use Rattle.std.proofs.lemmas.Iterator.Splits.{YieldsList-from_str_split}
use Rattle.std.proofs.lemmas.List.{length_push, take_all}
use Rattle.std.proofs.lemmas.List.Folds.{list_any_at, list_any_more}
use Rattle.std.specs.List.{list_any}
use Rattle.tb_words.specs.FeatureFaults.{features_of, shares_name}
use Rattle.tb_words.proofs.features.is_named_before.Goals as goal

pub returns-then-has_same_name : goal.returns-then-has_same_name
returns-then-has_same_name c =
    let all = take c.args.before (features_of c.args.feats.now) in
    let t = YieldsList-turn {s = c.into_iter-earlier-iterator.result} (YieldsList-from_take {s = c.into_iter-earlier-iterator.result} c.args.before
    (YieldsList-from_str_split {s = c.into_iter-earlier-iterator.result.iter} 124 c.args.feats.now (lit< tt) (cc) (cc) (cc)) (cc))
    c.loop-earlier.yielded _ c.loop-earlier.yielded_by _ _ c.in-Some.earlier c.in-Some.is c.next.ensures.steps in
    sym (list_any_at (shares_name c.args.item.now) all (length c.loop-earlier.yielded) c.in-Some.earlier.now t.0
    (ap (shares_name c.args.item.now) (sym t.1) ∙ (sym c.has_same_name.ensures ∙ c.if-has_same_name.true)))

pub loop-earlier-preserved : goal.loop-earlier-preserved
loop-earlier-preserved c =
    let all = take c.args.before (features_of c.args.feats.now) in
    let t = YieldsList-turn {s = c.into_iter-earlier-iterator.result} (YieldsList-from_take {s = c.into_iter-earlier-iterator.result} c.args.before
    (YieldsList-from_str_split {s = c.into_iter-earlier-iterator.result.iter} 124 c.args.feats.now (lit< tt) (cc) (cc) (cc)) (cc))
    c.loop-earlier.yielded _ c.loop-earlier.yielded_by _ _ c.in-Some.earlier c.in-Some.is c.next.ensures.steps in
    ap (λ (k : ℕ). list_any (shares_name c.args.item.now) (take k all)) (length_push c.loop-earlier.yielded c.in-Some.earlier)
    ∙ (list_any_more (shares_name c.args.item.now) all (length c.loop-earlier.yielded) c.in-Some.earlier.now t.0
    ∙ or_from _ _ c.loop-earlier.invariant (ap (shares_name c.args.item.now) (sym t.1) ∙ (sym c.has_same_name.ensures ∙ c.if-has_same_name.false)))

pub returns : goal.returns
returns c =
    let all = take c.args.before (features_of c.args.feats.now) in
    let e = YieldsList-end {s = c.into_iter-earlier-iterator.result} (YieldsList-from_take {s = c.into_iter-earlier-iterator.result} c.args.before
    (YieldsList-from_str_split {s = c.into_iter-earlier-iterator.result.iter} 124 c.args.feats.now (lit< tt) (cc) (cc) (cc)) (cc))
    c.loop-earlier.yielded _ c.loop-earlier.yielded_by _ _ c.in-None.is c.next.ensures.steps in
    sym (ap (list_any (shares_name c.args.item.now)) (sym (take_all (length c.loop-earlier.yielded) all (omega (arith, e.1)))) ∙ c.loop-earlier.invariant)
