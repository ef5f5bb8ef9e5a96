use Rattle.std.proofs.Common.{ap, arith, ◌+◌, length, lit<, rules, subst, sym, ◌++◌, ◌-◌, ◌<◌, ◌≡◌, ◌∙◌, ◌∷◌, [], ℕ}
use Rattle.std.proofs.lemmas.Iterator.Consumers.{YieldsList-from_enumerate, YieldsList-turn}
use Rattle.std.proofs.lemmas.Iterator.Splits.{YieldsList-from_str_split}
use Rattle.std.proofs.lemmas.List.{length_push}
use Rattle.tb_words.proofs.FeatureParts.{next_item, one_more_right}
use Rattle.tb_words.specs.FeatureFaults.{AreRight, feature_at, features_of}
use Rattle.tb_words.proofs.features.first_fault.Goals as goal

pub returns-in-Some-2 : goal.returns-in-Some-2
returns-in-Some-2 c =
    let feats = c.args.feats.now in
    let n = length c.loop-before.yielded in
    let t = YieldsList-turn {s = c.into_iter-before-iterator.result} (YieldsList-from_enumerate {s = c.into_iter-before-iterator.result}
    (YieldsList-from_str_split {s = c.into_iter-before-iterator.result.iter} 124 feats (lit< tt) (cc) (cc) (cc)) (cc))
    c.loop-before.yielded _ c.loop-before.yielded_by _ _ (c.in-Some.before, c.in-Some.item) c.in-Some.is c.next.ensures.steps in
    let here = next_item (features_of feats) c.in-Some.before n c.in-Some.item.now t.0 t.1 in
    let right = subst (λ (k : ℕ). AreRight feats k) (sym here.0) c.loop-before.invariant.1 in
    let item_is = here.2 ∙ ap (λ (k : ℕ). feature_at feats k) (sym here.0) in
    let told = c.in_ok-sentence.ensures (λ some. c.loop-before.invariant.2 (omega (arith, some, here.0)) ∙ ap (λ (k : ℕ). feature_at feats (k - 1)) (sym here.0))
    item_is right (omega (arith, here.0, here.1)) in
    record {
      place = c.in-Some.before;
      within = omega (arith, here.0, here.1);
      item_is = item_is;
      said = sym (rw c.in-Some-2.is at told);
      before = right;
    }

pub loop-before-preserved : goal.loop-before-preserved
loop-before-preserved c =
    let feats = c.args.feats.now in
    let n = length c.loop-before.yielded in
    let t = YieldsList-turn {s = c.into_iter-before-iterator.result} (YieldsList-from_enumerate {s = c.into_iter-before-iterator.result}
    (YieldsList-from_str_split {s = c.into_iter-before-iterator.result.iter} 124 feats (lit< tt) (cc) (cc) (cc)) (cc))
    c.loop-before.yielded _ c.loop-before.yielded_by _ _ (c.in-Some.before, c.in-Some.item) c.in-Some.is c.next.ensures.steps in
    let here = next_item (features_of feats) c.in-Some.before n c.in-Some.item.now t.0 t.1 in
    let right = subst (λ (k : ℕ). AreRight feats k) (sym here.0) c.loop-before.invariant.1 in
    let item_is = here.2 ∙ ap (λ (k : ℕ). feature_at feats k) (sym here.0) in
    let told = c.in_ok-sentence.ensures (λ some. c.loop-before.invariant.2 (omega (arith, some, here.0)) ∙ ap (λ (k : ℕ). feature_at feats (k - 1)) (sym here.0))
    item_is right (omega (arith, here.0, here.1)) in
    let long : length (c.loop-before.yielded ++ (c.in-Some.before, c.in-Some.item) ∷ []) ≡ n + 1 = length_push c.loop-before.yielded (c.in-Some.before, c.in-Some.item) in
    let last : n ≡ length (c.loop-before.yielded ++ (c.in-Some.before, c.in-Some.item) ∷ []) - 1 = omega (arith, long) in (
      search rules,
      λ k less. one_more_right feats c.in-Some.before n here.0 (rw c.in_default.is at told) c.loop-before.invariant.1 k
          (subst (λ (m : ℕ). k < m) long less),
      λ some. here.2 ∙ ap (λ (k : ℕ). feature_at feats k) last,
    )
