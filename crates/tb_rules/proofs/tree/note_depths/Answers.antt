use Rattle.std.proofs.Common.{◌≡◌, ◌≢◌, ◌+◌, ◌-◌, ap, arith, inl, inr, refl, sym, subst, ◌∙◌, slice_index, ⊎_elim, true≢false}
use Rattle.tb_rules.specs.Depths.{IsDepth}
use Rattle.tb_rules.proofs.Walks.{noted, above, still_noted, unknown, none_known}
use Rattle.tb_rules.proofs.tree.note_depths.Goals as goal

pub loop-left-preserved : goal.loop-left-preserved
loop-left-preserved c =
    let heads = c.args.heads.now in
    let next : c.loop-left.left ≡ c.loop-left.left - 1 + 1 = omega arith in
    let here = subst (IsDepth heads c.loop-left.at) next c.loop-left.invariant.depth in
    let missing = unknown (IsDepth heads c.loop-left.at) c.known_depth.result c.known_depth.ensures.depth (sym c.is_some.ensures ∙ c.if-is_some.false) in
    record {
      known = noted heads c.loop-left.depths c.loop-left.at (c.loop-left.left - 1 + 1) c.loop-left.invariant.known missing.0 here;
      depth = subst (λ at. IsDepth heads at (c.loop-left.left - 1)) (sym c.step-at.ensures) (above heads (c.loop-left.left - 1) c.loop-left.at here);
      noted = inr (λ within. still_noted c.loop-left.depths (c.loop-left.at - 1) (c.loop-left.left - 1 + 1) (c.args.word - 1) (omega (arith, missing.0, missing.1)) (omega arith)
          (⊎_elim (λ (same, _). inl (ap (λ at. at - 1) (sym same))) (λ old. inr (old within)) c.loop-left.invariant.noted));
    }

pub loop-left-init : goal.loop-left-init
loop-left-init c = record { known = c.requires.known; depth = c.requires.depth; noted = inl (refl, refl) }

pub returns-then-is_some-clause-noted : goal.returns-then-is_some-clause-noted
returns-then-is_some-clause-noted c = λ some within.
    let away : c.loop-left.at ≢ 0 = c.loop-left.invariant.depth.no_sooner 0 (omega arith) in
    ⊎_elim
    (λ (same, _). λ none. true≢false (sym c.if-is_some.true ∙ (c.is_some.ensures
    ∙ none_known c.known_depth.result ((c.known_depth.ensures.noted (omega arith) (omega (arith, same, within))).1 (ap (λ at. slice_index c.loop-left.depths (at - 1)) same ∙ none)))))
    (λ old. old within)
    c.loop-left.invariant.noted

pub returns-clause-noted : goal.returns-clause-noted
returns-clause-noted c = λ some within. ⊎_elim (λ (_, all). absurd (omega (arith, all))) (λ old. old within) c.loop-left.invariant.noted
