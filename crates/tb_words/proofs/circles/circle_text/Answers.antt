use Rattle.std.proofs.Common.{List, add-one, ap, arith, codes, inl, inr, subst, sym, ◌++◌, ◌≡◌, ◌∙◌, ℕ}
use Rattle.tb_words.proofs.CircleSteps.{leads_not_back, one_step_more}
use Rattle.tb_words.specs.Circles.{NoneLeadsBack, circle_to, head_after}
use Rattle.tb_words.proofs.circles.circle_text.Goals as goal

pub returns-then-here-word : goal.returns-then-here-word
returns-then-here-word c =
    let here = c.head_of-here.ensures ∙ ap (head_after c.args.heads.now) c.loop.invariant.1 in
    inl (
      c.loop.counter,
      omega (arith, c.loop-test.true),
      c.loop.invariant.2,
      sym here ∙ c.if-here-word.true,
      one_step_more c.args.heads.now c.args.word c.loop.counter c.head_of-here.result _ _ here c.loop.invariant.3 c.in_ok-push_step.ensures,
    )

pub loop-preserved : goal.loop-preserved
loop-preserved c =
    let here = c.head_of-here.ensures ∙ ap (head_after c.args.heads.now) c.loop.invariant.1 in (
      omega (arith, c.loop-test.true),
      rw add-one here,
      λ k less. leads_not_back c.args.heads.now c.args.word c.loop.counter c.head_of-here.result here c.if-here-word.false c.loop.invariant.2 k less,
      rw add-one (one_step_more c.args.heads.now c.args.word c.loop.counter c.head_of-here.result _ _ here c.loop.invariant.3 c.in_ok-push_step.ensures),
    )

pub returns : goal.returns
returns c =
    let end : c.loop.counter ≡ 8 = omega (arith, c.loop.invariant.0, c.loop-test.false) in
    inr (
      subst (λ (k : ℕ). NoneLeadsBack c.args.heads.now c.args.word k) end c.loop.invariant.2,
      c.in_ok-push_str.ensures.bytes ∙ ap (λ (xs : List ℕ). xs ++ codes " -> ..") (c.loop.invariant.3 ∙ ap (λ (k : ℕ). circle_to c.args.heads.now c.args.word k) end),
    )
