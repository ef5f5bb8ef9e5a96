use Rattle.std.proofs.Common.{◌≡◌, ◌+◌, ◌<◌, ◌↔◌, ℕ, ◌∷◌, [], ◌++◌, sym, ap, ◌∙◌, subst, true≢false, arith, Vec, Global}
use Rattle.std.specs.List.{AllPairs, Contains}
use Rattle.tb_match.specs.Hits.{ComesBefore, IsWord}
use Rattle.tb_match.proofs.Filters.{word_ascending, word_pushed, word_passed, words_are_hits}
use Rattle.tb_match.proofs.hits.word_hits.Goals as goal
use Rattle.tb_match.proofs.hits.word_hits.Goals.{then-get+in_ok-push, else-get}

pub loop-place-preserved : goal.loop-place-preserved
loop-place-preserved c =
    let t = c.args.truth.now in
    let e = c.args.expr in
    let place = c.loop-place.place in
    let xs = c.loop-place.hits.items in
    let inv = c.loop-place.invariant in
    elim c.if-get.branch [
      | then-get+in_ok-push w ↦
          let made : c.if-get.hits.items ≡ xs ++ (place, place + 1) ∷ [] = ap (λ (v : Vec (ℕ × ℕ) Global). v.items) w.hits-is ∙ w.in_ok-push.ensures.items in
          record {
            ascending = subst (AllPairs ComesBefore) (sym made) (word_ascending t e place xs inv.words inv.ascending);
            words = λ i j. subst (λ ys. Contains ys (i, j) ↔ ((i < place + 1) × IsWord t e i j)) (sym made) (word_pushed t e place xs inv.words (c.get.ensures.0 w.if-get.true) i j);
          }
      | else-get w ↦
          let kept : c.if-get.hits.items ≡ xs = ap (λ (v : Vec (ℕ × ℕ) Global). v.items) w.hits-is in
          record {
            ascending = subst (AllPairs ComesBefore) (sym kept) inv.ascending;
            words = λ i j. subst (λ ys. Contains ys (i, j) ↔ ((i < place + 1) × IsWord t e i j)) (sym kept)
                (word_passed t e place xs inv.words (λ h. true≢false (sym (c.get.ensures.1 h) ∙ w.if-get.false)) i j);
          }
    ]

pub returns-clause-hits : goal.returns-clause-hits
returns-clause-hits c = λ s.
    let inv = c.loop-place.invariant in (
      inv.ascending,
      λ i j.
          let hit = words_are_hits c.args.truth.now c.args.expr s i j in
          (λ h. hit.0 ((inv.words i j).0 h).1, λ h. let r = hit.1 h in (inv.words i j).1 (omega (arith, r.0, r.1.1), r)),
    )
