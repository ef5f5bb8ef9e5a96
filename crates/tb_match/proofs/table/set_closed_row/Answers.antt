use Rattle.std.proofs.Common.{◌≡◌, ◌+◌, ◌<◌, ◌/◌, ◌↔◌, ◌⊎◌, ◌∙◌, ℕ, List, arith, inl, inr, length, subst, sym, ⊎_elim}
use Rattle.tb_match.specs.Bits.{InRow, InTable, Through}
use Rattle.tb_match.proofs.Rows.{word_of}
use Rattle.tb_match.proofs.table.set_closed_row.Goals as goal

-- a row of one word that was united, and is stored in a table whose rows have one word
module _ (L T T' start row : List ℕ) (w v n place last upto j : ℕ) (one : w ≡ 1) (same : v ≡ 1) (short : n ≡ 1) (as_far : upto ≡ last) where
  one_word_row : InRow start 0 j ↔ (j ≡ place) → InRow row 0 j ↔ (InRow start 0 j ⊎ Through L T v place (upto + 1) j) → InTable T' n place j ↔ InRow row 0 j
      → InTable T' w place j ↔ ((j ≡ place) ⊎ Through L T w place (last + 1) j)
  one_word_row begun united stored =
      let wide : InRow row 0 j ↔ (InRow start 0 j ⊎ Through L T v place (last + 1) j) =
      subst (λ (x : ℕ). InRow row 0 j ↔ (InRow start 0 j ⊎ Through L T v place (x + 1) j)) as_far united in
      let whole : InRow row 0 j ↔ (InRow start 0 j ⊎ Through L T w place (last + 1) j) =
      subst (λ (x : ℕ). InRow row 0 j ↔ (InRow start 0 j ⊎ Through L T x place (last + 1) j)) (same ∙ sym one) wide in
      let kept : InTable T' w place j ↔ InRow row 0 j = subst (λ (x : ℕ). InTable T' x place j ↔ InRow row 0 j) (short ∙ sym one) stored in (
        λ here. ⊎_elim (λ s. inl (begun.0 s)) (λ t. inr t) (whole.0 (kept.0 here)),
        λ there. kept.1 (whole.1 (⊎_elim (λ p. inl (begun.1 p)) (λ t. inr t) there)),
      )

pub returns-then-shape-eq1-clause-row : goal.returns-then-shape-eq1-clause-row
returns-then-shape-eq1-clause-row c = λ j within.
    let shape = c.args.shape in
    let one : length c.gather_closed.new.spare ≡ 1 = omega (arith, c.gather_closed.auto.spare, c.begin.auto.row) in
    let first : j / 64 < shape.width = word_of j shape.last shape.width within shape.wide in
    one_word_row c.args.links.now c.args.table.now c.store.new.table c.begin.new.row c.gather_closed.new.spare
    shape.width c.of_one_word.result.width (length c.gather_closed.new.spare) c.args.place shape.last c.of_one_word.result.last j
    c.if-shape-eq1.true c.of_one_word.ensures.width one c.of_one_word.ensures.last
    (c.begin.ensures j) (c.gather_closed.ensures.united j (omega (arith, within, c.of_one_word.ensures.last))) (c.store.ensures.stored j (omega (arith, first, one, c.if-shape-eq1.true)))
