use Rattle.std.proofs.Common.{◌≡◌, ◌+◌, ◌<◌, ◌≤◌, ◌≢◌, ◌↔◌, ◌⊎◌, ℕ, [], ◌∷◌, get_or, arith, subst, refl, inl, inr, ⊎_elim}
use Rattle.std.specs.Int.{bit_at}
use Rattle.std.proofs.lemmas.Bool.{cases_lt, cases_eq}
use Rattle.tb_match.specs.Bits.{InRow, InTable, HasRowsOf}
use Rattle.tb_match.proofs.Closures.{own_links}
use Rattle.tb_match.proofs.Masks.{either_bit, in_one_word}
use Rattle.tb_match.proofs.Rows.{InRow_zero}
use Rattle.tb_match.proofs.Walks.{in_row_or_not, no_bits}
use Rattle.tb_match.proofs.narrow.chained_word.Goals as goal

nothing : (j : ℕ) → InRow (0 ∷ []) 0 j → ⊥
nothing j h = InRow_zero 1 j h

pub loop-ahead-init : goal.loop-ahead-init
loop-ahead-init c =
    let T = c.args.table.now in
    let P = c.args.place in
    let last = c.args.last in
    let links = c.places_to-links.result in
    let short = c.requires.short in
    let own : (j : ℕ) → j < 64 → (bit_at links j ≡ 1) ↔ ((P ≤ j) × (j ≤ last) × InTable T 1 P j) =
    λ j h. own_links T P last c.bits_from.result links j h (c.bits_from.ensures j h) (c.places_to-links.ensures j h) in
    let first = c.without_place-ahead.ensures.places in
    let ahead : (k : ℕ) → k < 64 → bit_at c.without_place-ahead.result k ≡ 1 → P < k = λ k h p.
    let q = (first k h).0 p in
    let r = (own k h).0 q.0 in
    let le : P ≤ k = r.0 in
    ⊎_elim (λ lt. lt) (λ (ge : k ≤ P). let same : k ≡ P = omega arith in absurd (q.1 same)) (cases_lt P k) in
    record {
      wide = refl;
      link = λ k h p. let r = (own k h).0 ((first k h).0 p).0 in (ahead k h p, r.1, r.2);
      sound = λ j h p. absurd (nothing j p);
      whole = λ k j p q r s. absurd (nothing k r);
      done = λ k j lt le h link row.
          let below : k < 64 = omega arith in
          inl ((first k below).1 ((own k below).1 (omega arith, le, link), λ e. omega arith));
      count = (P + 1, omega arith, omega arith, omega arith, λ k h p. let lt = ahead k h p in omega (arith, lt));
      more = omega arith;
    }

pub loop-ahead-smaller : goal.loop-ahead-smaller
loop-ahead-smaller c =
    let z = c.lowest_place-next.result in
    let ahead = c.loop-ahead.ahead in
    let low = c.lowest_place-next.ensures in
    let rest = c.without_place.result in
    let a : rest ≤ ahead = c.without_place.ensures.shrinks in
    let b : c.without-ahead.result ≤ rest = c.without-ahead.ensures.shrinks in
    ⊎_elim
    (λ (lt : rest < ahead). omega arith)
    (λ (ge : ahead ≤ rest).
    let same : ahead ≡ rest = omega arith in
    absurd (((c.without_place.ensures.places z low.limit).0 (subst (λ x. bit_at x z ≡ 1) same low.there)).1 refl))
    (cases_lt rest ahead)

pub loop-ahead-preserved : goal.loop-ahead-preserved
loop-ahead-preserved c =
    let T = c.args.table.now in
    let P = c.args.place in
    let last = c.args.last in
    let short : last < 64 = c.requires.short in
    let z = c.lowest_place-next.result in
    let low = c.lowest_place-next.ensures in
    let inv = c.loop-ahead.invariant in
    let g' = c.unite_word.new.row in
    let lk = inv.link z low.limit low.there in
    let after : P < z = lk.0 in
    let most : z ≤ last = lk.1 in
    let minus = c.without_place.ensures.places in
    let fresh = c.without-ahead.ensures.places in
    let united : (j : ℕ) → j ≤ last → InRow g' 0 j ↔ (InRow c.loop-ahead.gathered 0 j ⊎ InTable T 1 z j) = λ j h. c.unite_word.ensures.united j (omega arith) in
    let whole : HasRowsOf g' T 1 last = λ k j p q here row. ⊎_elim
    (λ old. (united j q).1 (inl (inv.whole k j p q old row)))
    (λ new. (united j q).1 (inr (c.requires.closed z k j after most p q new row)))
    ((united k p).0 here) in
    let from : ℕ = inv.count.0 in
    let so_far : c.loop-ahead.steps + P + 1 ≤ c.args.steps.now + from = inv.count.3 in
    let on : from ≤ z = inv.count.4 z low.limit low.there in
    let counted = c.unite_word.ensures.counted in
    record {
      wide = omega arith;
      link = λ k h p. inv.link k h ((minus k h).0 ((fresh k h).0 p).0).0;
      sound = λ j h p. ⊎_elim (λ old. inv.sound j h old) (λ new. (z, after, most, lk.2, new)) ((united j h).0 p);
      whole = whole;
      done = λ k j lt le h link row. ⊎_elim
          (λ (e : k ≡ z). inr ((united j h).1 (inr (subst (λ x. InTable T 1 x j) e row))))
          (λ (ne : k ≢ z). ⊎_elim
          (λ bit. ⊎_elim
          (λ is. inr (whole k j le h is row))
          (λ isnt. inl ((fresh k (omega arith)).1 ((minus k (omega arith)).1 (bit, ne), λ known. isnt ((in_one_word g' 0 k (omega arith)).1 known))))
          (in_row_or_not g' 0 k))
          (λ old. inr ((united j h).1 (inl old)))
          (inv.done k j lt le h link row))
          (cases_eq k z);
      count = (
        z + 1,
        omega arith,
        omega arith,
        omega (arith, so_far, on, counted),
        λ k h p.
            let q = (minus k h).0 ((fresh k h).0 p).0 in
            ⊎_elim
            (λ (lt : k < z). let none = low.least k lt in absurd (omega (arith, none, q.0)))
            (λ (ge : z ≤ k). ⊎_elim (λ (e : k ≡ z). absurd (q.1 e)) (λ (ne : k ≢ z). omega arith) (cases_eq k z))
            (cases_lt k z),
      );
      more = omega (arith, counted, inv.more);
    }

pub returns-clause-places : goal.returns-clause-places
returns-clause-places c = λ j h.
    let T = c.args.table.now in
    let P = c.args.place in
    let last = c.args.last in
    let short : last < 64 = c.requires.short in
    let links = c.places_to-links.result in
    let g = c.loop-ahead.gathered in
    let inv = c.loop-ahead.invariant in
    let below : j < 64 = omega arith in
    let own = own_links T P last c.bits_from.result links j below (c.bits_from.ensures j below) (c.places_to-links.ensures j below) in
    let e = either_bit links (get_or g 0 0) j in
    let w = in_one_word g 0 j below in (
      λ p. ⊎_elim (λ a. let r = own.0 a in inl (r.0, r.2)) (λ b. inr (inv.sound j h (w.1 b))) (e.0 p),
      λ p. e.1 (⊎_elim
          (λ a. inl (own.1 (a.0, h, a.1)))
          (λ (k, lt, le, link, row). inr (w.0 (⊎_elim
          (λ bit. let none = no_bits c.loop-ahead.ahead k c.loop-ahead-test.false in absurd (omega (arith, none, bit)))
          (λ is. is)
          (inv.done k j lt le h link row))))
          p),
    )
