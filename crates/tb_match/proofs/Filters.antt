-- The hits of a relation that leads forward, place by place.
use Rattle.std.proofs.Common.{◌≡◌, ◌+◌, ◌<◌, ◌≤◌, ◌↔◌, ◌⊎◌, ℕ, List, [], ◌∷◌, ◌++◌, sym, ap, subst, inl, inr, ⊎_elim, arith}
use Rattle.std.proofs.lemmas.Bool.{cases_lt}
use Rattle.std.specs.List.{AllPairs, Contains}
use Rattle.tb_match.specs.declared.strategy.Strategy.{Strategy}
use Rattle.tb_match.specs.declared.strategy.Strategy.TheVariants.{Shortest, Longest, Every}
use Rattle.tb_match.specs.Hits.{ComesBefore, IsHit, IsFound, IsWord, AreHits}
use Rattle.tb_match.specs.Trees.{tok}
use Rattle.tb_match.specs.Facts.{Facts, Holds}
use Rattle.tb_match.proofs.Ordered.{push_ascending, cons_ascending, Contains-pushed, Contains-cons}

abbrev pair : ℕ → ℕ → ℕ × ℕ
pair i j = (i, j)

-- Longest: the place after those that are done
module _ (R : ℕ → ℕ → Type 0) (place reached end : ℕ) (xs : List (ℕ × ℕ))
    (forward : (i j : ℕ) → R i j → i < j)
    (ends : (k j : ℕ) → k < place → R k j → j ≤ reached)
    (from : (reached ≡ 0) ⊎ ((k : ℕ) × (k < place) × R k reached))
    (ascending : AllPairs ComesBefore xs)
    (hits : (i j : ℕ) → Contains xs (i, j) ↔ ((i < place) × IsHit Longest R i j))
    (greatest : (j : ℕ) → R place j → j ≤ end) where
  below_next : (i : ℕ) → i < place + 1 → (i < place) ⊎ (i ≡ place)
  below_next i h = ⊎_elim (λ lt. inl lt) (λ le. inr (omega arith)) (cases_lt i place)

  module _ (there : R place end) (beyond : reached < end) where
    pub longest_ends : (k j : ℕ) → k < place + 1 → R k j → j ≤ end
    longest_ends k j h r = ⊎_elim
        (λ lt. let le : j ≤ reached = ends k j lt r in omega arith)
        (λ e. greatest j (subst (λ x. R x j) e r))
        (below_next k h)

    pub longest_ascending : AllPairs ComesBefore (xs ++ (place, end) ∷ [])
    longest_ascending = push_ascending xs (place, end) ascending (λ x c. inl ((hits x.0 x.1).0 c).0)

    is_longest : IsHit Longest R place end
    is_longest = (
      there,
      λ k l r (le, most, other). ⊎_elim
          (λ (lt : k < place). let small : l ≤ reached = ends k l lt r in absurd (omega arith))
          (λ (ge : place ≤ k). let same : k ≡ place = omega arith in
          let small : l ≤ end = greatest l (subst (λ x. R x l) same r) in
          let last : l ≡ end = omega arith in other (same, last))
          (cases_lt k place),
    )

    pub longest_hits : (i j : ℕ) → Contains (xs ++ (place, end) ∷ []) (i, j) ↔ ((i < place + 1) × IsHit Longest R i j)
    longest_hits i j = (λ c. there_to ((Contains-pushed xs (place, end) (i, j)).0 c), λ (h, hit). (Contains-pushed xs (place, end) (i, j)).1 (back hit (below_next i h)))
      where
        there_to : Contains xs (i, j) ⊎ (pair place end ≡ pair i j) → (i < place + 1) × IsHit Longest R i j
        there_to (inl c) = let h = (hits i j).0 c in let lt : i < place = h.0 in (omega arith, h.1)
        there_to (inr e) =
            let p : place ≡ i = ap (λ (x : ℕ × ℕ). x.0) e in
            let q : end ≡ j = ap (λ (x : ℕ × ℕ). x.1) e in
            (omega arith, subst (λ y. IsHit Longest R i y) q (subst (λ x. IsHit Longest R x end) p is_longest))

        back : IsHit Longest R i j → (i < place) ⊎ (i ≡ place) → Contains xs (i, j) ⊎ (pair place end ≡ pair i j)
        back hit (inl lt) = inl ((hits i j).1 (lt, hit))
        back hit (inr e) =
            let small : j ≤ end = greatest j (subst (λ x. R x j) e hit.0) in
            ⊎_elim
            (λ (lt : j < end). absurd (hit.1 place end there (omega arith, omega arith, λ (p, q). omega arith)))
            (λ (ge : end ≤ j). let same : end ≡ j = omega arith in inr (subst (λ x. pair place end ≡ pair x j) (sym e) (ap (λ y. pair place y) same)))
            (cases_lt j end)

  module _ (within : end ≤ reached) where
    pub longest_still : (k j : ℕ) → k < place + 1 → R k j → j ≤ reached
    longest_still k j h r = ⊎_elim
        (λ lt. ends k j lt r)
        (λ e. let small : j ≤ end = greatest j (subst (λ x. R x j) e r) in omega arith)
        (below_next k h)

    pub longest_from : (reached ≡ 0) ⊎ ((k : ℕ) × (k < place + 1) × R k reached)
    longest_from = ⊎_elim (λ e. inl e) (λ (k, lt, r). inr (k, omega arith, r)) from

    pub longest_none : (i j : ℕ) → Contains xs (i, j) ↔ ((i < place + 1) × IsHit Longest R i j)
    longest_none i j = (λ c. let h = (hits i j).0 c in let lt : i < place = h.0 in (omega arith, h.1), λ (h, hit). back hit (below_next i h))
      where
        contained : IsHit Longest R i j → i ≡ place → ⊥
        contained hit e =
            let r = subst (λ x. R x j) e hit.0 in
            let small : j ≤ end = greatest j r in
            let ahead : place < j = forward place j r in
            ⊎_elim
            (λ (none : reached ≡ 0). omega arith)
            (λ (k, lt, longer). hit.1 k reached longer (omega arith, omega arith, λ (p, q). omega arith))
            from

        back : IsHit Longest R i j → (i < place) ⊎ (i ≡ place) → Contains xs (i, j)
        back hit (inl lt) = (hits i j).1 (lt, hit)
        back hit (inr e) = absurd (contained hit e)

-- Shortest: the place before those that are done
module _ (R : ℕ → ℕ → Type 0) (place last soonest end : ℕ) (xs : List (ℕ × ℕ))
    (inside : (i j : ℕ) → R i j → j ≤ last)
    (ends : (k j : ℕ) → place < k → R k j → soonest ≤ j)
    (from : (last < soonest) ⊎ ((k : ℕ) × (place < k) × R k soonest))
    (ascending : AllPairs ComesBefore xs)
    (hits : (i j : ℕ) → Contains xs (i, j) ↔ ((place < i) × IsHit Shortest R i j))
    (least : (j : ℕ) → R place j → end ≤ j) where
  above_this : (i : ℕ) → place ≤ i → (place < i) ⊎ (i ≡ place)
  above_this i h = ⊎_elim (λ lt. inl lt) (λ le. inr (omega arith)) (cases_lt place i)

  module _ (there : R place end) (before : end < soonest) where
    pub shortest_ends : (k j : ℕ) → place ≤ k → R k j → end ≤ j
    shortest_ends k j h r = ⊎_elim
        (λ lt. let le : soonest ≤ j = ends k j lt r in omega arith)
        (λ e. least j (subst (λ x. R x j) e r))
        (above_this k h)

    pub shortest_ascending : AllPairs ComesBefore ((place, end) ∷ xs)
    shortest_ascending = cons_ascending xs (place, end) ascending (λ x c. inl ((hits x.0 x.1).0 c).0)

    is_shortest : IsHit Shortest R place end
    is_shortest = (
      there,
      λ k l r (le, most, other). ⊎_elim
          (λ (lt : place < k). let large : soonest ≤ l = ends k l lt r in absurd (omega arith))
          (λ (ge : k ≤ place). let same : k ≡ place = omega arith in
          let large : end ≤ l = least l (subst (λ x. R x l) same r) in
          let last : end ≡ l = omega arith in other (sym same, last))
          (cases_lt place k),
    )

    pub shortest_hits : (i j : ℕ) → Contains ((place, end) ∷ xs) (i, j) ↔ ((place ≤ i) × IsHit Shortest R i j)
    shortest_hits i j = (λ c. there_to ((Contains-cons xs (place, end) (i, j)).0 c), λ (h, hit). (Contains-cons xs (place, end) (i, j)).1 (back hit (above_this i h)))
      where
        there_to : (pair place end ≡ pair i j) ⊎ Contains xs (i, j) → (place ≤ i) × IsHit Shortest R i j
        there_to (inr c) = let h = (hits i j).0 c in let lt : place < i = h.0 in (omega arith, h.1)
        there_to (inl e) =
            let p : place ≡ i = ap (λ (x : ℕ × ℕ). x.0) e in
            let q : end ≡ j = ap (λ (x : ℕ × ℕ). x.1) e in
            (omega arith, subst (λ y. IsHit Shortest R i y) q (subst (λ x. IsHit Shortest R x end) p is_shortest))

        back : IsHit Shortest R i j → (place < i) ⊎ (i ≡ place) → (pair place end ≡ pair i j) ⊎ Contains xs (i, j)
        back hit (inl lt) = inr ((hits i j).1 (lt, hit))
        back hit (inr e) =
            let large : end ≤ j = least j (subst (λ x. R x j) e hit.0) in
            ⊎_elim
            (λ (lt : end < j). absurd (hit.1 place end there (omega arith, omega arith, λ (p, q). omega arith)))
            (λ (ge : j ≤ end). let same : end ≡ j = omega arith in inl (subst (λ x. pair place end ≡ pair x j) (sym e) (ap (λ y. pair place y) same)))
            (cases_lt end j)

  module _ (beyond : soonest ≤ end) where
    pub shortest_from : (last < soonest) ⊎ ((k : ℕ) × (place ≤ k) × R k soonest)
    shortest_from = ⊎_elim (λ e. inl e) (λ (k, lt, r). inr (k, omega arith, r)) from

    pub shortest_still : (k j : ℕ) → place ≤ k → R k j → soonest ≤ j
    shortest_still k j h r = ⊎_elim
        (λ lt. ends k j lt r)
        (λ e. let large : end ≤ j = least j (subst (λ x. R x j) e r) in omega arith)
        (above_this k h)

    pub shortest_none : (i j : ℕ) → Contains xs (i, j) ↔ ((place ≤ i) × IsHit Shortest R i j)
    shortest_none i j = (λ c. let h = (hits i j).0 c in let lt : place < i = h.0 in (omega arith, h.1), λ (h, hit). back hit (above_this i h))
      where
        contains : IsHit Shortest R i j → i ≡ place → ⊥
        contains hit e =
            let r = subst (λ x. R x j) e hit.0 in
            let large : end ≤ j = least j r in
            let within : j ≤ last = inside place j r in
            ⊎_elim
            (λ (none : last < soonest). omega arith)
            (λ (k, lt, shorter). hit.1 k soonest shorter (omega arith, omega arith, λ (p, q). omega arith))
            from

        back : IsHit Shortest R i j → (place < i) ⊎ (i ≡ place) → Contains xs (i, j)
        back hit (inl lt) = (hits i j).1 (lt, hit)
        back hit (inr e) = absurd (contains hit e)

-- Every: one more end of a place
module _ (R : ℕ → ℕ → Type 0) (place end : ℕ) (old xs : List (ℕ × ℕ))
    (pairs : (i j : ℕ) → Contains xs (i, j) ↔ (Contains old (i, j) ⊎ ((i ≡ place) × (j < end) × R place j))) where
  pub pairs_ascending : AllPairs ComesBefore xs → ((i j : ℕ) → Contains old (i, j) → i < place) → AllPairs ComesBefore (xs ++ (place, end) ∷ [])
  pairs_ascending ascending earlier = push_ascending xs (place, end) ascending
      (λ x c. ⊎_elim (λ o. inl (earlier x.0 x.1 o)) (λ (e, lt, r). inr (e, lt)) ((pairs x.0 x.1).0 c))

  pub pairs_pushed : R place end → (i j : ℕ) → Contains (xs ++ (place, end) ∷ []) (i, j) ↔ (Contains old (i, j) ⊎ ((i ≡ place) × (j < end + 1) × R place j))
  pairs_pushed there i j = (λ c. there_to ((Contains-pushed xs (place, end) (i, j)).0 c), λ h. (Contains-pushed xs (place, end) (i, j)).1 (back h))
    where
      widen : Contains old (i, j) ⊎ ((i ≡ place) × (j < end) × R place j) → Contains old (i, j) ⊎ ((i ≡ place) × (j < end + 1) × R place j)
      widen (inl o) = inl o
      widen (inr (e, lt, r)) = inr (e, omega arith, r)

      there_to : Contains xs (i, j) ⊎ (pair place end ≡ pair i j) → Contains old (i, j) ⊎ ((i ≡ place) × (j < end + 1) × R place j)
      there_to (inl c) = widen ((pairs i j).0 c)
      there_to (inr e) =
          let p : place ≡ i = ap (λ (x : ℕ × ℕ). x.0) e in
          let q : end ≡ j = ap (λ (x : ℕ × ℕ). x.1) e in
          inr (sym p, omega arith, subst (λ y. R place y) q there)

      back : Contains old (i, j) ⊎ ((i ≡ place) × (j < end + 1) × R place j) → Contains xs (i, j) ⊎ (pair place end ≡ pair i j)
      back (inl o) = inl ((pairs i j).1 (inl o))
      back (inr (e, le, r)) = ⊎_elim
          (λ lt. inl ((pairs i j).1 (inr (e, lt, r))))
          (λ (ge : end ≤ j). let same : end ≡ j = omega arith in inr (subst (λ x. pair place end ≡ pair x j) (sym e) (ap (λ y. pair place y) same)))
          (cases_lt j end)

  pub pairs_over : (next : ℕ) → end ≤ next → ((j : ℕ) → end ≤ j → j < next → R place j → ⊥) →
      (i j : ℕ) → Contains xs (i, j) ↔ (Contains old (i, j) ⊎ ((i ≡ place) × (j < next) × R place j))
  pairs_over next on none i j = (λ c. widen ((pairs i j).0 c), λ h. (pairs i j).1 (back h))
    where
      widen : Contains old (i, j) ⊎ ((i ≡ place) × (j < end) × R place j) → Contains old (i, j) ⊎ ((i ≡ place) × (j < next) × R place j)
      widen (inl o) = inl o
      widen (inr (e, lt, r)) = inr (e, omega arith, r)

      back : Contains old (i, j) ⊎ ((i ≡ place) × (j < next) × R place j) → Contains old (i, j) ⊎ ((i ≡ place) × (j < end) × R place j)
      back (inl o) = inl o
      back (inr (e, lt, r)) = ⊎_elim (λ below. inr (e, below, r)) (λ ge. absurd (none j ge lt r)) (cases_lt j end)

-- Every: one more place
pub every_more : (R : ℕ → ℕ → Type 0) (place : ℕ) (old xs : List (ℕ × ℕ)) →
    ((i j : ℕ) → Contains old (i, j) ↔ ((i < place) × R i j)) →
    ((i j : ℕ) → Contains xs (i, j) ↔ (Contains old (i, j) ⊎ ((i ≡ place) × R place j))) →
    (i j : ℕ) → Contains xs (i, j) ↔ ((i < place + 1) × R i j)
every_more R place old xs before pairs i j = (λ c. there ((pairs i j).0 c), λ (h, r). (pairs i j).1 (back h r))
  where
    there : Contains old (i, j) ⊎ ((i ≡ place) × R place j) → (i < place + 1) × R i j
    there (inl o) = let h = (before i j).0 o in let lt : i < place = h.0 in (omega arith, h.1)
    there (inr (e, r)) = (omega arith, subst (λ x. R x j) (sym e) r)

    back : i < place + 1 → R i j → Contains old (i, j) ⊎ ((i ≡ place) × R place j)
    back h r = ⊎_elim
        (λ lt. inl ((before i j).1 (lt, r)))
        (λ (ge : place ≤ i). let same : i ≡ place = omega arith in inr (same, subst (λ x. R x j) same r))
        (cases_lt i place)

-- hits of a relation are hits of one that holds of the same pairs
pub AreHits-same : (s : Strategy) (R S : ℕ → ℕ → Type 0) → ((i j : ℕ) → R i j ↔ S i j) → (xs : List (ℕ × ℕ)) → AreHits s R xs → AreHits s S xs
AreHits-same Shortest R S same xs h = (
  h.0,
  λ i j. (
    λ c. let r = (h.1 i j).0 c in ((same i j).0 r.0, λ k l x. r.1 k l ((same k l).1 x)),
    λ r. (h.1 i j).1 ((same i j).1 r.0, λ k l x. r.1 k l ((same k l).0 x)),
  ),
)
AreHits-same Longest R S same xs h = (
  h.0,
  λ i j. (
    λ c. let r = (h.1 i j).0 c in ((same i j).0 r.0, λ k l x. r.1 k l ((same k l).1 x)),
    λ r. (h.1 i j).1 ((same i j).1 r.0, λ k l x. r.1 k l ((same k l).0 x)),
  ),
)
AreHits-same Every R S same xs h = (h.0, λ i j. (λ c. (same i j).0 ((h.1 i j).0 c), λ r. (h.1 i j).1 ((same i j).1 r)))

-- Words: one more of them
module _ (t : Facts) (e place : ℕ) (xs : List (ℕ × ℕ))
    (words : (i j : ℕ) → Contains xs (i, j) ↔ ((i < place) × IsWord t e i j)) where
  pub word_ascending : AllPairs ComesBefore xs → AllPairs ComesBefore (xs ++ (place, place + 1) ∷ [])
  word_ascending ascending = push_ascending xs (place, place + 1) ascending (λ x c. inl ((words x.0 x.1).0 c).0)

  pub word_pushed : Holds t e (place + 1) → (i j : ℕ) → Contains (xs ++ (place, place + 1) ∷ []) (i, j) ↔ ((i < place + 1) × IsWord t e i j)
  word_pushed holds = every_more (IsWord t e) place xs (xs ++ (place, place + 1) ∷ []) words pairs
    where
      pairs : (i j : ℕ) → Contains (xs ++ (place, place + 1) ∷ []) (i, j) ↔ (Contains xs (i, j) ⊎ ((i ≡ place) × IsWord t e place j))
      pairs i j = (λ c. there ((Contains-pushed xs (place, place + 1) (i, j)).0 c), λ h. (Contains-pushed xs (place, place + 1) (i, j)).1 (back h))
        where
          there : Contains xs (i, j) ⊎ (pair place (place + 1) ≡ pair i j) → Contains xs (i, j) ⊎ ((i ≡ place) × IsWord t e place j)
          there (inl c) = inl c
          there (inr q) =
              let a : place ≡ i = ap (λ (x : ℕ × ℕ). x.0) q in
              let b : place + 1 ≡ j = ap (λ (x : ℕ × ℕ). x.1) q in
              inr (sym a, (sym b, subst (Holds t e) b holds))

          back : Contains xs (i, j) ⊎ ((i ≡ place) × IsWord t e place j) → Contains xs (i, j) ⊎ (pair place (place + 1) ≡ pair i j)
          back (inl c) = inl c
          back (inr (a, (b, _))) = inr (subst (λ x. pair place (place + 1) ≡ pair x j) (sym a) (ap (λ y. pair place y) (sym b)))

  pub word_passed : (Holds t e (place + 1) → ⊥) → (i j : ℕ) → Contains xs (i, j) ↔ ((i < place + 1) × IsWord t e i j)
  word_passed none = every_more (IsWord t e) place xs xs words pairs
    where
      pairs : (i j : ℕ) → Contains xs (i, j) ↔ (Contains xs (i, j) ⊎ ((i ≡ place) × IsWord t e place j))
      pairs i j = (λ c. inl c, back)
        where
          back : Contains xs (i, j) ⊎ ((i ≡ place) × IsWord t e place j) → Contains xs (i, j)
          back (inl c) = c
          back (inr (_, (b, holds))) = absurd (none (subst (Holds t e) b holds))

-- a word contains no other word
pub words_are_hits : (t : Facts) (e : ℕ) (s : Strategy) (i j : ℕ) → IsWord t e i j ↔ IsHit s (IsWord t e) i j
words_are_hits t e Shortest i j = (λ r. (r, λ k l x (a, b, other). other (omega (arith, r.0, x.0), omega (arith, r.0, x.0))), λ h. h.0)
words_are_hits t e Longest i j = (λ r. (r, λ k l x (a, b, other). other (omega (arith, r.0, x.0), omega (arith, r.0, x.0))), λ h. h.0)
words_are_hits t e Every i j = (λ r. r, λ h. h)

pub words_are_found : (t : Facts) (e i j : ℕ) → IsWord t e i j ↔ IsFound t (tok e) i j
words_are_found t e i j = (λ r. (omega (arith, r.0), r.1.1, r), λ f. f.2)
