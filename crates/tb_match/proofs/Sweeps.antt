-- One sweep over the rows of a table.
use Rattle.std.proofs.Common.{◌≡◌, ◌+◌, ◌<◌, ◌≤◌, ◌≢◌, ◌↔◌, ◌⊎◌, ℕ, zero, suc, List, arith, sym, subst, inl, inr, ⊎_elim, refl, add-one, le_antisymm}
use Rattle.std.proofs.lemmas.Bool.{cases_lt, cases_eq, cases_order}
use Rattle.tb_match.specs.Bits.{InTable, Through, Link, IsClosed, IsForward, HasLinksOf, triangle}
use Rattle.tb_match.specs.Match.{Chain}
use Rattle.tb_match.proofs.Chains.{chain_cut, chain_join}

pub triangle_step : (m n : ℕ) → m ≡ n + 1 → triangle m ≡ m + triangle n
triangle_step m n e = rw (e, add-one) refl

pub triangle_le : (m n : ℕ) → m ≤ n → triangle m ≤ triangle n
triangle_le m zero h = let e : m ≡ 0 = omega arith in rw e (omega arith)
triangle_le m (suc n) h = ⊎_elim
    (λ lt. let below : m ≤ n = omega arith in omega (arith, triangle_le m n below))
    (λ le. let e : m ≡ suc n = le_antisymm h le in rw e (omega arith))
    (cases_lt m (suc n))

pub le_triangle : (n : ℕ) → n ≤ triangle n
le_triangle zero = omega arith
le_triangle (suc n) = omega arith

abbrev pub Reaches : List ℕ → ℕ → ℕ → ℕ → ℕ → Type 0
Reaches L w last i j = (k : ℕ) × Chain (Link L w last) k i j

pub chain_goes_on : (L : List ℕ) (w last k i j : ℕ) → Chain (Link L w last) k i j → i ≤ j
chain_goes_on L w last zero i j e = omega arith
chain_goes_on L w last (suc k) i j (m, r, rest) = let a : i ≤ m = r.0 in omega (arith, chain_goes_on L w last k m j rest)

-- where the rows from `before` on are closed, and those before it are empty, all rows are closed
pub all_closed : (L T : List ℕ) (w last before : ℕ) →
    ((a b : ℕ) → before ≤ a → a ≤ last → b ≤ last → InTable T w a b ↔ Reaches L w last a b) →
    ((a b : ℕ) → a < before → b ≤ last → InTable T w a b → ⊥) → (first : ℕ) → IsClosed T w first last
all_closed L T w last before done empty first i k j from p q r here row = ⊎_elim
    (λ lt. absurd (empty i k lt q here))
    (λ ge.
    let a = (done i k ge p q).0 here in
    let on = chain_goes_on L w last a.0 i k a.1 in
    let b = (done k j (omega arith) q r).0 row in
    (done i j ge p r).1 (a.0 + b.0, chain_join (Link L w last) a.0 b.0 i k j a.1 b.1))
    (cases_lt i before)

-- the row of one place in the backward sweep: the rows after it are closed, and its own is empty
module _ (L T : List ℕ) (w last place j : ℕ) (inside : place ≤ last) (here : j ≤ last)
    (done : (m : ℕ) → place < m → m ≤ last → InTable T w m j ↔ Reaches L w last m j)
    (empty : InTable T w place j → ⊥) where
  pub close_row : ((j ≡ place) ⊎ Through L T w place (last + 1) j) ↔ Reaches L w last place j
  close_row = (there, back)
    where
      there : ((j ≡ place) ⊎ Through L T w place (last + 1) j) → Reaches L w last place j
      there (inl e) = (0, sym e)
      there (inr (k, from, below, link, row)) =
          ⊎_elim
          (λ (lt : place < k). let r = (done k lt (omega arith)).0 row in (suc (r.0), (k, (from, omega arith, link), r.1)))
          (λ (le : k ≤ place). let e : k ≡ place = omega arith in absurd (empty (subst (λ x. InTable T w x j) e row)))
          (cases_lt place k)

      of_cut : (place ≡ j) ⊎ ((m : ℕ) × (place < m) × Link L w last place m × ((n : ℕ) × Chain (Link L w last) n m j)) →
          (j ≡ place) ⊎ Through L T w place (last + 1) j
      of_cut (inl e) = inl (sym e)
      of_cut (inr (m, lt, (le, most, link), rest)) = inr (m, le, omega arith, link, (done m lt most).1 rest)

      back : Reaches L w last place j → (j ≡ place) ⊎ Through L T w place (last + 1) j
      back (k, c) = of_cut (chain_cut (Link L w last) (λ a b r. r.0) k place j c)

abbrev Row : List ℕ → List ℕ → List ℕ → ℕ → ℕ → ℕ → ℕ → Type 0
Row L T T' w last place j = InTable T' w place j ↔ ((j ≡ place) ⊎ Through L T w place (last + 1) j)

-- a step of the backward sweep
module _ (L T T' : List ℕ) (w last place before : ℕ) where
  pub closed : (i j : ℕ) → before ≡ place + 1 → place ≤ last →
      ((a b : ℕ) → before ≤ a → a ≤ last → b ≤ last → InTable T w a b ↔ Reaches L w last a b) →
      ((a b : ℕ) → a < before → b ≤ last → InTable T w a b → ⊥) →
      ((b : ℕ) → b ≤ last → Row L T T' w last place b) →
      ((a b : ℕ) → a ≢ place → b ≤ last → InTable T' w a b ↔ InTable T w a b) →
      place ≤ i → i ≤ last → j ≤ last → InTable T' w i j ↔ Reaches L w last i j
  closed i j next inside done empty row others from most here = ⊎_elim this other (cases_eq i place)
    where
      this : i ≡ place → InTable T' w i j ↔ Reaches L w last i j
      this e =
          let r = row j here in
          let c = close_row L T w last place j inside here (λ m lt le. done m j (omega arith) le here) (empty place j (omega arith) here) in
          subst (λ x. InTable T' w x j ↔ Reaches L w last x j) (sym e) (λ h. c.0 (r.0 h), λ h. r.1 (c.1 h))

      other : i ≢ place → InTable T' w i j ↔ Reaches L w last i j
      other ne =
          let o = others i j ne here in
          let d = done i j (above ne) most here in
          (λ h. d.0 (o.0 h), λ h. o.1 (d.1 h))
        where
          above : i ≢ place → before ≤ i
          above ne = ⊎_elim (λ e. absurd (ne e)) (λ h. ⊎_elim (λ l. omega arith) (λ g. omega arith) h) (cases_order i place)

-- a step of the forward sweep
module _ (L T0 T T' : List ℕ) (w last place : ℕ) where
  pub composed : (i j : ℕ) →
      ((a b : ℕ) → a < place → b ≤ last → InTable T w a b ↔ Through L T0 w a (last + 1) b) →
      ((a b : ℕ) → place ≤ a → b ≤ last → InTable T w a b ↔ InTable T0 w a b) →
      ((b : ℕ) → b ≤ last → InTable T' w place b ↔ Through L T w place (last + 1) b) →
      ((a b : ℕ) → a ≢ place → b ≤ last → InTable T' w a b ↔ InTable T w a b) →
      i < place + 1 → j ≤ last → InTable T' w i j ↔ Through L T0 w i (last + 1) j
  composed i j done rest row others below here = ⊎_elim this other (cases_eq i place)
    where
      old : Through L T w place (last + 1) j → Through L T0 w place (last + 1) j
      old (k, a, b, c, d) = (k, a, b, c, (rest k j a here).0 d)

      new : Through L T0 w place (last + 1) j → Through L T w place (last + 1) j
      new (k, a, b, c, d) = (k, a, b, c, (rest k j a here).1 d)

      this : i ≡ place → InTable T' w i j ↔ Through L T0 w i (last + 1) j
      this e =
          let r = row j here in
          subst (λ x. InTable T' w x j ↔ Through L T0 w x (last + 1) j) (sym e)
          (λ h. old (r.0 h), λ h. r.1 (new h))

      other : i ≢ place → InTable T' w i j ↔ Through L T0 w i (last + 1) j
      other ne =
          let o = others i j ne here in
          let d = done i j (lower ne) here in
          (λ h. d.0 (o.0 h), λ h. o.1 (d.1 h))
        where
          lower : i ≢ place → i < place
          lower ne = ⊎_elim (λ e. absurd (ne e)) (λ h. ⊎_elim (λ l. omega arith) (λ g. omega arith) h) (cases_order i place)

-- closed rows stay so where the links are put before them
module _ (L T T' : List ℕ) (w last : ℕ) (linked : HasLinksOf T L w last)
    (made : (i j : ℕ) → i ≤ last → j ≤ last → InTable T' w i j ↔ Through L T w i (last + 1) j) where
  pub closed_before : IsClosed T w 0 last → IsClosed T' w 0 last
  closed_before closed i k j from p q r here row =
      let a = (made i k p q).0 here in
      let b = (made k j q r).0 row in
      through a b
    where
      through : Through L T w i (last + 1) k → Through L T w k (last + 1) j → InTable T' w i j
      through (m, le, lt, link, to) (n, on, less, next, rest) =
          let inside : m ≤ last = omega arith in
          let within : n ≤ last = omega arith in
          let onward = linked m k n inside q to (on, within, next) in
          (made i j p r).1 (m, le, lt, link, closed m n j (omega arith) inside within r onward rest)

  pub linked_before : HasLinksOf T' L w last
  linked_before i k j p q here next = through ((made i k p q).0 here)
    where
      through : Through L T w i (last + 1) k → InTable T' w i j
      through (m, le, lt, link, to) = (made i j p next.1).1 (m, le, lt, link, linked m k j (omega arith) q to next)

  pub forward_before : IsForward T w last → IsForward T' w last
  forward_before forward i j p q here = through ((made i j p q).0 here)
    where
      through : Through L T w i (last + 1) j → i ≤ j
      through (m, le, lt, link, to) = let on : m ≤ j = forward m j (omega arith) q to in omega arith
