-- Chains of at least one link, row by row from the last place.
use Rattle.std.proofs.Common.{◌≡◌, ◌+◌, ◌<◌, ◌≤◌, ◌≢◌, ◌↔◌, ◌⊎◌, ℕ, zero, suc, List, get_or, set, length, arith, sym, subst, inl, inr, ⊎_elim, refl, suc-add, ◌∙◌}
use Rattle.std.specs.Int.{bit_at}
use Rattle.std.proofs.lemmas.Bool.{cases_lt, cases_eq}
use Rattle.std.proofs.lemmas.List.{get_or-set_same, get_or-set_other}
use Rattle.tb_match.specs.Bits.{InTable, Link}
use Rattle.tb_match.specs.Match.{Chain}
use Rattle.tb_match.proofs.Chains.{chain_join}
use Rattle.tb_match.proofs.Masks.{in_one_word}

-- at least one link
abbrev pub Chained : List ℕ → ℕ → ℕ → ℕ → Type 0
Chained L last i j = (n : ℕ) × Chain (Link L 1 last) (suc n) i j

-- the first link, and what follows it
abbrev First : List ℕ → ℕ → ℕ → ℕ → Type 0
First L last i j = Link L 1 last i j ⊎ ((k : ℕ) × (i < k) × Link L 1 last i k × Chained L last k j)

first_link : (L : List ℕ) (last n i j : ℕ) → Chain (Link L 1 last) (suc n) i j → First L last i j
first_link L last zero i j (m, r, rest) = inl (subst (λ x. Link L 1 last i x) rest r)
first_link L last (suc n) i j (m, r, rest) = ⊎_elim
    (λ (lt : i < m). inr (m, lt, r, (n, rest)))
    (λ (le : m ≤ i). let on : i ≤ m = r.0 in let same : m ≡ i = omega arith in first_link L last n i j (subst (λ x. Chain (Link L 1 last) (suc n) x j) same rest))
    (cases_lt i m)

from_first : (L : List ℕ) (last i j : ℕ) → First L last i j → Chained L last i j
from_first L last i j (inl r) = (0, (j, r, refl))
from_first L last i j (inr (k, lt, r, (n, c))) = (suc n, (k, r, c))

goes_on : (L : List ℕ) (last n i j : ℕ) → Chain (Link L 1 last) n i j → i ≤ j
goes_on L last zero i j e = omega arith
goes_on L last (suc n) i j (m, r, rest) = let a : i ≤ m = r.0 in omega (arith, goes_on L last n m j rest)

pub some_links : (L : List ℕ) (last i j : ℕ) → Chained L last i j ↔ ((k : ℕ) × (1 ≤ k) × Chain (Link L 1 last) k i j)
some_links L last i j = (λ c. (suc (c.0), omega arith, c.1), back)
  where
    back : ((k : ℕ) × (1 ≤ k) × Chain (Link L 1 last) k i j) → Chained L last i j
    back (zero, le, c) = absurd (omega arith)
    back (suc n, le, c) = (n, c)

-- later rows are closed
pub later_closed : (L T : List ℕ) (last place : ℕ) →
    ((i j : ℕ) → place < i → i ≤ last → j ≤ last → InTable T 1 i j ↔ Chained L last i j) →
    (i k j : ℕ) → place < i → i ≤ last → k ≤ last → j ≤ last → InTable T 1 i k → InTable T 1 k j → InTable T 1 i j
later_closed L T last place done i k j after p q r here row =
    let a = (done i k after p q).0 here in
    let on = goes_on L last (suc (a.0)) i k a.1 in
    let b = (done k j (omega (arith, on)) q r).0 row in
    let joined : Chain (Link L 1 last) (suc (a.0) + suc (b.0)) i j = chain_join (Link L 1 last) (suc (a.0)) (suc (b.0)) i k j a.1 b.1 in
    let whole : Chain (Link L 1 last) (suc (a.0 + suc (b.0))) i j = rw suc-add at joined in
    (done i j after p r).1 (a.0 + suc (b.0), whole)

-- a step of the sweep: the row of `place` is written
module _ (L T : List ℕ) (v last place : ℕ) (inside : place < length T) (upto : place ≤ last) (short : last < 64)
    (done : (i j : ℕ) → place < i → i ≤ last → j ≤ last → InTable T 1 i j ↔ Chained L last i j)
    (rest : (i : ℕ) → i ≤ place → get_or T i 0 ≡ get_or L i 0)
    (row : (j : ℕ) → j ≤ last → (bit_at v j ≡ 1) ↔ (((place ≤ j) × InTable T 1 place j) ⊎ ((k : ℕ) × (place < k) × (k ≤ last) × InTable T 1 place k × InTable T 1 k j))) where
  own : (j : ℕ) → j ≤ last → InTable T 1 place j ↔ InTable L 1 place j
  own j h =
      let a = in_one_word T place j (omega arith) in
      let b = in_one_word L place j (omega arith) in
      let e = rest place (omega arith) in (
        λ p. b.1 (subst (λ x. bit_at x j ≡ 1) e (a.0 p)),
        λ p. a.1 (subst (λ x. bit_at x j ≡ 1) (sym e) (b.0 p)),
      )

  this : (j : ℕ) → j ≤ last → (bit_at v j ≡ 1) ↔ Chained L last place j
  this j h = (λ p. there ((row j h).0 p), λ c. (row j h).1 (back (first_link L last c.0 place j c.1)))
    where
      there : (((place ≤ j) × InTable T 1 place j) ⊎ ((k : ℕ) × (place < k) × (k ≤ last) × InTable T 1 place k × InTable T 1 k j)) → Chained L last place j
      there (inl (le, p)) = from_first L last place j (inl (le, h, (own j h).0 p))
      there (inr (k, lt, le, p, q)) = from_first L last place j (inr (k, lt, (omega arith, le, (own k le).0 p), (done k j lt le h).0 q))

      back : First L last place j → ((place ≤ j) × InTable T 1 place j) ⊎ ((k : ℕ) × (place < k) × (k ≤ last) × InTable T 1 place k × InTable T 1 k j)
      back (inl (le, most, p)) = inl (le, (own j h).1 p)
      back (inr (k, lt, (le, most, p), c)) = inr (k, lt, most, (own k most).1 p, (done k j lt most h).1 c)

  pub chained_row : (i j : ℕ) → place ≤ i → i ≤ last → j ≤ last → InTable (set T place v) 1 i j ↔ Chained L last i j
  chained_row i j from most h = ⊎_elim same other (cases_eq i place)
    where
      new : InTable (set T place v) 1 i j ↔ (bit_at (get_or (set T place v) i 0) j ≡ 1)
      new = in_one_word (set T place v) i j (omega arith)

      same : i ≡ place → InTable (set T place v) 1 i j ↔ Chained L last i j
      same e =
          let w : get_or (set T place v) i 0 ≡ v = rw e (get_or-set_same T place v 0 inside) in
          let t = this j h in (
            λ p. subst (λ x. Chained L last x j) (sym e) (t.0 (subst (λ x. bit_at x j ≡ 1) w (new.0 p))),
            λ c. new.1 (subst (λ x. bit_at x j ≡ 1) (sym w) (t.1 (subst (λ x. Chained L last x j) e c))),
          )

      other : i ≢ place → InTable (set T place v) 1 i j ↔ Chained L last i j
      other ne =
          let w = get_or-set_other T place i v 0 ne in
          let after : place < i = ⊎_elim (λ lt. lt) (λ (ge : i ≤ place). absurd (ne (omega arith))) (cases_lt place i) in
          let d = done i j after most h in
          let old = in_one_word T i j (omega arith) in (
            λ p. d.0 (old.1 (subst (λ x. bit_at x j ≡ 1) w (new.0 p))),
            λ c. new.1 (subst (λ x. bit_at x j ≡ 1) (sym w) (old.0 (d.1 c))),
          )

  pub earlier_row : (i : ℕ) → i < place → get_or (set T place v) i 0 ≡ get_or L i 0
  earlier_row i lt = get_or-set_other T place i v 0 (λ e. omega arith) ∙ rest i (omega arith)

-- the links of a place within the table
pub own_links : (T : List ℕ) (place last from links j : ℕ) → j < 64 →
    ((bit_at from j ≡ 1) ↔ ((bit_at (get_or T place 0) j ≡ 1) × (place ≤ 0 + j))) → ((bit_at links j ≡ 1) ↔ ((bit_at from j ≡ 1) × (j ≤ last))) →
    (bit_at links j ≡ 1) ↔ ((place ≤ j) × (j ≤ last) × InTable T 1 place j)
own_links T place last from links j h a b =
    let w = in_one_word T place j h in (
      λ p. let q = b.0 p in let r = a.0 q.0 in let le : place ≤ 0 + j = r.1 in (omega arith, q.1, w.1 r.0),
      λ (ge, le, p). b.1 (a.1 (w.0 p, omega arith), le),
    )
