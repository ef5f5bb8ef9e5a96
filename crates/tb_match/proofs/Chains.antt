-- Chains of links.
use Rattle.std.proofs.Common.{◌≡◌, ◌+◌, ◌<◌, ◌≤◌, ◌⊎◌, ℕ, zero, suc, arith, sym, subst, inl, inr, ⊎_elim, refl, zero-add, suc-add}
use Rattle.std.proofs.lemmas.Bool.{cases_lt}
use Rattle.tb_match.specs.Match.{Chain}

module _ (R : ℕ → ℕ → Type 0) where
  -- a chain is empty, or has a first link that leads strictly forward
  pub chain_cut : (forward : (a b : ℕ) → R a b → a ≤ b) (k i j : ℕ) → Chain R k i j →
      (i ≡ j) ⊎ ((m : ℕ) × (i < m) × R i m × ((n : ℕ) × Chain R n m j))
  chain_cut forward zero i j e = inl e
  chain_cut forward (suc k) i j (m, r, rest) =
      ⊎_elim (λ lt. inr (m, lt, r, (k, rest)))
      (λ le. let same : m ≡ i = omega (arith, forward i m r) in chain_cut forward k i j (subst (λ x. Chain R k x j) same rest))
      (cases_lt i m)

  pub chain_join : (k n i m j : ℕ) → Chain R k i m → Chain R n m j → Chain R (k + n) i j
  chain_join zero n i m j e c = rw (zero-add n) (subst (λ x. Chain R n x j) (sym e) c)
  chain_join (suc k) n i m j (a, r, rest) c = rw (suc-add k n) (a, r, chain_join k n a m j rest c)

  pub chain_split : (k n i j : ℕ) → Chain R (k + n) i j → (m : ℕ) × Chain R k i m × Chain R n m j
  chain_split zero n i j c = (i, refl, rw zero-add at c)
  chain_split (suc k) n i j c =
      let d : Chain R (suc (k + n)) i j = rw suc-add at c in
      let rest = chain_split k n d.0 j d.2 in
      (rest.0, (d.0, d.1, rest.1), rest.2)

-- a chain of one relation is one of another that has its links
pub chain_of : (R S : ℕ → ℕ → Type 0) (P : ℕ → Type 0) → ((a b : ℕ) → P a → R a b → S a b × P b) → (k i j : ℕ) → P i → Chain R k i j → Chain S k i j × P j
chain_of R S P f zero i j p e = (e, subst P e p)
chain_of R S P f (suc k) i j p (m, r, rest) =
    let s = f i m p r in
    let c = chain_of R S P f k m j s.1 rest in
    ((m, s.0, c.0), c.1)
