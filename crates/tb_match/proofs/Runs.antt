-- Words that the places of a row step over.
use Rattle.std.proofs.Common.{◌≡◌, ◌+◌, ◌<◌, ◌≤◌, ◌↔◌, ◌⊎◌, ℕ, zero, suc, List, Option, Some, None, arith, sym, subst, inl, inr, ⊎_elim, refl}
use Rattle.tb_match.specs.Bits.{InTable}
use Rattle.tb_match.specs.Stays.{MayStay}
use Rattle.tb_match.specs.declared.step.Step.TheVariants.{Optional}
use Rattle.std.specs.Int.{bit_at}
use Rattle.tb_match.specs.Facts.{Facts, Holds}
use Rattle.tb_match.specs.Hits.{IsWord}
use Rattle.tb_match.specs.Match.{Chain, IsAtMost}
use Rattle.tb_match.proofs.Masks.{Over, over_forward}

-- from a place of the row below `below`, to itself where K holds, or over one word
abbrev pub Stepped : List ℕ → ℕ → ℕ → Type 0 → Facts → ℕ → ℕ → ℕ → Type 0
Stepped T w row K t e below j = (k : ℕ) × (k < below) × InTable T w row k × ((K × (j ≡ k)) ⊎ IsWord t e k j)

-- from a place of the row over any number of words
abbrev pub Run : List ℕ → ℕ → ℕ → ℕ → Facts → ℕ → ℕ → Type 0
Run T w row last t e j = (k : ℕ) × (k ≤ last) × InTable T w row k × ((n : ℕ) × Chain (IsWord t e) n k j)

chain_map : (R S : ℕ → ℕ → Type 0) → ((a b : ℕ) → R a b → S a b) → (k i j : ℕ) → Chain R k i j → Chain S k i j
chain_map R S f zero i j e = e
chain_map R S f (suc k) i j (m, r, rest) = (m, f i m r, chain_map R S f k m j rest)

module _ (R W : ℕ → ℕ → Type 0) (same : (a b : ℕ) → R a b ↔ W a b) (i j : ℕ) where
  optional_there : ((k : ℕ) × (0 ≤ k) × (k ≤ 1) × Chain R k i j) → (j ≡ i) ⊎ W i j
  optional_there (zero, _, _, c) = inl (sym c)
  optional_there (suc zero, _, _, (m, r, c)) = inr ((same i j).0 (subst (λ x. R i x) c r))
  optional_there (suc (suc k), _, h, _) = absurd (omega arith)

  optional_back : (j ≡ i) ⊎ W i j → (k : ℕ) × (0 ≤ k) × (k ≤ 1) × Chain R k i j
  optional_back (inl e) = (0, omega arith, omega arith, sym e)
  optional_back (inr w) = (1, omega arith, omega arith, (j, (same i j).1 w, refl))

  -- at most one link, as a repetition's numbers say it
  pub optional_link : (a : ℕ) (b : Option ℕ) → a ≡ 0 → b ≡ Some 1 → ((k : ℕ) × (a ≤ k) × IsAtMost k b × Chain R k i j) ↔ ((j ≡ i) ⊎ W i j)
  optional_link a b p q = rw (p, q) (optional_there, optional_back)

  -- any number of links
  pub any_links : (a : ℕ) (b : Option ℕ) → a ≡ 0 → b ≡ None → ((k : ℕ) × (a ≤ k) × IsAtMost k b × Chain R k i j) ↔ ((k : ℕ) × Chain W k i j)
  any_links a b p q = rw (p, q) (
    λ h. (h.0, chain_map R W (λ x y r. (same x y).0 r) h.0 i j h.3),
    λ h. (h.0, omega arith, tt, chain_map W R (λ x y r. (same x y).1 r) h.0 i j h.1),
  )

chain_end : (R : ℕ → ℕ → Type 0) (n k m j : ℕ) → Chain R n k m → R m j → Chain R (suc n) k j
chain_end R zero k m j c r = (j, subst (λ x. R x j) (sym c) r, refl)
chain_end R (suc n) k m j (x, s, rest) r = (x, s, chain_end R n x m j rest r)

-- a run goes on over one more word
pub run_more : (T : List ℕ) (w row last : ℕ) (t : Facts) (e m j : ℕ) → Run T w row last t e m → IsWord t e m j → Run T w row last t e j
run_more T w row last t e m j (k, le, r, (n, c)) h = (k, le, r, (suc n, chain_end (IsWord t e) n k m j c h))

-- a row that is closed under steps over one word has the ends of all runs
module _ (T : List ℕ) (w row last : ℕ) (t : Facts) (e : ℕ) (inside : (m j : ℕ) → IsWord t e m j → j ≤ last)
    (closed : (m j : ℕ) → m ≤ last → IsWord t e m j → InTable T w row m → InTable T w row j) where
  pub run_ends : (n k j : ℕ) → k ≤ last → InTable T w row k → Chain (IsWord t e) n k j → InTable T w row j
  run_ends zero k j le r c = subst (λ x. InTable T w row x) c r
  run_ends (suc n) k j le r (m, h, rest) = run_ends n m j (inside k m h) (closed k m le h r) rest

-- a pattern M that is a word or nothing, or a run of words, after the places of a row
module _ (T : List ℕ) (w row n : ℕ) (t : Facts) (e j : ℕ) (M : ℕ → ℕ → Type 0) where
  pub stepped_match : ((k : ℕ) → M k j ↔ ((j ≡ k) ⊎ IsWord t e k j)) → Stepped T w row (MayStay Optional) t e (n + 1) j ↔ ((k : ℕ) × (k ≤ n) × InTable T w row k × M k j)
  stepped_match same = (
    λ (k, lt, r, s). (k, omega arith, r, (same k).1 (⊎_elim (λ a. inl a.1) (λ b. inr b) s)),
    λ (k, le, r, m). (k, omega arith, r, ⊎_elim (λ a. inl (tt, a)) (λ b. inr b) ((same k).0 m)),
  )

  pub run_match : ((k : ℕ) → M k j ↔ ((l : ℕ) × Chain (IsWord t e) l k j)) → Run T w row n t e j ↔ ((k : ℕ) × (k ≤ n) × InTable T w row k × M k j)
  run_match same = (λ (k, le, r, s). (k, le, r, (same k).1 s), λ (k, le, r, m). (k, le, r, (same k).0 m))

-- what a mask says of places, said of the words of a sentence
module _ (T T' : List ℕ) (t : Facts) (e ends i j : ℕ) (mask : (b : ℕ) → (bit_at ends b ≡ 1) ↔ Holds t e b) (here : j ≤ t.words) where
  pub stepped_over : (K : Type 0) → (InTable T' 1 i j ↔ ((K × InTable T 1 i j) ⊎ ((k : ℕ) × (j ≡ k + 1) × InTable T 1 i k × (bit_at ends j ≡ 1)))) →
      InTable T' 1 i j ↔ Stepped T 1 i K t e (t.words + 1) j
  stepped_over K step = (λ p. there (step.0 p), λ p. step.1 (back p))
    where
      there : ((K × InTable T 1 i j) ⊎ ((k : ℕ) × (j ≡ k + 1) × InTable T 1 i k × (bit_at ends j ≡ 1))) → Stepped T 1 i K t e (t.words + 1) j
      there (inl (keep, p)) = (j, omega arith, p, inl (keep, refl))
      there (inr (k, next, p, b)) = (k, omega arith, p, inr (next, (mask j).0 b))

      back : Stepped T 1 i K t e (t.words + 1) j → (K × InTable T 1 i j) ⊎ ((k : ℕ) × (j ≡ k + 1) × InTable T 1 i k × (bit_at ends j ≡ 1))
      back (k, lt, p, inl (keep, same)) = inl (keep, subst (λ x. InTable T 1 i x) (sym same) p)
      back (k, lt, p, inr (next, holds)) = inr (k, next, p, (mask j).1 holds)

  pub run_over : t.words < 64 → (InTable T' 1 i j ↔ ((k : ℕ) × (k < 64) × InTable T 1 i k × ((n : ℕ) × Chain (Over ends) n k j))) →
      InTable T' 1 i j ↔ Run T 1 i t.words t e j
  run_over short run = (
    λ p. let r = run.0 p in
        let le : r.0 ≤ j = over_forward ends r.3.0 r.0 j r.3.1 in
        (r.0, omega arith, r.2, (r.3.0, chain_map (Over ends) (IsWord t e) (λ a b o. (o.0, (mask b).0 o.1)) r.3.0 r.0 j r.3.1)),
    λ (k, le, p, (n, links)). run.1 (k, omega arith, p, (n, chain_map (IsWord t e) (Over ends) (λ a b o. (o.0, (mask b).1 o.1)) n k j links)),
  )

-- a step from each place alone
pub from_itself : (D : List ℕ) (w n i j : ℕ) (t : Facts) (e : ℕ) (K : Type 0) → ((a b : ℕ) → a ≤ n → b ≤ n → InTable D w a b ↔ (a ≡ b)) → i ≤ n →
    Stepped D w i K t e (n + 1) j ↔ ((K × (j ≡ i)) ⊎ IsWord t e i j)
from_itself D w n i j t e K alone here = (
  λ (k, lt, p, s). subst (λ x. (K × (j ≡ x)) ⊎ IsWord t e x j) (sym ((alone i k here (omega arith)).0 p)) s,
  λ s. (i, omega arith, (alone i i here here).1 refl, s),
)
