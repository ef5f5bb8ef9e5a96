-- Chains of at most so many links, and of at least one.
use Rattle.std.proofs.Common.{◌≡◌, ◌+◌, ◌-◌, ◌*◌, ◌<◌, ◌≤◌, ◌≢◌, ◌↔◌, ◌⊎◌, ℕ, zero, suc, List, Option, Some, None, IsTrue, Bool, true, false, true≢false, ◌&&◌, arith, sym, subst, inl, inr, ⊎_elim, refl}
use Rattle.std.proofs.lemmas.Bool.{cases_lt, cases_eq}
use Rattle.tb_match.specs.Bits.{InRow, InTable, IsClosed, IsForward, HasLinksOf, Link, Within, triangle}
use Rattle.tb_match.specs.Match.{Chain, IsAtMost}
use Rattle.tb_match.specs.Weight.{IsBetween}
use Rattle.tb_match.proofs.Chains.{chain_join, chain_split}
use Rattle.tb_match.proofs.Sweeps.{chain_goes_on, triangle_step}

module _ (L : List ℕ) (w last : ℕ) where
  pub chain_ends : (n i j : ℕ) → i ≤ last → Chain (Link L w last) n i j → j ≤ last
  chain_ends zero i j here e = subst (λ x. x ≤ last) e here
  chain_ends (suc n) i j here (k, l, rest) = chain_ends n k j l.1 rest

  pub within_more : (s t i j : ℕ) → s ≤ t → Within L w last s i j → Within L w last t i j
  within_more s t i j le (k, small, c) = (k, omega arith, c)

  pub within_from : (t i j : ℕ) → Within L w last t i j → i ≤ j
  within_from t i j (k, small, c) = chain_goes_on L w last k i j c

  -- a chain of one link more ends in a link from where one of no more links ends
  pub within_next : (t i j : ℕ) → IsForward L w last → i ≤ last → j ≤ last →
      (Within L w last t i j ⊎ ((k : ℕ) × (k ≤ last) × Within L w last t i k × InTable L w k j)) ↔ Within L w last (t + 1) i j
  within_next t i j forward here there = (on, back)
    where
      on : (Within L w last t i j ⊎ ((k : ℕ) × (k ≤ last) × Within L w last t i k × InTable L w k j)) → Within L w last (t + 1) i j
      on (inl h) = within_more t (t + 1) i j (omega arith) h
      on (inr (k, le, (n, small, c), link)) =
          (n + 1, omega arith, chain_join (Link L w last) n 1 i k j c (j, (forward k j le there link, there, link), refl))

      of_split : (n : ℕ) → n ≤ t → ((m : ℕ) × Chain (Link L w last) n i m × Chain (Link L w last) 1 m j) → (k : ℕ) × (k ≤ last) × Within L w last t i k × InTable L w k j
      of_split n small (m, c, (x, link, e)) = (m, chain_ends n i m here c, (n, small, c), subst (λ y. InTable L w m y) e link.2)

      back : Within L w last (t + 1) i j → Within L w last t i j ⊎ ((k : ℕ) × (k ≤ last) × Within L w last t i k × InTable L w k j)
      back (n, small, c) = ⊎_elim
          (λ (lt : n < t + 1). inl (n, omega arith, c))
          (λ (ge : t + 1 ≤ n). let e : n ≡ t + 1 = omega arith in
          inr (of_split t (omega arith) (chain_split (Link L w last) t 1 i j (subst (λ x. Chain (Link L w last) x i j) e c))))
          (cases_lt n (t + 1))

  -- a row with the links of its places
  pub within_extended : (old new : List ℕ) (t i j : ℕ) → IsForward L w last → i ≤ last → j ≤ last →
      ((b : ℕ) → b ≤ last → InRow old 0 b ↔ Within L w last t i b) →
      (InRow new 0 j ↔ (InRow old 0 j ⊎ ((k : ℕ) × (k ≤ last) × InRow old 0 k × InTable L w k j))) →
      InRow new 0 j ↔ Within L w last (t + 1) i j
  within_extended old new t i j forward here there reached made =
      let n = within_next t i j forward here there in (
        λ h. n.0 (⊎_elim (λ p. inl ((reached j there).0 p)) (λ (k, le, p, link). inr (k, le, (reached k le).0 p, link)) (made.0 h)),
        λ h. made.1 (⊎_elim (λ p. inl ((reached j there).1 p)) (λ (k, le, p, link). inr (k, le, (reached k le).1 p, link)) (n.1 h)),
      )

  -- a row that has all that any number of links lead to
  pub within_all : (row : List ℕ) (t times i j : ℕ) → t ≤ times → (InRow row 0 j ↔ Within L w last t i j) →
      (InRow row 0 j ↔ ((k : ℕ) × Chain (Link L w last) k i j)) → InRow row 0 j ↔ Within L w last times i j
  within_all row t times i j le reached whole =
      (λ h. within_more t times i j le (reached.0 h), λ (k, small, c). whole.1 (k, c))

  -- a chain of links that leads back to where it began is made of links that stay there
  pub chain_stays : (k i : ℕ) → Chain (Link L w last) (suc k) i i → InTable L w i i
  chain_stays k i (m, link, rest) =
      let a : i ≤ m = link.0 in
      let b : m ≤ i = chain_goes_on L w last k m i rest in
      let e : m ≡ i = omega arith in
      subst (λ x. InTable L w i x) e link.2

  -- at least one link, of at most so many, where one is within the limit
  pub some_link : (a : ℕ) (b : Option ℕ) (i j : ℕ) → i ≤ last → IsAtMost (a + 1) b →
      (((k : ℕ) × IsAtMost (a + k) b × Chain (Link L w last) k i j) × ((j ≢ i) ⊎ InTable L w i i)) ↔
      ((k : ℕ) × (1 ≤ k) × IsAtMost (a + k) b × Chain (Link L w last) k i j)
  some_link a b i j here one = (λ p. there p.0 p.1, λ p. (back0 p, back1 p (cases_eq j i)))
    where
      there : ((k : ℕ) × IsAtMost (a + k) b × Chain (Link L w last) k i j) → ((j ≢ i) ⊎ InTable L w i i) → (k : ℕ) × (1 ≤ k) × IsAtMost (a + k) b × Chain (Link L w last) k i j
      there (suc k, most, c) h = (suc k, omega arith, most, c)
      there (zero, most, e) (inl ne) = absurd (ne (sym e))
      there (zero, most, e) (inr own) = (1, omega arith, one, (j, subst (λ x. Link L w last i x) e (omega arith, here, own), refl))

      back0 : ((k : ℕ) × (1 ≤ k) × IsAtMost (a + k) b × Chain (Link L w last) k i j) → (k : ℕ) × IsAtMost (a + k) b × Chain (Link L w last) k i j
      back0 (k, some, most, c) = (k, most, c)

      back1 : ((k : ℕ) × (1 ≤ k) × IsAtMost (a + k) b × Chain (Link L w last) k i j) → ((j ≡ i) ⊎ (j ≢ i)) → (j ≢ i) ⊎ InTable L w i i
      back1 h (inr ne) = inl ne
      back1 (zero, some, most, c) (inl e) = absurd (omega arith)
      back1 (suc k, some, most, c) (inl e) = inr (chain_stays k i (subst (λ x. Chain (Link L w last) (suc k) i x) e c))

-- the unions that a row may take, of those of the rows from it on
pub turns_step : (times m n : ℕ) → m ≡ n + 1 → times * triangle m ≡ times * m + times * triangle n
turns_step times m n e = rw (triangle_step m n e) (omega arith)

pub one_more : (a : ℕ) (b : Option ℕ) → 1 ≤ a → IsBetween a b → IsAtMost (a - 1 + 1) b
one_more a None some h = tt
one_more a (Some b) some (small, le, one, most) = omega arith

at_most : (a : ℕ) (b : Option ℕ) → IsBetween a b → IsAtMost a b
at_most a None h = tt
at_most a (Some b) (small, le, one, most) = le

-- where a link leads from each place to itself, a chain of fewer links is also one of more
module _ (L : List ℕ) (w last : ℕ) (stay : (i : ℕ) → i ≤ last → InTable L w i i) where
  staying : (n i : ℕ) → i ≤ last → Chain (Link L w last) n i i
  staying zero i here = refl
  staying (suc n) i here = (i, (omega arith, here, stay i here), staying n i here)

  longer : (a : ℕ) (b : Option ℕ) (i j : ℕ) → IsBetween a b → i ≤ last →
      ((k : ℕ) × IsAtMost k b × Chain (Link L w last) k i j) → (k : ℕ) × (a ≤ k) × IsAtMost k b × Chain (Link L w last) k i j
  longer a b i j order here (k, most, c) = ⊎_elim
      (λ (lt : k < a).
      let e : a - k + k ≡ a = omega arith in
      (a, omega arith, at_most a b order, subst (λ n. Chain (Link L w last) n i j) e (chain_join (Link L w last) (a - k) k i i j (staying (a - k) i here) c)))
      (λ (ge : a ≤ k). (k, ge, most, c))
      (cases_lt k a)

-- a lower least number does as well, where chains may be made longer
pub lower_least : (L : List ℕ) (w last a c : ℕ) (b : Option ℕ) (i j : ℕ) → IsBetween a b → c ≤ a → i ≤ last →
    ((c ≡ a) ⊎ ((i : ℕ) → i ≤ last → InTable L w i i)) →
    ((k : ℕ) × (c ≤ k) × IsAtMost k b × Chain (Link L w last) k i j) ↔ ((k : ℕ) × (a ≤ k) × IsAtMost k b × Chain (Link L w last) k i j)
lower_least L w last a c b i j order few here h = (
  λ (k, le, most, d). ⊎_elim (λ e. (k, omega arith, most, d)) (λ stay. longer L w last stay a b i j order here (k, most, d)) h,
  λ (k, le, most, d). (k, omega arith, most, d),
)

-- at least one link, where it follows all but one of the least number
pub some_least : (L V T : List ℕ) (w last a : ℕ) (b : Option ℕ) (i j : ℕ) → i ≤ last → 1 ≤ a → IsBetween a b →
    (InTable T w i j ↔ ((k : ℕ) × IsAtMost (a - 1 + k) b × Chain (Link L w last) k i j)) →
    (InTable V w i j ↔ (InTable T w i j × ((j ≢ i) ⊎ InTable L w i i))) →
    InTable V w i j ↔ ((k : ℕ) × (a ≤ a - 1 + k) × IsAtMost (a - 1 + k) b × Chain (Link L w last) k i j)
some_least L V T w last a b i j here some order rows left =
    let s = some_link L w last (a - 1) b i j here (one_more a b some order) in (
      λ h. let p = left.0 h in let r = s.0 (rows.0 p.0, p.1) in let one : 1 ≤ r.0 = r.1 in (r.0, omega arith, r.2, r.3),
      λ (k, le, most, c). let r = s.1 (k, omega arith, most, c) in left.1 (rows.1 r.0, r.1),
    )

-- the same without a greatest number
pub some_unlimited : (L V T : List ℕ) (w last a : ℕ) (b : Option ℕ) (i j : ℕ) → i ≤ last → 1 ≤ a → IsBetween a b →
    (InTable T w i j ↔ ((k : ℕ) × IsAtMost (a - 1 + k) None × Chain (Link L w last) k i j)) →
    (InTable V w i j ↔ (InTable T w i j × ((j ≢ i) ⊎ InTable L w i i))) →
    InTable V w i j ↔ ((k : ℕ) × (a ≤ a - 1 + k) × IsAtMost (a - 1 + k) None × Chain (Link L w last) k i j)
some_unlimited L V T w last a b i j here some order = some_least L V T w last a None i j here some (small b order)
  where
    small : (b : Option ℕ) → IsBetween a b → IsBetween a None
    small None h = h
    small (Some b) (low, le, one, most) = low

-- at most so many links, where so many are left
pub within_limit : (L : List ℕ) (w last a b i j : ℕ) → a ≤ b →
    Within L w last (b - a) i j ↔ ((k : ℕ) × IsAtMost (a + k) (Some b) × Chain (Link L w last) k i j)
within_limit L w last a b i j le = (
  λ (k, small, c). (k, omega arith, c),
  λ h. let small : a + h.0 ≤ b = h.1 in (h.0, omega arith, h.2),
)

-- rows of chains without a greatest number
module _ (L T : List ℕ) (w last m a : ℕ) (least : m ≤ a)
    (rows : (i j : ℕ) → i ≤ last → j ≤ last → InTable T w i j ↔ ((k : ℕ) × (a ≤ m + k) × IsAtMost (m + k) None × Chain (Link L w last) k i j)) where
  pub chains_closed : IsClosed T w 0 last
  chains_closed i k j from p q r here row =
      let x = (rows i k p q).0 here in
      let y = (rows k j q r).0 row in
      let enough : a ≤ m + x.0 = x.1 in
      (rows i j p r).1 (x.0 + y.0, omega arith, tt, chain_join (Link L w last) x.0 y.0 i k j x.3 y.3)

  pub chains_linked : HasLinksOf T L w last
  chains_linked i k j p q here link =
      let x = (rows i k p q).0 here in
      let enough : a ≤ m + x.0 = x.1 in
      (rows i j p link.1).1 (x.0 + 1, omega arith, tt, chain_join (Link L w last) x.0 1 i k j x.3 (j, link, refl))

  pub chains_forward : IsForward T w last
  chains_forward i j p q here = let x = (rows i j p q).0 here in chain_goes_on L w last x.0 i j x.3

pub both_true : (a b : Bool) → IsTrue (a && b) → IsTrue a × IsTrue b
both_true true true h = (refl, refl)
both_true true false h = absurd (true≢false (sym h))
both_true false b h = absurd (true≢false (sym h))
