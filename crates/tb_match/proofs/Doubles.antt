-- Links put before a table many times, by links of which each is two.
use Rattle.std.proofs.Common.{◌≡◌, ◌+◌, ◌*◌, ◌≤◌, ◌↔◌, ℕ, zero, suc, List, arith, refl, sym, subst}
use Rattle.std.proofs.Math.Nat.{mul-le-mul_right}
use Rattle.tb_match.specs.Bits.{InTable, Through, Link, IsClosed, IsForward, HasLinksOf, Repeated}
use Rattle.tb_match.specs.Match.{Chain}
use Rattle.tb_match.proofs.Sweeps.{closed_before}

-- one turn is taken: the links once before the table
module _ (L T T' : List ℕ) (w last : ℕ)
    (made : (a b : ℕ) → a ≤ last → b ≤ last → InTable T' w a b ↔ Through L T w a (last + 1) b) where
  pub turn_taken : (t i j : ℕ) → i ≤ last → j ≤ last → Repeated L T' w last t i j ↔ Repeated L T w last (suc t) i j
  turn_taken zero i j p q = (λ h. there ((made i j p q).0 h), λ (k, (le, most, link), row). (made i j p q).1 (k, le, omega arith, link, row))
    where
      there : Through L T w i (last + 1) j → Repeated L T w last (suc zero) i j
      there (k, le, lt, link, row) = (k, (le, omega arith, link), row)
  turn_taken (suc t) i j p q = (
    λ (k, link, rest). (k, link, (turn_taken t k j link.1 q).0 rest),
    λ (k, link, rest). (k, link, (turn_taken t k j link.1 q).1 rest),
  )

-- closed links lead to the links of each of their places
pub closed_linked : (T : List ℕ) (w last : ℕ) → IsClosed T w 0 last → HasLinksOf T T w last
closed_linked T w last closed i k j p q here link = closed i k j (omega arith) p q link.1 here link.2

-- the links of a table each of which is two links of another
module _ (L L' : List ℕ) (w last : ℕ) (onward : IsForward L w last)
    (made : (a b : ℕ) → a ≤ last → b ≤ last → InTable L' w a b ↔ Through L L w a (last + 1) b) where
  pub two_links : (i j : ℕ) → i ≤ last → Link L' w last i j → (k : ℕ) × Link L w last i k × Link L w last k j
  two_links i j p (le, most, h) = there ((made i j p most).0 h)
    where
      there : Through L L w i (last + 1) j → (k : ℕ) × Link L w last i k × Link L w last k j
      there (k, from, lt, a, b) = let inside : k ≤ last = omega arith in (k, (from, inside, a), (onward k j inside most b, most, b))

  pub one_link : (i k j : ℕ) → i ≤ last → Link L w last i k → Link L w last k j → Link L' w last i j
  one_link i k j p (le, most, a) (on, end, b) = (omega arith, end, (made i j p end).1 (k, le, omega arith, a, b))

  pub onward_doubled : IsForward L' w last
  onward_doubled i j p q h = there ((made i j p q).0 h)
    where
      there : Through L L w i (last + 1) j → i ≤ j
      there (k, from, lt, a, b) = let on : k ≤ j = onward k j (omega arith) q b in omega arith

  pub linked_doubled : (T : List ℕ) → HasLinksOf T L w last → HasLinksOf T L' w last
  linked_doubled T linked i k j p q here link =
      let two = two_links k j q link in
      linked i two.0 j p two.1.1 (linked i k two.0 p q here two.1) two.2

  pub half_turns : (T : List ℕ) (t i j : ℕ) → i ≤ last → Repeated L' T w last t i j ↔ Repeated L T w last (t + t) i j
  half_turns T zero i j p = (λ h. h, λ h. h)
  half_turns T (suc t) i j p =
      let e : suc t + suc t ≡ suc (suc (t + t)) = omega arith in
      subst (λ n. Repeated L' T w last (suc t) i j ↔ Repeated L T w last n i j) (sym e) (
        λ (k, link, rest). let two = two_links i k p link in (two.0, two.1, (k, two.2, (half_turns T t k j link.1).0 rest)),
        λ (m, first, (k, second, rest)). (k, one_link i m k p first second, (half_turns T t k j second.1).1 rest),
      )

-- closed links stay so where each becomes two
pub closed_doubled : (L L' : List ℕ) (w last : ℕ) → IsClosed L w 0 last →
    ((a b : ℕ) → a ≤ last → b ≤ last → InTable L' w a b ↔ Through L L w a (last + 1) b) → IsClosed L' w 0 last
closed_doubled L L' w last closed made = closed_before L L L' w last (closed_linked L w last closed) made closed

-- the links become those of the table, which are chains of them
module _ (L T : List ℕ) (w last : ℕ) (closed : IsClosed T w 0 last)
    (chains : (i j : ℕ) → i ≤ last → j ≤ last → InTable T w i j ↔ ((k : ℕ) × (1 ≤ k) × Chain (Link L w last) k i j)) where
  lone : (i k : ℕ) → i ≤ last → Link L w last i k → InTable T w i k
  lone i k p link = (chains i k p link.1).1 (1, omega arith, (k, link, refl))

  -- one link more at the beginning adds nothing
  absorbed : (t i k j : ℕ) → i ≤ last → j ≤ last → Link L w last i k → Repeated L T w last t k j → Repeated L T w last t i j
  absorbed zero i k j p q link row = closed i k j (omega arith) p link.1 q (lone i k p link) row
  absorbed (suc t) i k j p q link (m, next, rest) = (k, link, absorbed t k m j link.1 q next rest)

  all_absorbed : (n t i k j : ℕ) → i ≤ last → j ≤ last → Chain (Link L w last) n i k → Repeated L T w last t k j → Repeated L T w last t i j
  all_absorbed zero t i k j p q e h = subst (λ x. Repeated L T w last t x j) (sym e) h
  all_absorbed (suc n) t i k j p q (m, link, rest) h = absorbed t i m j p q link (all_absorbed n t m k j link.1 q rest h)

  after_chain : (n t i k j : ℕ) → i ≤ last → j ≤ last → 1 ≤ n → Chain (Link L w last) n i k → Repeated L T w last t k j → Repeated L T w last (suc t) i j
  after_chain zero t i k j p q some c h = absurd (omega arith)
  after_chain (suc n) t i k j p q some (m, link, rest) h = (m, link, all_absorbed n t m k j link.1 q rest h)

  pub own_links : (t i j : ℕ) → i ≤ last → j ≤ last → Repeated T T w last t i j ↔ Repeated L T w last t i j
  own_links zero i j p q = (λ h. h, λ h. h)
  own_links (suc t) i j p q = (
    λ (k, link, rest). let c = (chains i k p link.1).0 link.2 in after_chain c.0 t i k j p q c.1 c.2 ((own_links t k j link.1 q).0 rest),
    λ (k, link, rest). (k, (link.0, link.1, lone i k p link), (own_links t k j link.1 q).1 rest),
  )

-- what half the turns and one more cost
pub half_bound : (left half T before after : ℕ) → left ≡ half + half → 1 ≤ half → after ≤ before + T → after + half * T ≤ before + left * T
half_bound left half T before after e some h = rw e (let le = mul-le-mul_right T some in omega (arith, le, h))
