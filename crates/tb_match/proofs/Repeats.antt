-- Links put before a relation many times are chains.
use Rattle.std.proofs.Common.{◌≡◌, ◌+◌, ◌-◌, ◌*◌, ◌≤◌, ◌↔◌, ℕ, zero, suc, List, Option, arith, sym, ap, subst, refl, add-mul, take, drop, ◌++◌, length}
use Rattle.std.proofs.lemmas.List.{take_at}
use Rattle.tb_match.specs.Bits.{InTable, Link, Repeated}
use Rattle.tb_match.specs.Match.{Chain, IsAtMost}
use Rattle.tb_match.proofs.Chains.{chain_join, chain_split}
use Rattle.tb_match.proofs.Limits.{chain_ends}

module _ (L T : List ℕ) (w last : ℕ) where
  abbrev link : ℕ → ℕ → Type 0
  link = Link L w last

  pub after_to : (t i j : ℕ) → Repeated L T w last t i j → (m : ℕ) × Chain link t i m × InTable T w m j
  after_to zero i j h = (i, refl, h)
  after_to (suc t) i j (k, l, rest) = let r = after_to t k j rest in (r.0, (k, l, r.1), r.2)

  pub after_from : (t i j m : ℕ) → Chain link t i m → InTable T w m j → Repeated L T w last t i j
  after_from zero i j m e h = subst (λ x. InTable T w x j) (sym e) h
  after_from (suc t) i j m (k, l, rest) h = (k, l, after_from t k j m rest h)

-- in turn: a fixed number of links, and then a chain of some more
module _ (L T : List ℕ) (w last m a : ℕ) (b : Option ℕ) (least : m ≤ a)
    (rows : (i j : ℕ) → i ≤ last → j ≤ last → InTable T w i j ↔ ((k : ℕ) × (a ≤ m + k) × IsAtMost (m + k) b × Chain (Link L w last) k i j)) where
  pub repeated : (i j : ℕ) → i ≤ last → j ≤ last → Repeated L T w last m i j ↔ ((k : ℕ) × (a ≤ k) × IsAtMost k b × Chain (Link L w last) k i j)
  repeated i j p q = (there, back)
    where
      there : Repeated L T w last m i j → (k : ℕ) × (a ≤ k) × IsAtMost k b × Chain (Link L w last) k i j
      there h =
          let r = after_to L T w last m i j h in
          let n = (rows r.0 j (chain_ends L w last m i r.0 p r.1) q).0 r.2 in
          (m + n.0, n.1, n.2, chain_join (Link L w last) m n.0 i r.0 j r.1 n.3)

      back : ((k : ℕ) × (a ≤ k) × IsAtMost k b × Chain (Link L w last) k i j) → Repeated L T w last m i j
      back (k, le, most, c) =
          let e : k ≡ m + (k - m) = omega arith in
          let s = chain_split (Link L w last) m (k - m) i j (subst (λ x. Chain (Link L w last) x i j) e c) in
          after_from L T w last m i j s.0 s.1 ((rows s.0 j (chain_ends L w last m i s.0 p s.1) q).1 (k - m, omega arith, subst (λ x. IsAtMost x b) e most, s.2))

pub turns_some : (a b t : ℕ) → a ≤ b → (b - a + 1) * t + a * t ≡ (b + 1) * t
turns_some a b t le = let e : b ≡ a + (b - a) = omega arith in rw (← add-mul) (ap (λ x. x * t) (let f : b - a + 1 + a ≡ b + 1 = omega arith in f))

-- a slice that was lent whole by a vector, and handed back
pub lent : (n : ℕ) (new old : List ℕ) → n ≡ length new → take n (new ++ drop (length new) old) ≡ new
lent n new old e = take_at new (drop (length new) old) n (sym e)
