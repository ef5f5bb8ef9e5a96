-- What a pattern matches, by its parts.
use Rattle.std.proofs.Common.{◌≡◌, ◌+◌, ◌*◌, ◌<◌, ◌≤◌, ◌↔◌, ◌⊎◌, ℕ, zero, suc, List, Option, arith, subst, inl, inr, ⊎_elim}
use Rattle.tb_match.specs.Bits.{InTable, Link}
use Rattle.tb_match.specs.Facts.{Facts, Holds}
use Rattle.tb_match.specs.Match.{Chain, Match, EachInTurn, AnyOf, IsAtMost}
use Rattle.tb_match.specs.Trees.{Tree, tok, cat, alt, rep, Forest, no_more, and_more}
use Rattle.tb_match.proofs.Chains.{chain_of}

chain_within : (n : ℕ) (R : ℕ → ℕ → Type 0) → ((a b : ℕ) → a ≤ n → R a b → (a ≤ b) × (b ≤ n)) → (k i j : ℕ) → i ≤ n → Chain R k i j → (i ≤ j) × (j ≤ n)
chain_within n R f zero i j h e = (omega arith, omega arith)
chain_within n R f (suc k) i j h (m, r, rest) =
    let a = f i m h r in
    let b = chain_within n R f k m j a.1 rest in
    let p : i ≤ m = a.0 in
    let q : m ≤ j = b.0 in
    (omega arith, b.1)

module _ (n : ℕ) (H : ℕ → ℕ → Type 0) (inside : (e w : ℕ) → H e w → w ≤ n) where
  mutual
    -- a match leads forward, and stays within the sentence
    pub within : (p : Tree) (i j : ℕ) → i ≤ n → Match H p i j → (i ≤ j) × (j ≤ n)
    within (tok e) i j h m = (let q : j ≡ i + 1 = m.0 in omega arith, inside e j m.1)
    within (cat parts) i j h m = within_turn parts i j h m
    within (alt parts) i j h m = within_some parts i j h m
    within (rep p a b) i j h m = chain_within n (Match H p) (within p) m.0 i j h m.3

    within_turn : (parts : Forest) (i j : ℕ) → i ≤ n → EachInTurn H parts i j → (i ≤ j) × (j ≤ n)
    within_turn no_more i j h e = (omega arith, omega arith)
    within_turn (and_more p rest) i j h (m, x, y) =
        let a = within p i m h x in
        let b = within_turn rest m j a.1 y in
        let p1 : i ≤ m = a.0 in
        let q1 : m ≤ j = b.0 in
        (omega arith, b.1)

    within_some : (parts : Forest) (i j : ℕ) → i ≤ n → AnyOf H parts i j → (i ≤ j) × (j ≤ n)
    within_some no_more i j h e = absurd e
    within_some (and_more p rest) i j h (inl x) = within p i j h x
    within_some (and_more p rest) i j h (inr y) = within_some rest i j h y

-- chains of the links of a table are chains of matches
module _ (n w : ℕ) (L : List ℕ) (H : ℕ → ℕ → Type 0) (inside : (e w : ℕ) → H e w → w ≤ n) (p : Tree)
    (rows : (i j : ℕ) → i ≤ n → j ≤ n → InTable L w i j ↔ Match H p i j) where
  pub links_to : (k i j : ℕ) → i ≤ n → Chain (Link L w n) k i j → Chain (Match H p) k i j
  links_to k i j h c = (chain_of (Link L w n) (Match H p) (λ a. a ≤ n) (λ a b q r. ((rows a b q r.1).0 r.2, r.1)) k i j h c).0

  pub links_from : (k i j : ℕ) → i ≤ n → Chain (Match H p) k i j → Chain (Link L w n) k i j
  links_from k i j h c = (chain_of (Match H p) (Link L w n) (λ a. a ≤ n) (λ a b q r. let s = within n H inside p a b q r in ((s.0, s.1, (rows a b q s.1).1 r), s.1)) k i j h c).0

-- the first part of a sequence
module _ (n w : ℕ) (T : List ℕ) (H : ℕ → ℕ → Type 0) (inside : (e w : ℕ) → H e w → w ≤ n) (p : Tree) (rest : Forest)
    (rows : (i j : ℕ) → i ≤ n → j ≤ n → InTable T w i j ↔ Match H p i j) where
  pub first_forward : (i j : ℕ) → i ≤ n → j ≤ n → InTable T w i j → i ≤ j
  first_forward i j a b t = (within n H inside p i j a ((rows i j a b).0 t)).0

  pub first_rows : (i j : ℕ) → i ≤ n → j ≤ n → ((m : ℕ) × (m ≤ n) × InTable T w i m × EachInTurn H rest m j) ↔ EachInTurn H (and_more p rest) i j
  first_rows i j a b = (
    λ (m, le, t, r). (m, (rows i m a le).0 t, r),
    λ (m, x, r). let s = within n H inside p i m a x in (m, s.1, (rows i m a s.1).1 x, r),
  )

pub bound_after_first : (start after w rest T all : ℕ) → all ≡ w + 1 + rest → after ≤ start + w * T → after + rest * T ≤ start + all * T
bound_after_first start after w rest T all e step = rw e (omega arith)

-- one more part of a sequence
module _ (n w : ℕ) (T T' : List ℕ) (H : ℕ → ℕ → Type 0) (inside : (e w : ℕ) → H e w → w ≤ n) (p : Tree) (rest all : Forest)
    (forward : (i j : ℕ) → i ≤ n → j ≤ n → InTable T w i j → i ≤ j)
    (made : (i j : ℕ) → i ≤ n → j ≤ n → InTable T' w i j ↔ ((k : ℕ) × (k ≤ n) × InTable T w i k × Match H p k j))
    (so_far : (i j : ℕ) → i ≤ n → j ≤ n → ((m : ℕ) × (m ≤ n) × InTable T w i m × EachInTurn H (and_more p rest) m j) ↔ EachInTurn H all i j) where
  pub sequence_forward : (i j : ℕ) → i ≤ n → j ≤ n → InTable T' w i j → i ≤ j
  sequence_forward i j a b t = of_part ((made i j a b).0 t)
    where
      of_part : ((k : ℕ) × (k ≤ n) × InTable T w i k × Match H p k j) → i ≤ j
      of_part (k, le, link, m) =
          let f : i ≤ k = forward i k a le link in
          let g : k ≤ j = (within n H inside p k j le m).0 in omega arith

  pub sequence_more : (i j : ℕ) → i ≤ n → j ≤ n → ((m : ℕ) × (m ≤ n) × InTable T' w i m × EachInTurn H rest m j) ↔ EachInTurn H all i j
  sequence_more i j a b = (there, back)
    where
      there : ((m : ℕ) × (m ≤ n) × InTable T' w i m × EachInTurn H rest m j) → EachInTurn H all i j
      there (m, le, t, r) = middle m r ((made i m a le).0 t)
        where
          middle : (m : ℕ) → EachInTurn H rest m j → ((k : ℕ) × (k ≤ n) × InTable T w i k × Match H p k m) → EachInTurn H all i j
          middle m r (k, in_k, link, x) = (so_far i j a b).0 (k, in_k, link, (m, x, r))

      back : EachInTurn H all i j → (m : ℕ) × (m ≤ n) × InTable T' w i m × EachInTurn H rest m j
      back h = from_parts ((so_far i j a b).1 h)
        where
          from_parts : ((m : ℕ) × (m ≤ n) × InTable T w i m × EachInTurn H (and_more p rest) m j) → (m : ℕ) × (m ≤ n) × InTable T' w i m × EachInTurn H rest m j
          from_parts (k, le, link, (m, x, r)) =
              let s = within n H inside p k m le x in
              (m, s.1, (made i m a s.1).1 (k, le, link, x), r)

-- the rows of a repetition, from those of what it repeats
module _ (t : Facts) (n w : ℕ) (same : n ≡ t.words) (L V : List ℕ) (p : Tree) (a : ℕ) (b : Option ℕ)
    (links : (i j : ℕ) → i ≤ t.words → j ≤ t.words → InTable L w i j ↔ Match (Holds t) p i j)
    (made : (i j : ℕ) → i ≤ n → j ≤ n → InTable V w i j ↔ ((k : ℕ) × (a ≤ k) × IsAtMost k b × Chain (Link L w n) k i j)) where
  linked : (i j : ℕ) → i ≤ n → j ≤ n → InTable L w i j ↔ Match (Holds t) p i j
  linked i j x y = links i j (omega arith) (omega arith)

  known : (e w : ℕ) → Holds t e w → w ≤ n
  known e w h = let le : w ≤ t.words = h.1 in omega arith

  pub repetition_rows : (i j : ℕ) → i ≤ t.words → j ≤ t.words → InTable V w i j ↔ ((k : ℕ) × (a ≤ k) × IsAtMost k b × Chain (Match (Holds t) p) k i j)
  repetition_rows i j x y =
      let here : i ≤ n = omega arith in
      let m = made i j here (omega arith) in (
        λ h. let c = m.0 h in (c.0, c.1, c.2, links_to n w L (Holds t) known p linked c.0 i j here c.3),
        λ c. m.1 (c.0, c.1, c.2, links_from n w L (Holds t) known p linked c.0 i j here c.3),
      )

-- one more part of a choice
pub choice_more : (H : ℕ → ℕ → Type 0) (w i j : ℕ) (T N T' : List ℕ) (p : Tree) (rest all : Forest) →
    (InTable T' w i j ↔ (InTable T w i j ⊎ InTable N w i j)) → (InTable N w i j ↔ Match H p i j) →
    ((InTable T w i j ⊎ AnyOf H (and_more p rest) i j) ↔ AnyOf H all i j) → (InTable T' w i j ⊎ AnyOf H rest i j) ↔ AnyOf H all i j
choice_more H w i j T N T' p rest all made rows so_far = (λ h. so_far.0 (there h), λ h. back (so_far.1 h))
  where
    there : (InTable T' w i j ⊎ AnyOf H rest i j) → (InTable T w i j ⊎ AnyOf H (and_more p rest) i j)
    there (inl h) = ⊎_elim (λ a. inl a) (λ b. inr (inl (rows.0 b))) (made.0 h)
    there (inr h) = inr (inr h)

    back : (InTable T w i j ⊎ AnyOf H (and_more p rest) i j) → (InTable T' w i j ⊎ AnyOf H rest i j)
    back (inl h) = inl (made.1 (inl h))
    back (inr (inl h)) = inl (made.1 (inr (rows.1 h)))
    back (inr (inr h)) = inr h

-- steps that are left for a part of a pattern, of what the whole may cost: T for each unit of weight
pub room_after : (limit before after w v T all : ℕ) → all ≡ w + v → after ≤ before + w * T → before + all * T < limit → after + v * T < limit
room_after limit before after w v T all e h q =
    let f : before + (w + v) * T < limit = subst (λ n. before + n * T < limit) e q in omega arith

pub room_for_part : (limit start before w rest T all ahead : ℕ) → ahead ≡ w + 1 + rest → before + ahead * T ≤ start + all * T → start + all * T < limit → before + w * T < limit
room_for_part limit start before w rest T all ahead e h q =
    let f : before + (w + 1 + rest) * T ≤ start + all * T = subst (λ n. before + n * T ≤ start + all * T) e h in omega arith

pub room_for_next : (limit start before w rest T all ahead : ℕ) → ahead ≡ w + 1 + rest → before + ahead * T ≤ start + all * T → start + all * T < limit → before + (w + 1) * T < limit
room_for_next limit start before w rest T all ahead e h q =
    let f : before + (w + 1 + rest) * T ≤ start + all * T = subst (λ n. before + n * T ≤ start + all * T) e h in omega arith

pub room_after_part : (limit start before after w rest T all ahead more : ℕ) → ahead ≡ w + 1 + rest → before + ahead * T ≤ start + all * T → after ≤ before + w * T → more ≤ T → start + all * T < limit → after + more < limit
room_after_part limit start before after w rest T all ahead more e h step small q =
    let f : before + (w + 1 + rest) * T ≤ start + all * T = subst (λ n. before + n * T ≤ start + all * T) e h in omega arith

pub bound_after_part : (start before after end w rest T all ahead : ℕ) → ahead ≡ w + 1 + rest → before + ahead * T ≤ start + all * T → after ≤ before + w * T → end ≤ after + T → end + rest * T ≤ start + all * T
bound_after_part start before after end w rest T all ahead e h step last =
    let f : before + (w + 1 + rest) * T ≤ start + all * T = subst (λ n. before + n * T ≤ start + all * T) e h in omega arith

pub room_within : (limit start w v T all : ℕ) → all ≡ w + v → start + all * T < limit → start + w * T < limit
room_within limit start w v T all e q = let f : start + (w + v) * T < limit = subst (λ n. start + n * T < limit) e q in omega arith

pub bound_of_both : (start between end w v T all : ℕ) → all ≡ w + v → between ≤ start + w * T → end ≤ between + v * T → end ≤ start + all * T
bound_of_both start between end w v T all e first second = rw e (omega arith)
