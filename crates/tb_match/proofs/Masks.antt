-- Rows of one machine word: places put in, moved one place on, and kept where a mask has them.
use Rattle.std.proofs.Common.{◌≡◌, ◌+◌, ◌-◌, ◌*◌, ◌/◌, ◌%◌, ◌^◌, ◌<◌, ◌≤◌, ◌≢◌, ◌↔◌, ◌⊎◌, ℕ, zero, suc, List, bit_and, bit_or, get_or, set, length, zero-add, arith, sym, ◌∙◌, ap, subst, inl, inr, ⊎_elim, refl, w64}
use Rattle.std.specs.Int.{bit_at, bit_not}
use Rattle.std.proofs.lemmas.Bool.{cases_eq, cases_lt}
use Rattle.std.proofs.lemmas.List.{get_or-set_same, get_or-set_other}
use Rattle.std.proofs.lemmas.Nat.{div-add-mod', shr-shr}
use Rattle.std.proofs.lemmas.Nat.Bits.{bit_at_or, bit_at_and, bit_at-lt, bit_at-zero, bit_at_above, bit_at_set_same, bit_at_set_other, bit_at_cat_low, bit_at_cat_high, bit_at_clear_same, bit_at_clear_other, bit_at_ones, bit_at_ones_above}
use Rattle.tb_match.specs.Bits.{InRow, InTable}
use Rattle.tb_match.specs.Match.{Chain}

pub with_bit : (bits place j : ℕ) → place < 64 → (bit_at (bit_or bits (1 * 2 ^ place % 2 ^ 64)) j ≡ 1) ↔ ((bit_at bits j ≡ 1) ⊎ (j ≡ place))
with_bit bits place j small = ⊎_elim
    (λ (e : j ≡ place). (λ _. inr e, λ _. rw e (bit_at_set_same w64 bits place small)))
    (λ (ne : j ≢ place).
    let o = bit_at_set_other w64 bits place small j ne in
    (λ h. inl (sym o ∙ h), λ h. ⊎_elim (λ p. o ∙ p) (λ p. absurd (ne p)) h))
    (cases_eq j place)

pub both_bits : (a b j : ℕ) → (bit_at (bit_and a b) j ≡ 1) ↔ ((bit_at a j ≡ 1) × (bit_at b j ≡ 1))
both_bits a b j =
    let e = bit_at_and a b j in
    let p = bit_at-lt a j in
    let q = bit_at-lt b j in
    (λ h. (omega (arith, e, p, q, h), omega (arith, e, p, q, h)), λ h. omega (arith, e, h.0, h.1))

pub either_bit : (a b j : ℕ) → (bit_at (bit_or a b) j ≡ 1) ↔ ((bit_at a j ≡ 1) ⊎ (bit_at b j ≡ 1))
either_bit a b j =
    let e = bit_at_or a b j in
    let p = bit_at-lt a j in
    let q = bit_at-lt b j in (
      λ h. ⊎_elim (λ x. inl x) (λ (ne : bit_at a j ≢ 1). inr (omega (arith, e, p, q, h))) (cases_eq (bit_at a j) 1),
      λ h. ⊎_elim (λ x. omega (arith, e, q, x)) (λ x. omega (arith, e, p, x)) h,
    )

low_bits : (m j : ℕ) → j < 64 → bit_at (m % 2 ^ 64) j ≡ bit_at m j
low_bits m j h =
    let whole : m ≡ m / 2 ^ 64 * 2 ^ 64 + m % 2 ^ 64 = omega (arith, div-add-mod' m (2 ^ 64)) in
    sym (ap (λ x. bit_at x j) whole ∙ bit_at_cat_low (m / 2 ^ 64) 64 (m % 2 ^ 64) j h)

pub shifted : (n j : ℕ) → j < 64 → (bit_at (n * 2 ^ 1 % 2 ^ 64) j ≡ 1) ↔ ((k : ℕ) × (j ≡ k + 1) × (bit_at n k ≡ 1))
shifted n zero h =
    let none : bit_at (n * 2 ^ 1 % 2 ^ 64) 0 ≡ 0 = low_bits (n * 2 ^ 1) 0 h ∙ ap (λ x. bit_at x 0) (let e : n * 2 ^ 1 ≡ n * 2 ^ 1 + 0 = omega arith in e) ∙ bit_at_cat_low n 1 0 0 (omega arith) ∙ bit_at-zero 0 in
    (λ one. absurd (omega (arith, none, one)), λ p. absurd (let e : 0 ≡ p.0 + 1 = p.1 in omega arith))
shifted n (suc i) h =
    let up : bit_at (n * 2 ^ 1 % 2 ^ 64) (suc i) ≡ bit_at n i = low_bits (n * 2 ^ 1) (suc i) h ∙ ap (λ x. bit_at x (suc i)) (let e : n * 2 ^ 1 ≡ n * 2 ^ 1 + 0 = omega arith in e) ∙ bit_at_cat_high n 1 0 (suc i) (omega arith) (omega arith) ∙ ap (bit_at n) (let e : suc i - 1 ≡ i = omega arith in e) in (
      λ one. (i, omega arith, sym up ∙ one),
      λ p. let e : p.0 ≡ i = (let f : suc i ≡ p.0 + 1 = p.1 in omega arith) in up ∙ subst (λ k. bit_at n k ≡ 1) e p.2,
    )

-- from a place of a row to the next one, where the mask has it
abbrev pub Onward : ℕ → ℕ → ℕ → Type 0
Onward row ends j = (k : ℕ) × (j ≡ k + 1) × (bit_at row k ≡ 1) × (bit_at ends j ≡ 1)

pub onward : (row ends j : ℕ) → j < 64 → (bit_at (bit_and (row * 2 ^ 1 % 2 ^ 64) ends) j ≡ 1) ↔ Onward row ends j
onward row ends j h =
    let b = both_bits (row * 2 ^ 1 % 2 ^ 64) ends j in
    let s = shifted row j h in (
      λ p. let q = b.0 p in let r = s.0 q.0 in (r.0, r.1, r.2, q.1),
      λ (k, e, p, q). b.1 (s.1 (k, e, p), q),
    )

-- one link over a word
abbrev pub Over : ℕ → ℕ → ℕ → Type 0
Over ends a b = (b ≡ a + 1) × (bit_at ends b ≡ 1)

-- from a place of a row over any number of words
abbrev pub Reach : ℕ → ℕ → ℕ → Type 0
Reach row ends j = (k : ℕ) × (bit_at row k ≡ 1) × ((n : ℕ) × Chain (λ a b. (b ≡ a + 1) × (bit_at ends b ≡ 1)) n k j)

over_end : (ends n k m j : ℕ) → Chain (Over ends) n k m → Over ends m j → Chain (Over ends) (suc n) k j
over_end ends zero k m j c r = (j, subst (λ x. Over ends x j) (sym c) r, refl)
over_end ends (suc n) k m j (x, s, rest) r = (x, s, over_end ends n x m j rest r)

pub over_forward : (ends n k j : ℕ) → Chain (Over ends) n k j → k ≤ j
over_forward ends zero k j c = omega arith
over_forward ends (suc n) k j (m, r, rest) = let e : m ≡ k + 1 = r.0 in omega (arith, over_forward ends n m j rest)

-- a row made one step longer still has only places that are reached
pub reach_more : (row all ends j : ℕ) → ((i : ℕ) → i < 64 → bit_at all i ≡ 1 → Reach row ends i) → j < 64 →
    ((bit_at all j ≡ 1) ⊎ Onward all ends j) → Reach row ends j
reach_more row all ends j sound h (inl p) = sound j h p
reach_more row all ends j sound h (inr (k, e, p, q)) =
    let r = sound k (omega arith) p in
    (r.0, r.1, (suc (r.2.0), over_end ends r.2.0 r.0 k j r.2.1 (e, q)))

-- a row that no step makes longer has every place that is reached
pub reach_all : (all ends : ℕ) → ((j : ℕ) → j < 64 → Onward all ends j → bit_at all j ≡ 1) → (n k j : ℕ) → j < 64 → bit_at all k ≡ 1 → Chain (Over ends) n k j → bit_at all j ≡ 1
reach_all all ends closed zero k j h p c = subst (λ x. bit_at all x ≡ 1) c p
reach_all all ends closed (suc n) k j h p (m, r, rest) =
    let short : m ≤ j = over_forward ends n m j rest in
    reach_all all ends closed n m j h (closed m (omega arith) (k, r.0, p, r.1)) rest

-- a table whose rows are one word each
pub in_one_word : (cells : List ℕ) (i j : ℕ) → j < 64 → InTable cells 1 i j ↔ (bit_at (get_or cells i 0) j ≡ 1)
unfolding InRow
in_one_word cells i j h =
    let p : i * 1 + j / 64 ≡ i = omega (arith, div-add-mod' j 64) in
    let q : j % 64 ≡ j = omega (arith, div-add-mod' j 64) in
    rw (p, q) (λ x. x, λ x. x)

-- a word has no place from 64 on
pub row_place : (row k : ℕ) → row < 2 ^ 64 → bit_at row k ≡ 1 → k < 64
row_place row k small p = ⊎_elim (λ lt. lt) (λ (ge : 64 ≤ k). let none = bit_at_above row 64 k small ge in absurd (omega (arith, none, p))) (cases_lt k 64)

-- rows of a table by the places of its words
module _ (T T' : List ℕ) (ends i j : ℕ) (h : j < 64) where
  pub stepped_row : (K : Type 0) → ((bit_at (get_or T' i 0) j ≡ 1) ↔ ((K × (bit_at (get_or T i 0) j ≡ 1)) ⊎ Onward (get_or T i 0) ends j)) →
      InTable T' 1 i j ↔ ((K × InTable T 1 i j) ⊎ ((k : ℕ) × (j ≡ k + 1) × InTable T 1 i k × (bit_at ends j ≡ 1)))
  stepped_row K step =
      let new = in_one_word T' i j h in
      let old = in_one_word T i in (
        λ p. ⊎_elim (λ a. inl (a.0, (old j h).1 a.1)) (λ (k, e, q, r). inr (k, e, (old k (omega arith)).1 q, r)) (step.0 (new.0 p)),
        λ p. new.1 (step.1 (⊎_elim (λ a. inl (a.0, (old j h).0 a.1)) (λ (k, e, q, r). inr (k, e, (old k (omega arith)).0 q, r)) p)),
      )

  pub run_row_of_word : ((bit_at (get_or T' i 0) j ≡ 1) ↔ Reach (get_or T i 0) ends j) →
      InTable T' 1 i j ↔ ((k : ℕ) × (k < 64) × InTable T 1 i k × ((n : ℕ) × Chain (λ a b. (b ≡ a + 1) × (bit_at ends b ≡ 1)) n k j))
  run_row_of_word run =
      let new = in_one_word T' i j h in
      let old = in_one_word T i in (
        λ p. let r = run.0 (new.0 p) in
            let short : r.0 ≤ j = over_forward ends r.2.0 r.0 j r.2.1 in
            let below : r.0 < 64 = omega arith in
            (r.0, below, (old r.0 below).1 r.1, r.2),
        λ (k, below, q, links). new.1 (run.1 (k, (old k below).0 q, links)),
      )

-- a word without the bit of a place
pub without_bit : (bits place j : ℕ) → place < 64 → j < 64 → (bit_at (bit_and bits (bit_not w64 (1 * 2 ^ place % 2 ^ 64))) j ≡ 1) ↔ ((bit_at bits j ≡ 1) × (j ≢ place))
without_bit bits place j small h = ⊎_elim
    (λ (e : j ≡ place).
    let none : bit_at (bit_and bits (bit_not w64 (1 * 2 ^ place % 2 ^ 64))) j ≡ 0 = rw e (bit_at_clear_same w64 bits place small) in
    (λ p. absurd (omega (arith, none, p)), λ p. absurd (p.1 e)))
    (λ (ne : j ≢ place).
    let o = bit_at_clear_other w64 bits place small j h ne in
    (λ p. (sym o ∙ p, ne), λ p. o ∙ p.0))
    (cases_eq j place)

-- a word without its highest bits
pub bits_to : (row last j : ℕ) → last < 64 → j < 64 → (bit_at (bit_and row ((2 ^ 64 - 1) / 2 ^ (63 - last))) j ≡ 1) ↔ ((bit_at row j ≡ 1) × (j ≤ last))
bits_to row last j short h =
    let s : ℕ = 63 - last in
    let b = both_bits row ((2 ^ 64 - 1) / 2 ^ s) j in
    let moved : bit_at ((2 ^ 64 - 1) / 2 ^ s) j ≡ bit_at (2 ^ 64 - 1) (s + j) = ap (λ x. x % 2) (shr-shr (2 ^ 64 - 1) s j) in
    ⊎_elim
    (λ (le : j < last + 1).
    let one = bit_at_ones 64 (s + j) (omega arith) in
    (λ p. ((b.0 p).0, omega arith), λ p. b.1 (p.0, moved ∙ one)))
    (λ (gt : last + 1 ≤ j).
    let none = bit_at_ones_above 64 (s + j) (omega arith) in
    (λ p. absurd (omega (arith, moved, none, (b.0 p).1)), λ p. absurd (let le : j ≤ last = p.1 in omega arith)))
    (cases_lt j (last + 1))

same_place : (a b : ℕ) → a / 64 ≡ b / 64 → a % 64 ≡ b % 64 → a ≡ b
same_place a b p q = omega (arith, div-add-mod' a 64, div-add-mod' b 64)

-- a row without a place, whose word was written
pub row_without : (row : List ℕ) (place v j : ℕ) → place / 64 < length row →
    ((b : ℕ) → b < 64 → (bit_at v b ≡ 1) ↔ ((bit_at (get_or row (place / 64) 0) b ≡ 1) × (b ≢ place % 64))) →
    InRow (set row (place / 64) v) 0 j ↔ (InRow row 0 j × (j ≢ place))
unfolding InRow
row_without row place v j short made = ⊎_elim same other (cases_eq (j / 64) (place / 64))
  where
    inside : j % 64 < 64
    inside = omega (arith, div-add-mod' j 64)

    same : j / 64 ≡ place / 64 → (bit_at (get_or (set row (place / 64) v) (0 + j / 64) 0) (j % 64) ≡ 1) ↔ ((bit_at (get_or row (0 + j / 64) 0) (j % 64) ≡ 1) × (j ≢ place))
    same e =
        let m = made (j % 64) inside in
        rw (zero-add, e, get_or-set_same row (place / 64) v 0 short) (
          λ h. let p = m.0 h in (p.0, λ same. p.1 (ap (λ x. x % 64) same)),
          λ h. m.1 (h.0, λ q. h.1 (same_place j place e q)),
        )

    other : j / 64 ≢ place / 64 → (bit_at (get_or (set row (place / 64) v) (0 + j / 64) 0) (j % 64) ≡ 1) ↔ ((bit_at (get_or row (0 + j / 64) 0) (j % 64) ≡ 1) × (j ≢ place))
    other ne =
        let e = ap (λ n. bit_at n (j % 64)) (get_or-set_other row (place / 64) (0 + j / 64) v 0 (λ q. ne (sym (zero-add (j / 64)) ∙ q))) in
        (λ h. (sym e ∙ h, λ same. ne (ap (λ x. x / 64) same)), λ h. e ∙ h.0)
