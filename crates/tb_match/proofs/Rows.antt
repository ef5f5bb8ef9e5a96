-- Places of bit rows, after a write and after a union.
use Rattle.std.proofs.Common.{◌≡◌, ◌+◌, ◌-◌, ◌*◌, ◌/◌, ◌%◌, ◌^◌, ◌<◌, ◌≤◌, ◌≢◌, ◌↔◌, ◌⊎◌, ℕ, length, List, bit_or, get_or, take, drop, max, arith, ◌∙◌, sym, ap, subst, inl, inr, ⊎_elim, refl, zero-add, set, w64, ◌++◌, replicate}
use Rattle.std.specs.Int.{bit_at}
use Rattle.std.specs.Simd.Lanes.{zip2}
use Rattle.std.proofs.lemmas.Simd.{get_or-zip2}
use Rattle.std.proofs.lemmas.List.{get_or-take, get_or-drop, get_or-set_same, get_or-set_other, get_or-replicate, length-take, length-drop, length-replicate, get_or-append_right, get_or_append_left, get_or_past}
use Rattle.std.proofs.lemmas.Bool.{cases_lt, cases_eq, cases_order}
use Rattle.std.proofs.lemmas.Nat.Bits.{bit_at_or, bit_at-lt, bit_at_set_same, bit_at_set_other, bit_at-zero}
use Rattle.std.proofs.lemmas.Nat.{div-add-mod'}
use Rattle.std.proofs.Math.Nat.{mul-le-mul_right}
use borrow.Rule.Slice.PartMut.{put_mid}
use Rattle.tb_match.specs.Bits.{InRow, InTable, Through}

pub InRow_unite : (xs ys : List ℕ) (j : ℕ) → length xs ≡ length ys → j / 64 < length xs → InRow (zip2 bit_or xs ys) 0 j ↔ (InRow xs 0 j ⊎ InRow ys 0 j)
unfolding InRow
InRow_unite xs ys j same short =
    let at = 0 + j / 64 in
    let a = bit_at (get_or xs at 0) (j % 64) in
    let b = bit_at (get_or ys at 0) (j % 64) in
    let e : bit_at (get_or (zip2 bit_or xs ys) at 0) (j % 64) ≡ max a b =
    ap (λ n. bit_at n (j % 64)) (get_or-zip2 bit_or xs ys at 0 0 0 (omega arith) (omega arith)) ∙ bit_at_or (get_or xs at 0) (get_or ys at 0) (j % 64) in
    (λ h. one_of a b (bit_at-lt (get_or xs at 0) (j % 64)) (sym e ∙ h), λ h. e ∙ is_one a b (bit_at-lt (get_or xs at 0) (j % 64)) (bit_at-lt (get_or ys at 0) (j % 64)) h)
  where
    one_of : (a b : ℕ) → a < 2 → max a b ≡ 1 → (a ≡ 1) ⊎ (b ≡ 1)
    one_of a b lt h = ⊎_elim (λ e. inl e) (λ (ne : a ≢ 1). inr (omega arith)) (cases_eq a 1)

    is_one : (a b : ℕ) → a < 2 → b < 2 → (a ≡ 1) ⊎ (b ≡ 1) → max a b ≡ 1
    is_one a b p q h = ⊎_elim (λ e. omega arith) (λ e. omega arith) h

pub get_or_part : (xs : List ℕ) (base size q : ℕ) → q < size → get_or (take size (drop base xs)) (0 + q) 0 ≡ get_or xs (base + q) 0
get_or_part xs base size q h = ap (λ i. get_or (take size (drop base xs)) i 0) (zero-add q) ∙ get_or-take size (drop base xs) q 0 h ∙ get_or-drop base xs q 0

pub InRow_part : (xs : List ℕ) (base size j : ℕ) → j / 64 < size → InRow (take size (drop base xs)) 0 j ↔ InRow xs base j
unfolding InRow
InRow_part xs base size j h =
    let e = ap (λ n. bit_at n (j % 64)) (get_or_part xs base size (j / 64) h) in
    (λ p. sym e ∙ p, λ p. e ∙ p)

same_place : (a b : ℕ) → a / 64 ≡ b / 64 → a % 64 ≡ b % 64 → a ≡ b
same_place a b p q = omega (arith, div-add-mod' a 64, div-add-mod' b 64)

abbrev put_bit : List ℕ → ℕ → List ℕ
put_bit xs place = set xs (place / 64) (bit_or (get_or xs (place / 64) 0) (1 * 2 ^ (place % 64) % 2 ^ 64))

abbrev Bit : List ℕ → ℕ → Type 0
Bit xs j = bit_at (get_or xs (0 + j / 64) 0) (j % 64) ≡ 1

module _ (xs : List ℕ) (place j : ℕ) (short : place / 64 < length xs) where
  same_bit : j ≡ place → Bit (put_bit xs place) j
  same_bit e = rw (e, zero-add, get_or-set_same) (bit_at_set_same w64 (get_or xs (place / 64) 0) (place % 64) (omega arith))

  other_bit : j ≢ place → bit_at (get_or (put_bit xs place) (0 + j / 64) 0) (j % 64) ≡ bit_at (get_or xs (0 + j / 64) 0) (j % 64)
  other_bit ne = ⊎_elim same_word other_word (cases_eq (j / 64) (place / 64))
    where
      same_word : j / 64 ≡ place / 64 → bit_at (get_or (put_bit xs place) (0 + j / 64) 0) (j % 64) ≡ bit_at (get_or xs (0 + j / 64) 0) (j % 64)
      same_word e =
          let apart : j % 64 ≢ place % 64 = λ p. ne (same_place j place e p) in
          rw (zero-add, e, get_or-set_same) (bit_at_set_other w64 (get_or xs (place / 64) 0) (place % 64) (omega arith) (j % 64) apart)

      other_word : j / 64 ≢ place / 64 → bit_at (get_or (put_bit xs place) (0 + j / 64) 0) (j % 64) ≡ bit_at (get_or xs (0 + j / 64) 0) (j % 64)
      other_word apart =
          ap (λ n. bit_at n (j % 64)) (get_or-set_other xs (place / 64) (0 + j / 64) _ 0 (λ e. apart (sym (zero-add (j / 64)) ∙ e)))

  pub InRow_put : InRow (put_bit xs place) 0 j ↔ (InRow xs 0 j ⊎ (j ≡ place))
  unfolding InRow
  InRow_put = ⊎_elim
      (λ e. (λ _. inr e, λ _. same_bit e))
      (λ (ne : j ≢ place). (λ h. inl (sym (other_bit ne) ∙ h), λ h. ⊎_elim (λ p. other_bit ne ∙ p) (λ p. absurd (ne p)) h))
      (cases_eq j place)

below_or_at : (k n : ℕ) → k < n + 1 → (k < n) ⊎ (k ≡ n)
below_or_at k n h = ⊎_elim (λ lt. inl lt) (λ le. inr (omega arith)) (cases_lt k n)

-- one more place is looked at: its row is united where a link leads there
module _ (L T spare0 spare spare' : List ℕ) (w i k j : ℕ) (from : i ≤ k) (so_far : InRow spare 0 j ↔ (InRow spare0 0 j ⊎ Through L T w i k j)) where
  pub gather_yes : InTable L w i k → (InRow spare' 0 j ↔ (InRow spare 0 j ⊎ InTable T w k j)) → InRow spare' 0 j ↔ (InRow spare0 0 j ⊎ Through L T w i (k + 1) j)
  gather_yes link united =
      (λ h. ⊎_elim (λ p. widen (so_far.0 p)) (λ p. inr (k, from, omega arith, link, p)) (united.0 h), λ h. united.1 (narrow h))
    where
      widen : (InRow spare0 0 j ⊎ Through L T w i k j) → (InRow spare0 0 j ⊎ Through L T w i (k + 1) j)
      widen (inl p) = inl p
      widen (inr (m, a, b, c, d)) = inr (m, a, omega arith, c, d)

      narrow : (InRow spare0 0 j ⊎ Through L T w i (k + 1) j) → (InRow spare 0 j ⊎ InTable T w k j)
      narrow (inl p) = inl (so_far.1 (inl p))
      narrow (inr (m, a, b, c, d)) = ⊎_elim (λ lt. inl (so_far.1 (inr (m, a, lt, c, d)))) (λ e. inr (subst (λ x. InTable T w x j) e d)) (below_or_at m k b)

-- places that no link leads to are passed over, as are those whose rows the row has already
pub gather_over : (L T spare0 spare : List ℕ) (w i k n j : ℕ) → k ≤ n →
    ((m : ℕ) → k ≤ m → m < n → InTable L w i m → InTable T w m j → InRow spare 0 j) →
    (InRow spare 0 j ↔ (InRow spare0 0 j ⊎ Through L T w i k j)) → InRow spare 0 j ↔ (InRow spare0 0 j ⊎ Through L T w i n j)
gather_over L T spare0 spare w i k n j le known so_far = (λ h. widen (so_far.0 h), λ h. narrow h)
  where
    widen : (InRow spare0 0 j ⊎ Through L T w i k j) → (InRow spare0 0 j ⊎ Through L T w i n j)
    widen (inl p) = inl p
    widen (inr (m, a, b, c, d)) = inr (m, a, omega arith, c, d)

    narrow : (InRow spare0 0 j ⊎ Through L T w i n j) → InRow spare 0 j
    narrow (inl p) = so_far.1 (inl p)
    narrow (inr (m, a, b, c, d)) = ⊎_elim (λ lt. so_far.1 (inr (m, a, lt, c, d))) (λ ge. known m ge b c d) (cases_lt m k)

-- the union with row k of a table
pub united_row : (spare spare' T : List ℕ) (w k j n : ℕ) → length spare ≡ w → n ≡ w → j / 64 < w → k * w + w ≤ length T → spare' ≡ zip2 bit_or spare (take n (drop (k * w) T)) → InRow spare' 0 j ↔ (InRow spare 0 j ⊎ InTable T w k j)
united_row spare spare' T w k j n wide size short room e =
    let part = take n (drop (k * w) T) in
    let long : length part ≡ n = simp (length-take, length-drop) (omega arith) in
    let u = InRow_unite spare part j (omega arith) (omega arith) in
    let p = InRow_part T (k * w) n j (omega arith) in (
      λ h. ⊎_elim (λ a. inl a) (λ b. inr (p.0 b)) (u.0 (subst (λ xs. InRow xs 0 j) e h)),
      λ h. subst (λ xs. InRow xs 0 j) (sym e) (u.1 (⊎_elim (λ a. inl a) (λ b. inr (p.1 b)) h)),
    )

pub row_size : (k w : ℕ) → (k + 1) * w - k * w ≡ w
row_size k w = omega arith

pub row_room : (k last w : ℕ) → k < last + 1 → k * w + w ≤ (last + 1) * w
row_room k last w h = let e : k + 1 ≤ last + 1 = omega arith in omega (arith, mul-le-mul_right w e)

pub word_of : (j last w : ℕ) → j ≤ last → last / 64 < w → j / 64 < w
word_of j last w h wide = omega (arith, div-add-mod' j 64, div-add-mod' last 64)

-- a row that was written over, in a table
module _ (T ys : List ℕ) (a k : ℕ) (inside : a ≤ length T) where
  front : length (take a T) ≡ a
  front = simp length-take (omega arith)

  written_at : (q : ℕ) → q < length ys → get_or (put_mid a k T ys) (a + q) 0 ≡ get_or ys q 0
  written_at q h =
      get_or-append_right (take a T) (ys ++ drop k (drop a T)) a (a + q) 0 front (omega arith)
      ∙ ap (λ i. get_or (ys ++ drop k (drop a T)) i 0) (let e : a + q - a ≡ q = omega arith in e)
      ∙ get_or_append_left ys (drop k (drop a T)) 0 q h

  written_before : (q : ℕ) → q < a → get_or (put_mid a k T ys) q 0 ≡ get_or T q 0
  written_before q h =
      get_or_append_left (take a T) (ys ++ drop k (drop a T)) 0 q (omega (arith, front))
      ∙ get_or-take a T q 0 h

  written_after : (q : ℕ) → length ys ≡ k → a + k ≤ q → get_or (put_mid a k T ys) q 0 ≡ get_or T q 0
  written_after q long h =
      get_or-append_right (take a T) (ys ++ drop k (drop a T)) a q 0 front (omega arith)
      ∙ get_or-append_right ys (drop k (drop a T)) k (q - a) 0 long (omega arith)
      ∙ get_or-drop k (drop a T) (q - a - k) 0
      ∙ get_or-drop a T (k + (q - a - k)) 0
      ∙ ap (λ i. get_or T i 0) (let e : a + (k + (q - a - k)) ≡ q = omega arith in e)

module _ (T ys : List ℕ) (a k w p j : ℕ) (at : a ≡ p * w) (size : k ≡ w) (long : length ys ≡ w) (short : j / 64 < w) (room : p * w + w ≤ length T) where
  pub row_written : InTable (put_mid a k T ys) w p j ↔ InRow ys 0 j
  unfolding InRow
  row_written =
      let e : get_or (put_mid a k T ys) (p * w + j / 64) 0 ≡ get_or ys (0 + j / 64) 0 =
      ap (λ b. get_or (put_mid a k T ys) (b + j / 64) 0) (sym at) ∙ written_at T ys a k (omega arith) (j / 64) (omega arith) ∙ ap (λ i. get_or ys i 0) (sym (zero-add (j / 64))) in
      let f = ap (λ n. bit_at n (j % 64)) e in
      (λ h. sym f ∙ h, λ h. f ∙ h)

  pub row_kept : (i : ℕ) → i ≢ p → InTable (put_mid a k T ys) w i j ↔ InTable T w i j
  unfolding InRow
  row_kept i ne =
      let f = ap (λ n. bit_at n (j % 64)) (⊎_elim before after (cases_lt i p)) in
      (λ h. sym f ∙ h, λ h. f ∙ h)
    where
      before : i < p → get_or (put_mid a k T ys) (i * w + j / 64) 0 ≡ get_or T (i * w + j / 64) 0
      before lt =
          let le : i + 1 ≤ p = omega arith in
          written_before T ys a k (omega arith) (i * w + j / 64) (omega (arith, mul-le-mul_right w le))

      after : p ≤ i → get_or (put_mid a k T ys) (i * w + j / 64) 0 ≡ get_or T (i * w + j / 64) 0
      after ge =
          let le : p + 1 ≤ i = ⊎_elim (λ e. absurd (ne (sym e))) (λ h. ⊎_elim (λ l. omega arith) (λ g. omega arith) h) (cases_order p i) in
          written_after T ys a k (omega arith) (i * w + j / 64) (omega arith) (omega (arith, mul-le-mul_right w le))

-- the row that a sweep writes
pub InRow_zero : (n j : ℕ) → InRow (replicate n 0) 0 j → ⊥
unfolding InRow
InRow_zero n j h = ⊎_elim
    (λ (lt : 0 + j / 64 < n). absurd (one_not_zero (sym h ∙ ap (λ x. bit_at x (j % 64)) (get_or-replicate n (0 + j / 64) 0 0 lt) ∙ bit_at-zero (j % 64))))
    (λ (ge : n ≤ 0 + j / 64). absurd (one_not_zero (sym h ∙ ap (λ x. bit_at x (j % 64)) (get_or_past (replicate n 0) (0 + j / 64) 0 (rw length-replicate ge)) ∙ bit_at-zero (j % 64))))
    (cases_lt (0 + j / 64) n)
  where
    one_not_zero : ◌≡◌ {A = ℕ} 1 0 → ⊥
    one_not_zero e = omega arith

pub begun_with : (fresh row : List ℕ) (place j : ℕ) → (InRow fresh 0 j → ⊥) → (InRow row 0 j ↔ (InRow fresh 0 j ⊎ (j ≡ place))) → InRow row 0 j ↔ (j ≡ place)
begun_with fresh row place j none made = (λ h. ⊎_elim (λ p. absurd (none p)) (λ e. e) (made.0 h), λ p. made.1 (inr p))

pub cleared : (row : List ℕ) (n j : ℕ) → row ≡ replicate n 0 → InRow row 0 j → ⊥
cleared row n j zeros h = InRow_zero n j (subst (λ xs. InRow xs 0 j) zeros h)

pub part_long : (T : List ℕ) (p w n : ℕ) → n ≡ w → p * w + w ≤ length T → length (take n (drop (p * w) T)) ≡ n
part_long T p w n size room = simp (length-take, length-drop) (omega arith)

-- a row of T that was united with that of O, in its place
pub merged_row : (T O made : List ℕ) (w p j m n : ℕ) → m ≡ w → n ≡ w → j / 64 < w → p * w + w ≤ length T → p * w + w ≤ length O →
    made ≡ zip2 bit_or (take m (drop (p * w) T)) (take n (drop (p * w) O)) → length made ≡ w →
    InTable (put_mid (p * w) m T made) w p j ↔ (InTable T w p j ⊎ InTable O w p j)
merged_row T O made w p j m n sm sn short roomT roomO e long =
    let u = united_row (take m (drop (p * w) T)) made O w p j n (part_long T p w m sm roomT ∙ sm) sn short roomO e in
    let q = InRow_part T (p * w) m j (omega arith) in
    let r = row_written T made (p * w) m w p j refl sm long short roomT in (
      λ h. ⊎_elim (λ a. inl (q.0 a)) (λ b. inr b) (u.0 (r.0 h)),
      λ h. r.1 (u.1 (⊎_elim (λ a. inl (q.1 a)) (λ b. inr b) h)),
    )

-- a place that was put into a row of T, in its place
module _ (T made : List ℕ) (w row place n : ℕ) (size : n ≡ w) (long : length made ≡ w) (room : row * w + w ≤ length T)
    (put : (j : ℕ) → InRow made 0 j ↔ (InRow (take n (drop (row * w) T)) 0 j ⊎ (j ≡ place))) where
  pub marked_row : (i j : ℕ) → j / 64 < w → InTable (put_mid (row * w) n T made) w i j ↔ (InTable T w i j ⊎ ((i ≡ row) × (j ≡ place)))
  marked_row i j short = ⊎_elim here other (cases_eq i row)
    where
      q : InRow (take n (drop (row * w) T)) 0 j ↔ InTable T w row j
      q = InRow_part T (row * w) n j (omega arith)

      r : InTable (put_mid (row * w) n T made) w row j ↔ InRow made 0 j
      r = row_written T made (row * w) n w row j refl size long short room

      there : InTable (put_mid (row * w) n T made) w row j → InTable T w row j ⊎ ((row ≡ row) × (j ≡ place))
      there h = ⊎_elim (λ a. inl (q.0 a)) (λ b. inr (refl, b)) ((put j).0 (r.0 h))

      back : InTable T w row j ⊎ ((row ≡ row) × (j ≡ place)) → InTable (put_mid (row * w) n T made) w row j
      back h = r.1 ((put j).1 (⊎_elim (λ a. inl (q.1 a)) (λ b. inr b.1) h))

      here : i ≡ row → InTable (put_mid (row * w) n T made) w i j ↔ (InTable T w i j ⊎ ((i ≡ row) × (j ≡ place)))
      here e = subst (λ x. InTable (put_mid (row * w) n T made) w x j ↔ (InTable T w x j ⊎ ((x ≡ row) × (j ≡ place)))) (sym e) (there, back)

      other : i ≢ row → InTable (put_mid (row * w) n T made) w i j ↔ (InTable T w i j ⊎ ((i ≡ row) × (j ≡ place)))
      other ne =
          let k = row_kept T made (row * w) n w row j refl size long short room i ne in
          (λ h. inl (k.0 h), λ h. ⊎_elim (λ a. k.1 a) (λ b. absurd (ne b.0)) h)

pub no_row : (cells : List ℕ) (n w i j : ℕ) → cells ≡ replicate n 0 → InTable cells w i j → ⊥
unfolding InRow
no_row cells n w i j zeros h = ⊎_elim
    (λ (lt : i * w + j / 64 < n). absurd (apart (sym (subst (λ xs. bit_at (get_or xs (i * w + j / 64) 0) (j % 64) ≡ 1) zeros h) ∙ ap (λ x. bit_at x (j % 64)) (get_or-replicate n (i * w + j / 64) 0 0 lt) ∙ bit_at-zero (j % 64))))
    (λ (ge : n ≤ i * w + j / 64). absurd (apart (sym (subst (λ xs. bit_at (get_or xs (i * w + j / 64) 0) (j % 64) ≡ 1) zeros h) ∙ ap (λ x. bit_at x (j % 64)) (get_or_past (replicate n 0) (i * w + j / 64) 0 (rw length-replicate ge)) ∙ bit_at-zero (j % 64))))
    (cases_lt (i * w + j / 64) n)
  where
    apart : ◌≡◌ {A = ℕ} 1 0 → ⊥
    apart e = omega arith
