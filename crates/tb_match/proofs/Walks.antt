-- Places of a bit row, word by word from the lowest bit.
use Rattle.std.proofs.Common.{◌≡◌, ◌+◌, ◌-◌, ◌*◌, ◌/◌, ◌%◌, ◌^◌, ◌<◌, ◌≤◌, ◌≢◌, ◌↔◌, ◌⊎◌, ℕ, List, bit_and, get_or, min, arith, ◌∙◌, ap, subst, ⊎_elim, w64, zero-add}
use Rattle.std.specs.Int.{bit_at, bit_not, trailing_zeros}
use Rattle.std.proofs.lemmas.Bool.{cases_lt, cases_eq}
use Rattle.std.proofs.lemmas.Nat.Bits.{bit_at_and, bit_at_not, bit_at-lt, bit_at-zero, ones_shl, bit_at_mask_inside, bit_at_mask_below, bit_at-trailing_zeros}
use Rattle.std.proofs.lemmas.Nat.{div-add-mod'}
use Rattle.tb_match.specs.Bits.{InRow}

-- a word without its lowest bits
pub masked : (n s i : ℕ) → s ≤ 64 → i < 64 → (bit_at (bit_and n ((2 ^ 64 - 1) * 2 ^ s % 2 ^ 64)) i ≡ 1) ↔ ((bit_at n i ≡ 1) × (s ≤ i))
masked n s i small inside = ⊎_elim below above (cases_lt i s)
  where
    mask : ℕ
    mask = (2 ^ 64 - 1) * 2 ^ s % 2 ^ 64

    met : bit_at (bit_and n mask) i ≡ min (bit_at n i) (bit_at (2 ^ 64 - 2 ^ s) i)
    met = bit_at_and n mask i ∙ ap (λ m. min (bit_at n i) (bit_at m i)) (ones_shl 64 s small)

    below : i < s → (bit_at (bit_and n mask) i ≡ 1) ↔ ((bit_at n i ≡ 1) × (s ≤ i))
    below lt =
        let z = bit_at_mask_below s 64 i lt in
        (λ h. absurd (omega (arith, met, z, h)), λ h. absurd (omega (arith, h.1)))

    above : s ≤ i → (bit_at (bit_and n mask) i ≡ 1) ↔ ((bit_at n i ≡ 1) × (s ≤ i))
    above ge =
        let o = bit_at_mask_inside s 64 i ge inside in
        let two = bit_at-lt n i in
        (λ h. (omega (arith, met, o, h, two), ge), λ h. omega (arith, met, o, h.0))

-- a word without the bits of another
pub unknown : (a b i : ℕ) → b < 2 ^ 64 → i < 64 → (bit_at (bit_and a (bit_not w64 b)) i ≡ 1) ↔ ((bit_at a i ≡ 1) × (bit_at b i ≡ 1 → ⊥))
unknown a b i small inside =
    let met = bit_at_and a (bit_not w64 b) i in
    let turned = bit_at_not w64 b i small inside in
    let p = bit_at-lt a i in
    let q = bit_at-lt b i in (
      λ h. (omega (arith, met, turned, h, p, q), λ e. omega (arith, met, turned, h, p, q, e)),
      λ h. ⊎_elim (λ e. absurd (h.1 e)) (λ (ne : bit_at b i ≢ 1). omega (arith, met, turned, h.0, p, q)) (cases_eq (bit_at b i) 1),
    )

pub in_word : (cells : List ℕ) (at word i : ℕ) → i < 64 → InRow cells at (word * 64 + i) ↔ (bit_at (get_or cells (at + word) 0) i ≡ 1)
unfolding InRow
in_word cells at word i h =
    let q : (word * 64 + i) / 64 ≡ word = omega (arith, div-add-mod' (word * 64 + i) 64) in
    let r : (word * 64 + i) % 64 ≡ i = omega (arith, div-add-mod' (word * 64 + i) 64) in
    rw (q, r) (λ p. p, λ p. p)

pub in_row_or_not : (cells : List ℕ) (at j : ℕ) → InRow cells at j ⊎ (InRow cells at j → ⊥)
unfolding InRow
in_row_or_not cells at j = cases_eq (bit_at (get_or cells (at + j / 64) 0) (j % 64)) 1

-- a place of a row that another row has not
abbrev pub IsUnknown : List ℕ → ℕ → List ℕ → ℕ → Type 0
IsUnknown cells at known j = InRow cells at j × (InRow known 0 j → ⊥)

pub unknown_in_word : (cells known : List ℕ) (at word i : ℕ) → i < 64 → get_or known word 0 < 2 ^ 64 →
    (bit_at (bit_and (get_or cells (at + word) 0) (bit_not w64 (get_or known word 0))) i ≡ 1) ↔ IsUnknown cells at known (word * 64 + i)
unknown_in_word cells known at word i inside small =
    let u = unknown (get_or cells (at + word) 0) (get_or known word 0) i small inside in
    let p = in_word cells at word i inside in
    let q : InRow known 0 (word * 64 + i) ↔ (bit_at (get_or known word 0) i ≡ 1) =
    subst (λ n. InRow known 0 (word * 64 + i) ↔ (bit_at (get_or known n 0) i ≡ 1)) (zero-add word) (in_word known 0 word i inside) in
    (λ h. let r = u.0 h in (p.1 r.0, λ k. r.1 (q.0 k)), λ h. u.1 (p.0 h.0, λ b. h.1 (q.1 b)))

-- the places from `from` on before the lowest bit of a word, where none lies in an earlier word
pub none_before : (Q : ℕ → Type 0) (word from bits z j : ℕ) →
    ((i : ℕ) → i < 64 → Q (word * 64 + i) → from ≤ word * 64 + i → bit_at bits i ≡ 1) →
    ((i : ℕ) → i < z → bit_at bits i ≡ 0) → z ≤ 64 →
    ((k : ℕ) → from ≤ k → k < word * 64 → Q k → ⊥) →
    from ≤ j → j < word * 64 + z → Q j → ⊥
none_before Q word from bits z j has low small earlier start end q = ⊎_elim
    (λ lt. earlier j start lt q)
    (λ (ge : word * 64 ≤ j).
    let e : j ≡ word * 64 + (j - word * 64) = omega arith in
    let one = has (j - word * 64) (omega arith) (subst Q e q) (omega arith) in
    let none = low (j - word * 64) (omega arith) in
    absurd (omega (arith, one, none)))
    (cases_lt j (word * 64))

pub lowest : (bits : ℕ) → bits ≢ 0 → bits < 2 ^ 64 → (trailing_zeros w64 bits < 64) × (bit_at bits (trailing_zeros w64 bits) ≡ 1) × ((i : ℕ) → i < trailing_zeros w64 bits → bit_at bits i ≡ 0)
lowest bits ne small = bit_at-trailing_zeros w64 bits (omega arith) small

pub no_bits : (bits i : ℕ) → bits ≡ 0 → bit_at bits i ≡ 0
no_bits bits i e = ap (λ n. bit_at n i) e ∙ bit_at-zero i
