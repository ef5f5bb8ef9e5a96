-- The lowest bit of a mask taken away, and the bits of a comparison.
use Rattle.std.proofs.Common.{◌≡◌, ◌↔◌, ℕ, zero, suc, ◌+◌, ◌-◌, ◌/◌, ◌%◌, ◌^◌, ◌<◌, List, Bool, true, false, cond, leb, get_or, length, map, replicate, refl, sym, ap, subst, ◌∙◌, arith, bit_and, ⊎_elim, Fits, w8}
use Rattle.std.specs.Int.{bit_at}
use Rattle.std.specs.Simd.Lanes.{Each1, mask_l, top, zip2}
use Rattle.std.proofs.lemmas.Nat.Bits.{bit_at_and, bit_at_lowest, bit_at-suc, bit_at-lt}
use Rattle.std.proofs.lemmas.Bool.{cases_lt}
use Rattle.std.proofs.lemmas.Bool.Decides.{nat_tests}
use Rattle.std.proofs.lemmas.List.{length-map}
use Rattle.std.proofs.lemmas.Simd.{Each1-get_or, bit_mask_l, bitmask_splat, map-map, zip2_splat}
use Rattle.std.proofs.Math.ListN.{get_or-eq_default, get_or-map}
use Rattle.tb_conllu.specs.Marks.{is_mark}

pub true_is_no_false : true ≡ false → ⊥
true_is_no_false e = subst (λ b. cond {A = Type 0} b (Unit {0}) ⊥) e (tt {0})

-- the bits above the lowest are those of the number below
pub above_lowest : (low m k : ℕ) → bit_at m low ≡ 1 → ((i : ℕ) → i < low → bit_at m i ≡ 0) → low < k → bit_at (m - 1) k ≡ bit_at m k
above_lowest low m zero set below l = absurd (omega arith)
above_lowest zero m (suc k) set below l =
    let odd : m % 2 ≡ 1 = sym (bit_at_lowest m) ∙ set in
    let half : (m - 1) / 2 ≡ m / 2 = omega arith in
    bit_at-suc (m - 1) k ∙ ap (λ x. bit_at x k) half ∙ sym (bit_at-suc m k)
above_lowest (suc low) m (suc k) set below l =
    let even : m % 2 ≡ 0 = sym (bit_at_lowest m) ∙ below 0 (omega arith) in
    let half : (m - 1) / 2 ≡ m / 2 - 1 = omega arith in
    let rest = above_lowest low (m / 2) k (sym (bit_at-suc m low) ∙ set) (λ i h. sym (bit_at-suc m i) ∙ below (suc i) (omega arith)) (omega arith) in
    bit_at-suc (m - 1) k ∙ ap (λ x. bit_at x k) half ∙ rest ∙ sym (bit_at-suc m k)

-- the number below has not the lowest
pub lowest_gone : (low m : ℕ) → bit_at m low ≡ 1 → ((i : ℕ) → i < low → bit_at m i ≡ 0) → bit_at (m - 1) low ≡ 0
lowest_gone zero m set below =
    let odd : m % 2 ≡ 1 = sym (bit_at_lowest m) ∙ set in
    bit_at_lowest (m - 1) ∙ omega arith
lowest_gone (suc low) m set below =
    let even : m % 2 ≡ 0 = sym (bit_at_lowest m) ∙ below 0 (omega arith) in
    let half : (m - 1) / 2 ≡ m / 2 - 1 = omega arith in
    bit_at-suc (m - 1) low ∙ ap (λ x. bit_at x low) half ∙ lowest_gone low (m / 2) (sym (bit_at-suc m low) ∙ set) (λ i h. sym (bit_at-suc m i) ∙ below (suc i) (omega arith))

-- all bits but the lowest
pub without : (low m k : ℕ) → bit_at m low ≡ 1 → ((i : ℕ) → i < low → bit_at m i ≡ 0) → (bit_at (bit_and m (m - 1)) k ≡ 1) ↔ ((low < k) × (bit_at m k ≡ 1))
without low m k set below = (
  λ h.
      let both = bit_at_and m (m - 1) k in
      let one : bit_at m k ≡ 1 = omega (arith, both, bit_at-lt m k) in
      let other : bit_at (m - 1) k ≡ 1 = omega (arith, both, bit_at-lt (m - 1) k) in
      ⊎_elim (λ l. (l, one)) (λ ge. absurd (⊎_elim (λ l. omega (arith, below k l, one)) (λ le.
      let same : k ≡ low = omega arith in
      omega (arith, ap (bit_at (m - 1)) same, lowest_gone low m set below)) (cases_lt k low))) (cases_lt low k),
  λ h. omega (arith, bit_at_and m (m - 1) k, above_lowest low m k set below h.0, h.1),
)

-- nine less, as bytes are taken off: 247 or more where the byte is below nine
abbrev less_nine : ℕ → ℕ
less_nine b = (b + 247) % 256

abbrev is_near : ℕ → Bool
is_near b = leb (less_nine b) 1

near_is : (b : ℕ) → b < 256 → is_near b ≡ is_mark b
near_is b l = grind (arith, nat_tests)

lane : (bytes : List ℕ) (k : ℕ) → length bytes ≡ 64 → Each1 (Fits w8) bytes → is_near (get_or bytes k 0) ≡ is_mark (get_or bytes k 0)
lane bytes k long fit =
    ⊎_elim (λ l. near_is (get_or bytes k 0) (Each1-get_or (Fits w8) bytes k 0 (omega (arith, l, long)) fit).fits) (λ ge.
    let none : get_or bytes k 0 ≡ 0 = get_or-eq_default bytes 0 (omega (arith, ge, long)) in
    near_is (get_or bytes k 0) (omega (arith, none))) (cases_lt k 64)

-- `to_bitmask` of the bytes nine less, compared with one
near_mask : (bytes : List ℕ) → length bytes ≡ 64
    → mask_l (map (top 7) (zip2 (λ a b. cond (leb a b) 255 0) (zip2 (λ a b. (a + (256 - b)) % 256) bytes (replicate 64 9)) (replicate 64 1))) % 2 ^ 64 ≡ mask_l (map is_near bytes)
near_mask bytes long =
    let shifted : zip2 (λ a b. (a + (256 - b)) % 256) bytes (replicate 64 9) ≡ map less_nine bytes = zip2_splat (λ a b. (a + (256 - b)) % 256) bytes 64 9 long in
    ap (λ xs. mask_l (map (top 7) (zip2 (λ a b. cond (leb a b) 255 0) xs (replicate 64 1))) % 2 ^ 64) shifted
    ∙ bitmask_splat w8 leb (map less_nine bytes) 64 1 (length-map bytes less_nine ∙ long) (omega arith)
    ∙ ap mask_l (map-map (λ x. leb x 1) less_nine bytes)

reported : (b : Bool) → (cond {A = ℕ} b 1 0 ≡ 1) ↔ (b ≡ true)
reported true = (λ h. refl, λ h. refl)
reported false = (λ h. absurd (omega arith), λ h. absurd (true_is_no_false (sym h)))

pub compared : (bytes : List ℕ) (k : ℕ) → length bytes ≡ 64 → Each1 (Fits w8) bytes
    → (bit_at (mask_l (map (top 7) (zip2 (λ a b. cond (leb a b) 255 0) (zip2 (λ a b. (a + (256 - b)) % 256) bytes (replicate 64 9)) (replicate 64 1))) % 2 ^ 64) k ≡ 1) ↔ ((k < 64) × (is_mark (get_or bytes k 0) ≡ true))
compared bytes k long fit =
    let bit : bit_at (mask_l (map is_near bytes)) k ≡ cond (is_near (get_or bytes k 0)) 1 0 = bit_mask_l (map is_near bytes) k ∙ ap (λ b. cond b 1 0) (get_or-map is_near bytes k 0) in
    let whole = ap (λ m. bit_at m k) (near_mask bytes long) ∙ bit in
    let same = lane bytes k long fit in
    let t = reported (is_near (get_or bytes k 0)) in (
      λ h.
          let hit : is_mark (get_or bytes k 0) ≡ true = sym same ∙ t.0 (sym whole ∙ h) in
          (⊎_elim (λ l. l) (λ ge. absurd (true_is_no_false (sym hit ∙ ap is_mark (get_or-eq_default bytes 0 (omega (arith, ge, long)))))) (cases_lt k 64), hit),
      λ h. whole ∙ t.1 (same ∙ h.1),
    )
