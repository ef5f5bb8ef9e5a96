-- Cells of a table of truths, after one of them is made true.
use Rattle.std.proofs.Common.{◌≡◌, ◌+◌, ◌-◌, ◌*◌, ◌<◌, ◌≤◌, ◌≢◌, ◌↔◌, ◌⊎◌, ℕ, zero, suc, List, Bool, true, false, length, get_or, set, replicate, arith, refl, sym, ◌∙◌, ap, inl, inr, ⊎_elim}
use Rattle.std.proofs.lemmas.Bool.{cases_order, cases_eq}
use Rattle.std.proofs.lemmas.List.{get_or-set_same, get_or-set_other}
use Rattle.std.proofs.lemmas.Nat.{mul-add-lt}
use Rattle.std.proofs.Math.Nat.{mul-le-mul_right}

-- no cell is set
pub unset : (n i : ℕ) → get_or (replicate n false) i false ≡ false
unset zero i = refl
unset (suc n) zero = refl
unset (suc n) (suc i) = unset n i

-- two words of two expressions have two cells
apart : (n e x a b : ℕ) → a < n → b < n → x * n + b ≡ e * n + a → (x ≡ e) × (b ≡ a)
apart n e x a b p q same = ⊎_elim
    (λ (h : x ≡ e). let r : x * n ≡ e * n = ap (λ k. k * n) h in (h, omega arith))
    (λ h. ⊎_elim
    (λ (lt : x < e). let le : x + 1 ≤ e = omega arith in absurd (omega (arith, mul-le-mul_right n le)))
    (λ (lt : e < x). let le : e + 1 ≤ x = omega arith in absurd (omega (arith, mul-le-mul_right n le))) h)
    (cases_order x e)

module _ (cells : List Bool) (n exprs e w : ℕ) (whole : length cells ≡ exprs * n) (known : e < exprs) (first : 1 ≤ w) (last : w ≤ n) where
  abbrev cell : ℕ
  cell = e * n + (w - 1)

  abbrev IsHeld : List Bool → ℕ → ℕ → Type 0
  IsHeld xs x v = (1 ≤ v) × (v ≤ n) × (get_or xs (x * n + (v - 1)) false ≡ true)

  inside : cell < length cells
  inside = omega (arith, mul-add-lt e n (w - 1) exprs known (omega arith))

  pub marked : (x v : ℕ) → IsHeld (set cells cell true) x v ↔ (IsHeld cells x v ⊎ ((x ≡ e) × (v ≡ w)))
  marked x v = (there, back)
    where
      there : IsHeld (set cells cell true) x v → IsHeld cells x v ⊎ ((x ≡ e) × (v ≡ w))
      there (p, q, h) = ⊎_elim
          (λ (same : x * n + (v - 1) ≡ cell). let r = apart n e x (w - 1) (v - 1) (omega arith) (omega arith) same in inr (r.0, omega arith))
          (λ (other : x * n + (v - 1) ≢ cell). inl (p, q, sym (get_or-set_other cells cell (x * n + (v - 1)) true false other) ∙ h))
          (cases_eq (x * n + (v - 1)) cell)

      here : (x v : ℕ) → x ≡ e → v ≡ w → IsHeld (set cells cell true) x v
      here x v p q = rw (p, q) (first, last, get_or-set_same cells cell true false inside)

      kept : IsHeld cells x v → IsHeld (set cells cell true) x v
      kept (p, q, h) = ⊎_elim
          (λ (same : x * n + (v - 1) ≡ cell). let r = apart n e x (w - 1) (v - 1) (omega arith) (omega arith) same in here x v r.0 (omega arith))
          (λ (other : x * n + (v - 1) ≢ cell). (p, q, get_or-set_other cells cell (x * n + (v - 1)) true false other ∙ h))
          (cases_eq (x * n + (v - 1)) cell)

      back : IsHeld cells x v ⊎ ((x ≡ e) × (v ≡ w)) → IsHeld (set cells cell true) x v
      back (inl h) = kept h
      back (inr (p, q)) = here x v p q
