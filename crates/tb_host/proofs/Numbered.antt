-- Rows that are numbered from 1, one after the other: those so far are right, or one is wrong first.
use Rattle.std.proofs.Common.{◌≡◌, ◌≤◌, ◌<◌, ◌+◌, ℕ, zero, suc, List, [], ◌∷◌, length, get_or, Bool, true, false, nat_eq, pos, refl, sym, subst, arith}
use Rattle.std.proofs.lemmas.Bool.Decides.{nat_tests}
use Rattle.std.proofs.lemmas.List.{get_or_read}
use Rattle.sqlite.specs.Order.{Row, column}
use Rattle.sqlite.specs.declared.types.Value.TheVariants.{Int}
use Rattle.tb_host.specs.Looked.{FindsOrFails, IsRowOff}
use Rattle.tb_host.specs.Misfits.{AreRight, HasNumber, IsFirstOff, TakesMemory}
use Rattle.tb_host.specs.declared.misfit.Misfit.{Misfit}
use Rattle.tb_host.specs.declared.misfit.Misfit.TheVariants as wrong
use Rattle.tb_host.specs.declared.misfit.Stop.{Stop}
use Rattle.tb_host.specs.declared.misfit.Stop.TheVariants.{Found, Failed}
use Rattle.tb_host.specs.declared.misfit.Table.{Table}

module _ {A : Type 0} (R : ℕ → A → Type 0) (rows : List A) where
  pub none_yet : AreRight R rows 0
  none_yet k d small = absurd (omega (arith, small))

  module _ (i : ℕ) (row : A) (inside : i < length rows) (is : row ≡ get_or rows i row) where
    pub one_more_right : R (i + 1) row → AreRight R rows i → AreRight R rows (i + 1)
    one_more_right right before k d small = by_test (nat_eq k i) refl
      where
        by_test : (b : Bool) → nat_eq k i ≡ b → R (k + 1) (get_or rows k d)
        by_test true e =
            let same : k ≡ i = grind (arith, nat_tests, e) in
            subst (λ n. R (n + 1) (get_or rows n d)) (sym same) (subst (R (i + 1)) (get_or_read rows i row inside is d) right)
        by_test false e = before k d (grind (arith, nat_tests, e, small))

    pub off_first : ¬ R (i + 1) row → AreRight R rows i → IsFirstOff R rows (i + 1)
    off_first off before = (i, refl, inside, before, λ d right. off (subst (R (i + 1)) (sym (get_or_read rows i row inside is d)) right))

  module _ (i : ℕ) (inside : i < length rows) where
    pub one_more_here : ((d : A) → R (i + 1) (get_or rows i d)) → AreRight R rows i → AreRight R rows (i + 1)
    one_more_here right before k d small = by_test (nat_eq k i) refl
      where
        by_test : (b : Bool) → nat_eq k i ≡ b → R (k + 1) (get_or rows k d)
        by_test true e =
            let same : k ≡ i = grind (arith, nat_tests, e) in
            subst (λ n. R (n + 1) (get_or rows n d)) (sym same) (right d)
        by_test false e = before k d (grind (arith, nat_tests, e, small))

    pub off_here : ((d : A) → ¬ R (i + 1) (get_or rows i d)) → AreRight R rows i → IsFirstOff R rows (i + 1)
    off_here off before = (i, refl, inside, before, off)

  -- the first row is not wrong, where those so far are right and the next one is not wrong
  pub not_off : (i : ℕ) (row : A) → row ≡ get_or rows i row → ¬ ¬ R (i + 1) row → AreRight R rows i → ¬ IsFirstOff R rows 1
  not_off zero row is right before off =
      let same : off.0 ≡ 0 = omega (arith, off.1) in
      right (λ r. off.4 row (subst (λ k. R (k + 1) (get_or rows k row)) (sym same) (subst (R 1) is r)))
  not_off (suc i) row is right before off =
      let same : off.0 ≡ 0 = omega (arith, off.1) in
      off.4 row (subst (λ k. R (k + 1) (get_or rows k row)) (sym same) (before 0 row (omega arith)))

  pub takes_memory : (i : ℕ) (row : A) → i < length rows → row ≡ get_or rows i row → ¬ ¬ R (i + 1) row → AreRight R rows i → TakesMemory R rows
  takes_memory i row inside is right before = (
    λ e. let none : i < 0 = subst (λ (l : List A). i < length l) e inside in absurd (omega (arith, none)),
    not_off i row is right before,
  )

  -- why a loop ends at a row
  pub off_by : (t : Table) (i : ℕ) (row : A) → i < length rows → row ≡ get_or rows i row → AreRight R rows i → (s : Stop)
      → FindsOrFails (¬ ¬ R (i + 1) row) (λ m. (m ≡ wrong.Row t (i + 1)) × ¬ R (i + 1) row) s → IsRowOff t R rows s
  off_by t i row inside is before (Found m) h = subst (λ (x : Misfit). IsRowOff t R rows (Found x)) (sym h.0) (refl, off_first i row inside is h.1 before)
  off_by t i row inside is before Failed right = takes_memory i row inside is right before

  pub all_right : (i : ℕ) → length rows ≤ i → AreRight R rows i → AreRight R rows (length rows)
  all_right i end before k d small = before k d (omega (arith, end, small))

-- a row has no other number than the one in its first column, if that is one
pub no_number : (row : Row) (number : ℕ) → ((n : ℕ) → 0 < length row → ¬ (column row 0 ≡ Int (pos n))) → ¬ HasNumber number row
no_number [] number none is = cc
no_number (v ∷ row) number none is = none number (omega (arith)) is
