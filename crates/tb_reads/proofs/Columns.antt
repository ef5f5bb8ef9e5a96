-- A row is known by its length and its columns.
use Rattle.std.proofs.Common.{◌≡◌, ℕ, suc, [], ◌∷◌, length, refl, ap₂, arith}
use Rattle.sqlite.specs.Order.{Row, column}

-- the columns from a place on are these
abbrev pub Agree : Row → ℕ → Row → Type 0
Agree row k [] = Unit {0}
Agree row k (v ∷ vs) = (column row k ≡ v) × Agree row (suc k) vs

later : (r : _) (row : Row) (k : ℕ) (vs : Row) → Agree (r ∷ row) (suc k) vs → Agree row k vs
later r row k [] h = tt
later r row k (v ∷ vs) h = (h.0, later r row (suc k) vs h.1)

pub same_row : (row vs : Row) → length row ≡ length vs → Agree row 0 vs → row ≡ vs
same_row [] [] len h = refl
same_row [] (v ∷ vs) len h = absurd (omega (arith, len))
same_row (r ∷ row) [] len h = absurd (omega (arith, len))
same_row (r ∷ row) (v ∷ vs) len h = ap₂ (λ a b. a ∷ b) h.0 (same_row row vs (omega (arith, len)) (later r row 0 vs h.1))
