-- Where no move made a revision, none at a place did.
use Rattle.std.proofs.Common.{◌≡◌, ℕ, zero, suc, ◌<◌, List, [], ◌∷◌, length, get_or, Bool, true, false, cond, sym, ap, ◌∙◌, arith}
use Rattle.std.specs.List.{filter}

first_none : {X : Type 0} (b : Bool) (y : X) (ys : List X) → b ≡ true → cond b (y ∷ ys) ys ≡ [] → ⊥
first_none true y ys made none = cc
first_none false y ys made none = cc

rest_none : {X : Type 0} (b : Bool) (y : X) (ys : List X) → cond b (y ∷ ys) ys ≡ [] → ys ≡ []
rest_none true y ys none = absurd cc
rest_none false y ys none = none

pub none_passes : {X : Type 0} (test : X → Bool) (xs : List X) (i : ℕ) (x : X) → filter test xs ≡ [] → i < length xs
    → x ≡ get_or xs i x → test x ≡ true → ⊥
none_passes test [] i x none low is made = absurd (omega (arith, low))
none_passes test (y ∷ xs) zero x none low is made =
    first_none (test y) y (filter test xs) (ap test (sym is) ∙ made) none
none_passes test (y ∷ xs) (suc i) x none low is made =
    none_passes test xs i x (rest_none (test y) y (filter test xs) none) (omega (arith, low)) is made
