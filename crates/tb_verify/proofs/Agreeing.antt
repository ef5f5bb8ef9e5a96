-- Lists whose elements show the same, one by one.
use Rattle.std.proofs.Common.{◌≡◌, ℕ, zero, suc, ◌+◌, ◌<◌, ◌≤◌, List, [], ◌∷◌, ◌++◌, length, get_or, map, take, refl, sym, ◌∙◌, ap, ap₂, arith, take_all}
use Rattle.std.specs.List.{AllByRecursion}
use Rattle.std.proofs.Math.Seq.{take-suc}
use Rattle.std.proofs.lemmas.List.{map-append}
use Rattle.tb_core.proofs.Lists.{head_is, tail_is}

-- the element that agrees with the one at a place
pub met_at : {X Y Z : Type 0} (P : X → Type 0) (f : X → Z) (g : Y → Z) (xs : List X) (ys : List Y) (i : ℕ) (y : Y) → AllByRecursion P xs → map f xs ≡ map g ys → i < length ys → y ≡ get_or ys i y
    → (x : X) × P x × (f x ≡ g y)
met_at P f g [] [] i y h e l there = absurd (omega (arith, l))
met_at P f g [] (b ∷ ys) i y h e l there = let s = ap length e in absurd (omega (arith, s))
met_at P f g (a ∷ xs) [] i y h e l there = absurd (omega (arith, l))
met_at P f g (a ∷ xs) (b ∷ ys) zero y h e l there = (a, h.0, head_is (f a) (g b) (map f xs) (map g ys) e ∙ ap g (sym there))
met_at P f g (a ∷ xs) (b ∷ ys) (suc i) y h e l there = met_at P f g xs ys i y h.1 (tail_is (f a) (g b) (map f xs) (map g ys) e) (omega (arith, l)) there

-- and of the element nothing is known
pub met : {X Y Z : Type 0} (f : X → Z) (g : Y → Z) (xs : List X) (ys : List Y) (i : ℕ) (y : Y) → map f xs ≡ map g ys → i < length ys → y ≡ get_or ys i y → (x : X) × (f x ≡ g y)
met f g xs ys i y e low there = let m = met_at (λ _. Unit {0}) f g xs ys i y (every xs) e low there in (m.0, m.2)
  where
    every : {X : Type 0} (xs : List X) → AllByRecursion (λ _. Unit {0}) xs
    every [] = tt
    every (x ∷ xs) = (tt, every xs)

-- a turn of the loop
pub one_more : {X Y Z : Type 0} (f : X → Z) (g : Y → Z) (ys : List Y) (found : List X) (k : ℕ) (y : Y) (x : X) → k < length ys → y ≡ get_or ys k y → map f found ≡ map g (take k ys) → f x ≡ g y → map f (found ++ x ∷ []) ≡ map g (take (k + 1) ys)
one_more f g ys found k y x low there so is =
    let next : k + 1 ≡ suc k = omega arith in
    let whole : take (k + 1) ys ≡ take k ys ++ y ∷ [] = ap (λ j. take j ys) next ∙ take-suc ys k y low ∙ ap (λ z. take k ys ++ z ∷ []) (sym there) in
    map-append f found (x ∷ []) ∙ ap₂ (λ a b. a ++ b ∷ []) so is ∙ sym (map-append g (take k ys) (y ∷ [])) ∙ ap (map g) (sym whole)

-- some elements show the same as these: that there are none cannot be
abbrev pub Agree : {X Y Z : Type 0} (f : X → Z) (g : Y → Z) (ys : List Y) → Type 0
Agree {X} f g ys = ((xs : List X) → map f xs ≡ map g ys → ⊥) → ⊥

-- one more element
pub agree_more : {X Y Z : Type 0} (f : X → Z) (g : Y → Z) (ys : List Y) (k : ℕ) (y : Y) → k < length ys → y ≡ get_or ys k y → Agree f g (take k ys) → (((x : X) → f x ≡ g y → ⊥) → ⊥) → Agree f g (take (k + 1) ys)
agree_more f g ys k y low there before one none = before (λ xs so. one (λ x is. none (xs ++ x ∷ []) (one_more f g ys xs k y x low there so is)))

-- all were gone through
pub agree_all : {X Y Z : Type 0} (f : X → Z) (g : Y → Z) (ys : List Y) (k : ℕ) → length ys ≤ k → Agree f g (take k ys) → Agree f g ys
agree_all f g ys k all before none = before (λ xs so. none xs (so ∙ ap (map g) (take_all k ys all)))

-- elements that are told by what they show
pub alike : {X Z : Type 0} (f : X → Z) → ((x y : X) → f x ≡ f y → x ≡ y) → (xs ys : List X) → map f xs ≡ map f ys → xs ≡ ys
alike f same [] [] e = refl
alike f same [] (y ∷ ys) e = absurd (let s = ap length e in omega (arith, s))
alike f same (x ∷ xs) [] e = absurd (let s = ap length e in omega (arith, s))
alike f same (x ∷ xs) (y ∷ ys) e = ap₂ (λ a b. a ∷ b) (same x y (head_is (f x) (f y) (map f xs) (map f ys) e)) (alike f same xs ys (tail_is (f x) (f y) (map f xs) (map f ys) e))
