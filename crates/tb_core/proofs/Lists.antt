-- Lists taken apart at their ends, and what holds of each element.
use Rattle.std.proofs.Common.{◌≡◌, ◌⊎◌, inl, inr, ℕ, zero, suc, ◌<◌, List, [], ◌∷◌, ◌++◌, length, map, None, Some, refl, sym, ◌∙◌, ap, arith, length-append}
use Rattle.std.specs.Prelude.{slice_get}

pub head_is : {X : Type 0} (x y : X) (xs ys : List X) → x ∷ xs ≡ y ∷ ys → x ≡ y
head_is x y xs ys e = cc

pub tail_is : {X : Type 0} (x y : X) (xs ys : List X) → x ∷ xs ≡ y ∷ ys → xs ≡ ys
tail_is x y xs ys e = cc

pub nothing_more : {X : Type 0} (more : List X) → length more ≡ 0 → more ≡ []
nothing_more [] h = refl
nothing_more (x ∷ xs) h = absurd (omega arith)

pub snoc_front : {X : Type 0} (a : List X) (x : X) (b : List X) (y : X) → a ++ x ∷ [] ≡ b ++ y ∷ [] → a ≡ b
snoc_front [] x [] y e = refl
snoc_front [] x (v ∷ b) y e = let n = ap length e in let m = length-append b (y ∷ []) in absurd (omega (arith, n, m))
snoc_front (u ∷ a) x [] y e = let n = ap length e in let m = length-append a (x ∷ []) in absurd (omega (arith, n, m))
snoc_front (u ∷ a) x (v ∷ b) y e = ap (λ z. z ∷ a) (head_is u v (a ++ x ∷ []) (b ++ y ∷ []) e) ∙ ap (λ l. v ∷ l) (snoc_front a x b y (tail_is u v (a ++ x ∷ []) (b ++ y ∷ []) e))

pub snoc_last : {X : Type 0} (a : List X) (x : X) (b : List X) (y : X) → a ++ x ∷ [] ≡ b ++ y ∷ [] → x ≡ y
snoc_last [] x [] y e = head_is x y [] [] e
snoc_last [] x (v ∷ b) y e = let n = ap length e in let m = length-append b (y ∷ []) in absurd (omega (arith, n, m))
snoc_last (u ∷ a) x [] y e = let n = ap length e in let m = length-append a (x ∷ []) in absurd (omega (arith, n, m))
snoc_last (u ∷ a) x (v ∷ b) y e = snoc_last a x b y (tail_is u v (a ++ x ∷ []) (b ++ y ∷ []) e)

-- two neighbours in a list with one more at its end: both in the list, or its last and the new one
pub snoc_cases : {X : Type 0} (xs : List X) (z : X) (before : List X) (r q : X) (more : List X) → xs ++ z ∷ [] ≡ before ++ r ∷ q ∷ more
    → ((rest : List X) × (xs ≡ before ++ r ∷ q ∷ rest)) ⊎ ((q ≡ z) × (xs ≡ before ++ r ∷ []))
snoc_cases [] z [] r q more e = let n = ap length e in absurd (omega (arith, n))
snoc_cases (x ∷ []) z [] r q more e =
    inr (sym (head_is z q [] more (tail_is x r (z ∷ []) (q ∷ more) e)), ap (λ y. y ∷ []) (head_is x r (z ∷ []) (q ∷ more) e))
snoc_cases (x ∷ y ∷ xs) z [] r q more e =
    let t = tail_is x r (y ∷ xs ++ z ∷ []) (q ∷ more) e in
    inl (xs, ap (λ a. a ∷ y ∷ xs) (head_is x r (y ∷ xs ++ z ∷ []) (q ∷ more) e) ∙ ap (λ a. r ∷ a ∷ xs) (head_is y q (xs ++ z ∷ []) more t))
snoc_cases [] z (b ∷ before) r q more e = let n = ap length e in let m = length-append before (r ∷ q ∷ more) in absurd (omega (arith, n, m))
snoc_cases (x ∷ xs) z (b ∷ before) r q more e =
    let h = head_is x b (xs ++ z ∷ []) (before ++ r ∷ q ∷ more) e in
    elim (snoc_cases xs z before r q more (tail_is x b (xs ++ z ∷ []) (before ++ r ∷ q ∷ more) e)) [
      | inl w ↦ inl (w.0, ap (λ a. a ∷ xs) h ∙ ap (λ l. b ∷ l) w.1)
      | inr w ↦ inr (w.0, ap (λ a. a ∷ xs) h ∙ ap (λ l. b ∷ l) w.1)
    ]

pub split_front : {X : Type 0} (a b c d : List X) → length a ≡ length c → a ++ b ≡ c ++ d → a ≡ c
split_front [] b [] d l e = refl
split_front [] b (y ∷ c) d l e = absurd (omega arith)
split_front (x ∷ a) b [] d l e = absurd (omega arith)
split_front (x ∷ a) b (y ∷ c) d l e = ap (λ z. z ∷ a) (head_is x y (a ++ b) (c ++ d) e) ∙ ap (λ t. y ∷ t) (split_front a b c d (omega arith) (tail_is x y (a ++ b) (c ++ d) e))

pub split_back : {X : Type 0} (a b c d : List X) → length a ≡ length c → a ++ b ≡ c ++ d → b ≡ d
split_back [] b [] d l e = e
split_back [] b (y ∷ c) d l e = absurd (omega arith)
split_back (x ∷ a) b [] d l e = absurd (omega arith)
split_back (x ∷ a) b (y ∷ c) d l e = split_back a b c d (omega arith) (tail_is x y (a ++ b) (c ++ d) e)

pub map-joined : {X Y : Type 0} (g : X → Y) (xs ys : List X) → map g (xs ++ ys) ≡ map g xs ++ map g ys
map-joined g [] ys = refl
map-joined g (x ∷ xs) ys = ap (λ zs. g x ∷ zs) (map-joined g xs ys)

pub get_front : {X : Type 0} (xs ys : List X) (i : ℕ) (x : X) → slice_get xs i ≡ Some x → slice_get (xs ++ ys) i ≡ Some x
get_front [] ys i x e = let d : None ≡ Some x = e in absurd (cc)
get_front (z ∷ zs) ys zero x e = e
get_front (z ∷ zs) ys (suc i) x e = get_front zs ys i x e

pub get_seam : {X : Type 0} (xs : List X) (x : X) → slice_get (xs ++ x ∷ []) (length xs) ≡ Some x
get_seam [] x = refl
get_seam (z ∷ zs) x = get_seam zs x

pub get_within : {X : Type 0} (xs : List X) (i : ℕ) (x : X) → slice_get xs i ≡ Some x → i < length xs
get_within [] i x e = let d : None ≡ Some x = e in absurd (cc)
get_within (y ∷ ys) zero x e = omega arith
get_within (y ∷ ys) (suc i) x e = let h = get_within ys i x e in omega (arith, h)

pub get_one : {X : Type 0} (xs : List X) (i : ℕ) (x y : X) → slice_get xs i ≡ Some x → slice_get xs i ≡ Some y → x ≡ y
get_one xs i x y e f = let d : Some x ≡ Some y = sym e ∙ f in cc
