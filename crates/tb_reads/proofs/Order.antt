-- Rows in the order of a number: only one list has these rows in that order.
use Rattle.std.proofs.Common.{◌≡◌, ◌≢◌, ◌⊎◌, ℕ, zero, suc, ◌<◌, ◌≤◌, List, [], ◌∷◌, length, remove, get_or, refl, sym, ap, ap₂, subst, ◌∙◌, arith, inl, inr, All, Contains, IsPermutation}
use Rattle.std.proofs.lemmas.List.{nil_from_length}
use Rattle.std.proofs.lemmas.List.Elements.{All-head, All-tail, All-from_recursion, recursion_from_All, All-weaker, All-contains_itself}
use Rattle.std.proofs.lemmas.List.Sorted.{IsPermutation-refl, IsPermutation-sym, IsPermutation-trans, IsPermutation-cons, IsPermutation-remove, Contains-permutation, length_permutation}
use Rattle.std.specs.List.Sorted.{IsNonDecreasingBy}
use Rattle.std.specs.List.{AllByRecursion}
use Rattle.sqlite_trees.specs.Tree.{IsAscending}
use Rattle.sqlite_trees.proofs.ListLemmas.{all_both, ascending_weaker}

module _ {X : Type 0} where
  pub contains_cases : (y : X) (ys : List X) (x : X) → Contains (y ∷ ys) x → (y ≡ x) ⊎ Contains ys x
  contains_cases y ys x h = go h.0 h.1 h.2
    where
      go : (k : ℕ) → suc k ≤ length (y ∷ ys) → get_or (y ∷ ys) k x ≡ x → (y ≡ x) ⊎ Contains ys x
      go zero within is = inl is
      go (suc k) within is = inr (k, omega arith, is)

  pub contains_later : (y : X) (ys : List X) (x : X) → Contains ys x → Contains (y ∷ ys) x
  contains_later y ys x h = (suc h.0, omega (arith, h.1), h.2)

  pigeons : (xs ys : List X) → IsAscending (λ a b. a ≢ b) xs → All (Contains ys) xs → length ys ≤ length xs → IsPermutation xs ys
  pigeons [] ys apart all few = rw (nil_from_length ys (omega arith)) (IsPermutation-refl [])
  pigeons (x ∷ xs) ys apart all few =
      let here = All-head (Contains ys) x xs all in
      let rest = remove ys here.0 in
      let out = IsPermutation-remove ys here.0 x here.1 (sym here.2) in
      let later = all_both (λ b. x ≢ b) (Contains ys) (Contains rest)
      (λ b other h. elim (contains_cases x rest b (Contains-permutation ys _ b out h)) [ inl same ↦ absurd (other same) | inr found ↦ found ])
      xs apart.0 (recursion_from_All _ xs (All-tail (Contains ys) x xs all)) in
      IsPermutation-trans _ _ _
      (IsPermutation-cons x _ _ (pigeons xs rest apart.1 (All-from_recursion _ xs later) (omega (arith, length_permutation _ _ out))))
      (IsPermutation-sym _ _ out)

module _ {X : Type 0} (n : X → ℕ) where
  above_all : (t b : X) (ts : List X) → AllByRecursion (λ z. n t < n z) ts → Contains ts b → n t < n b
  above_all t b [] all h = absurd (omega (arith, h.1))
  above_all t b (z ∷ ts) all h = elim (contains_cases z ts b h) [ inl same ↦ subst (λ w. n t < n w) same all.0 | inr more ↦ above_all t b ts all.1 more ]

  pub unique : (ts ys : List X) → IsAscending (λ a b. n a < n b) ts → IsNonDecreasingBy n ys → IsPermutation ts ys → ys ≡ ts
  unique [] ys up order same = nil_from_length ys (length_permutation [] ys same)
  unique (t ∷ ts) [] up order same = absurd (omega (arith, length_permutation (t ∷ ts) [] same))
  unique (t ∷ ts) (y ∷ ys) up order same =
      let back = IsPermutation-sym (t ∷ ts) (y ∷ ys) same in
      let y_in : Contains (t ∷ ts) y = Contains-permutation (y ∷ ys) (t ∷ ts) y back (0, omega arith, refl) in
      let t_in : Contains (y ∷ ys) t = Contains-permutation (t ∷ ts) (y ∷ ys) t same (0, omega arith, refl) in
      let least : n y ≤ n t = subst (λ w. n y ≤ n w) t_in.2 (order 0 t_in.0 t (omega arith) t_in.1) in
      let first : t ≡ y = elim (contains_cases t ts y y_in) [ inl is ↦ is | inr more ↦ absurd (let far = above_all t y ts up.0 more in omega (arith, far, least)) ] in
      let each = All-weaker (Contains (t ∷ ts)) (Contains (y ∷ ys)) (λ e. Contains-permutation (t ∷ ts) (y ∷ ys) e same) (t ∷ ts) (All-contains_itself (t ∷ ts)) in
      let found = all_both (λ z. n t < n z) (Contains (y ∷ ys)) (Contains ys)
      (λ b above within. elim (contains_cases y ys b within) [
        | inl is ↦ absurd (let alike : n t ≡ n b = ap n (first ∙ is) in omega (arith, alike, above))
        | inr more ↦ more
      ])
      ts up.0 (recursion_from_All _ ts (All-tail (Contains (y ∷ ys)) t ts each)) in
      let rest = pigeons ts ys (ascending_weaker _ _ (λ a b below is. let alike : n a ≡ n b = ap n is in omega (arith, alike, below)) ts up.1) (All-from_recursion _ ts found) (omega (arith, length_permutation (t ∷ ts) (y ∷ ys) same)) in
      ap₂ (λ a b. a ∷ b) (sym first) (unique ts ys up.1 (λ i j d low far. order (suc i) (suc j) d (omega (arith, low)) (omega (arith, far))) rest)
