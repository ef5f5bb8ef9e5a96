-- What holds of each connection before a place, and of those after it, while one after the other is looked at.
use Rattle.std.proofs.Common.{◌≡◌, ◌≢◌, ◌≤◌, ◌<◌, ◌+◌, ℕ, List, length, set, get_or, Bool, true, false, nat_eq, refl, sym, ◌∙◌, subst, arith}
use Rattle.std.proofs.lemmas.Bool.Decides.{nat_tests}
use Rattle.std.proofs.lemmas.List.{get_or-set_same, get_or-set_other}

module _ {X : Type 0} (R : X → X → Type 0) (olds : List X) where
  -- R holds of each before this place, and what it was
  abbrev pub UpTo : (xs : List X) (n : ℕ) → Type 0
  UpTo xs n = (k : ℕ) → (d : X) → k < n → R (get_or olds k d) (get_or xs k d)

  -- the others are as they were
  abbrev pub SameFrom : (xs : List X) (n : ℕ) → Type 0
  SameFrom xs n = (k : ℕ) → (d : X) → n ≤ k → get_or xs k d ≡ get_or olds k d

  pub still : (xs : List X) (i : ℕ) (after : X) → UpTo xs i → UpTo (set xs i after) i
  still xs i after up k d small =
      let other : k ≢ i = λ e. omega (arith, small, e) in
      subst (R (get_or olds k d)) (sym (get_or-set_other xs i k after d other)) (up k d small)

  pub one_more : (xs : List X) (i : ℕ) (before after : X) → i < length xs → ((d : X) → before ≡ get_or xs i d) → R before after → UpTo xs i → SameFrom xs i
      → UpTo (set xs i after) (i + 1)
  one_more xs i before after inside here r up same k d small = by_test (nat_eq k i) refl
    where
      by_test : (b : Bool) → nat_eq k i ≡ b → R (get_or olds k d) (get_or (set xs i after) k d)
      by_test true e =
          let is : k ≡ i = grind (arith, nat_tests, e) in
          let old : before ≡ get_or olds i d = here d ∙ same i d (omega arith) in
          subst (λ n. R (get_or olds n d) (get_or (set xs i after) n d)) (sym is)
          (subst (λ x. R x (get_or (set xs i after) i d)) old (subst (R before) (sym (get_or-set_same xs i after d inside)) r))
      by_test false e =
          let other : k ≢ i = λ is. let eq : nat_eq k i ≡ true = grind (arith, nat_tests, is) in let no : true ≡ false = sym eq ∙ e in cc in
          let less : k < i = grind (arith, nat_tests, e, small) in
          subst (R (get_or olds k d)) (sym (get_or-set_other xs i k after d other)) (up k d less)

  pub rest_same : (xs : List X) (i : ℕ) (after : X) → SameFrom xs i → SameFrom (set xs i after) (i + 1)
  rest_same xs i after same k d far =
      let other : k ≢ i = λ e. omega (arith, far, e) in
      get_or-set_other xs i k after d other ∙ same k d (omega (arith, far))
