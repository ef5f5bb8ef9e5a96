-- Lists of pairs that ascend, with one more pair at an end.
use Rattle.std.proofs.Common.{◌≡◌, ◌↔◌, ◌⊎◌, ℕ, List, [], ◌∷◌, ◌++◌, get_or, inl, inr, ⊎_elim, arith}
use Rattle.std.specs.List.{AllPairs, Contains}
use Rattle.std.proofs.lemmas.List.Quantifiers.{all_pairs_push}
use Rattle.std.proofs.lemmas.List.Kept.{AllPairs-cons}
use Rattle.std.proofs.lemmas.List.Elements.{Contains-get_or, Contains-append_left, Contains-append_right, Contains-append_cases, Contains-push, Contains-push_cases}
use Rattle.tb_match.specs.Hits.{ComesBefore}

pub none_in_empty : {X : Type 0} → (x : X) → Contains [] x → ⊥
none_in_empty x (k, lt, e) = absurd (omega arith)

module _ (xs : List (ℕ × ℕ)) (y : ℕ × ℕ) (ascending : AllPairs ComesBefore xs) where
  pub push_ascending : ((x : ℕ × ℕ) → Contains xs x → ComesBefore x y) → AllPairs ComesBefore (xs ++ y ∷ [])
  push_ascending before = all_pairs_push ComesBefore xs y ascending (λ k d lt. before (get_or xs k d) (Contains-get_or xs k d lt))

  pub cons_ascending : ((x : ℕ × ℕ) → Contains xs x → ComesBefore y x) → AllPairs ComesBefore (y ∷ xs)
  cons_ascending after = AllPairs-cons ComesBefore y xs (λ k d lt. after (get_or xs k d) (Contains-get_or xs k d lt)) ascending

pub Contains-pushed : (xs : List (ℕ × ℕ)) (y x : ℕ × ℕ) → Contains (xs ++ y ∷ []) x ↔ (Contains xs x ⊎ (y ≡ x))
Contains-pushed xs y x = (
  λ h. Contains-push_cases xs y x h,
  λ h. ⊎_elim (λ c. Contains-append_left xs (y ∷ []) x c) (λ e. rw (← e) (Contains-push xs y)) h,
)

pub Contains-cons : (xs : List (ℕ × ℕ)) (y x : ℕ × ℕ) → Contains (y ∷ xs) x ↔ ((y ≡ x) ⊎ Contains xs x)
Contains-cons xs y x = (
  λ h. ⊎_elim (λ c. ⊎_elim (λ n. absurd (none_in_empty x n)) (λ e. inl e) (Contains-push_cases [] y x c)) (λ c. inr c) (Contains-append_cases (y ∷ []) xs x h),
  λ h. ⊎_elim (λ e. rw (← e) (Contains-append_left (y ∷ []) xs y (Contains-push [] y))) (λ c. Contains-append_right (y ∷ []) xs x c) h,
)
