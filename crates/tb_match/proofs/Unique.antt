-- A strictly ascending list is fixed by its members.
use Rattle.std.proofs.Common.{◌≡◌, ◌<◌, ◌↔◌, ℕ, suc, List, [], ◌∷◌, refl, sym, ap, ◌∙◌, subst, inl, inr, ⊎_elim, arith}
use Rattle.std.specs.List.{AllPairs, Contains}
use Rattle.tb_match.specs.Hits.{ComesBefore}
use Rattle.tb_match.proofs.Ordered.{none_in_empty, Contains-cons}

irreflexive : (p : ℕ × ℕ) → ComesBefore p p → ⊥
irreflexive p h = ⊎_elim (λ lt. omega arith) (λ (e, lt). omega arith) h

asymmetric : (p q : ℕ × ℕ) → ComesBefore p q → ComesBefore q p → ⊥
asymmetric p q a b = ⊎_elim
    (λ (lt : p.0 < q.0). ⊎_elim (λ (gt : q.0 < p.0). omega arith) (λ (e, gt). omega arith) b)
    (λ (e, lt). ⊎_elim (λ (gt : q.0 < p.0). omega arith) (λ (f, gt). omega arith) b)
    a

head_before : (x : ℕ × ℕ) (xs : List (ℕ × ℕ)) → AllPairs ComesBefore (x ∷ xs) → (y : ℕ × ℕ) → Contains xs y → ComesBefore x y
head_before x xs h y (k, lt, e) = subst (λ z. ComesBefore x z) e (h 0 (suc k) y (omega arith) (omega arith))

tail_pairs : (x : ℕ × ℕ) (xs : List (ℕ × ℕ)) → AllPairs ComesBefore (x ∷ xs) → AllPairs ComesBefore xs
tail_pairs x xs h = λ i j d p q. h (suc i) (suc j) d (omega arith) (omega arith)

has_head : (x : ℕ × ℕ) (xs : List (ℕ × ℕ)) → Contains (x ∷ xs) x
has_head x xs = (Contains-cons xs x x).1 (inl refl)

module _ (x y : ℕ × ℕ) (xs ys : List (ℕ × ℕ)) (a : AllPairs ComesBefore (x ∷ xs)) (b : AllPairs ComesBefore (y ∷ ys)) where
  same_heads : Contains (y ∷ ys) x → Contains (x ∷ xs) y → x ≡ y
  same_heads p q = ⊎_elim
      (λ e. sym e)
      (λ later. ⊎_elim (λ e. e) (λ sooner. absurd (asymmetric x y (head_before x xs a y sooner) (head_before y ys b x later))) ((Contains-cons xs x y).0 q))
      ((Contains-cons ys y x).0 p)

  in_tail : x ≡ y → (z : ℕ × ℕ) → Contains xs z → Contains (y ∷ ys) z → Contains ys z
  in_tail e z c h = ⊎_elim
      (λ (f : y ≡ z). absurd (irreflexive x (subst (λ w. ComesBefore x w) (sym (e ∙ f)) (head_before x xs a z c))))
      (λ later. later)
      ((Contains-cons ys y z).0 h)

pub ascending_unique : (xs ys : List (ℕ × ℕ)) → AllPairs ComesBefore xs → AllPairs ComesBefore ys → ((z : ℕ × ℕ) → Contains xs z ↔ Contains ys z) → xs ≡ ys
ascending_unique [] [] a b same = refl
ascending_unique [] (y ∷ ys) a b same = absurd (none_in_empty y ((same y).1 (has_head y ys)))
ascending_unique (x ∷ xs) [] a b same = absurd (none_in_empty x ((same x).0 (has_head x xs)))
ascending_unique (x ∷ xs) (y ∷ ys) a b same =
    let e = same_heads x y xs ys a b ((same x).0 (has_head x xs)) ((same y).1 (has_head y ys)) in
    let rest : (z : ℕ × ℕ) → Contains xs z ↔ Contains ys z = λ z. (
      λ c. in_tail x y xs ys a b e z c ((same z).0 ((Contains-cons xs x z).1 (inr c))),
      λ c. in_tail y x ys xs b a (sym e) z c ((same z).1 ((Contains-cons ys y z).1 (inr c))),
    ) in
    ap (λ z. z ∷ xs) e ∙ ap (λ zs. y ∷ zs) (ascending_unique xs ys (tail_pairs x xs a) (tail_pairs y ys b) rest)
