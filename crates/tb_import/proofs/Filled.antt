-- Each batch has a sentence.
use Rattle.std.proofs.Common.{◌≡◌, ℕ, zero, suc, ◌+◌, ◌<◌, ◌≤◌, ◌⊎◌, inl, inr, List, [], ◌∷◌, ◌++◌, length, length-append, true, false, nat_eq, refl, sym, ap, subst, arith}
use Rattle.std.proofs.Math.Nat.{eq-or-lt_of_le}
use Rattle.std.proofs.lemmas.Bool.Decides.{nat_tests}
use Rattle.tb_conllu.specs.Text.{BlockText}
use Rattle.tb_core.specs.Machine.{Machine, Sentence, change_at, weigh, when}
use Rattle.tb_core.specs.Acts.{Act, importing, stepping, correcting, pulling, restoring, IsAllowed, after, moved, new_batch, new_sentences, corrected, flagged}
use Rattle.tb_core.specs.Reaching.{Reached, begun, further}
use Rattle.tb_core.specs.Tests.{of_batch}
use Rattle.tb_core.proofs.Weights.{weigh-append, length-changed}

-- a change that leaves each sentence in its batch
stays_in : (f : Sentence → Sentence) → ((x : Sentence) → (f x).batch ≡ x.batch) → (n : ℕ) (xs : List Sentence) (i : ℕ) → weigh (of_batch n) (change_at f xs i) ≡ weigh (of_batch n) xs
stays_in f e n [] i = refl
stays_in f e n (x ∷ xs) zero = ap (λ k. when (nat_eq k n) 1 + weigh (of_batch n) xs) (e x)
stays_in f e n (x ∷ xs) (suc i) = ap (λ k. when (nat_eq x.batch n) 1 + k) (stays_in f e n xs i)

new_filled : (n : ℕ) (user : List ℕ) (bs : List BlockText) → 0 < length bs → 0 < weigh (of_batch n) (new_sentences n user bs)
new_filled n user [] some = absurd (omega (arith, some))
new_filled n user (b ∷ bs) some =
    let same : nat_eq n n ≡ true = grind (arith, nat_tests) in
    let one : when (nat_eq n n) 1 ≡ 1 = ap (λ t. when t 1) same in
    omega (arith, one)

abbrev IsFilled : Machine → Type 0
IsFilled s = (n : ℕ) → 0 < n → n ≤ length s.batches → 0 < weigh (of_batch n) s.sentences

filled_after : (s : Machine) (a : Act) → IsAllowed s a → IsFilled s → IsFilled (after s a)
filled_after s (importing name user bodies) allowed filled n above within =
    let longer = length-append s.batches (new_batch name ∷ []) in
    by_place (weigh-append (of_batch n) s.sentences (new_sentences (length s.batches + 1) user bodies)) (eq-or-lt_of_le (at_most longer))
  where
    at_most : length (s.batches ++ new_batch name ∷ []) ≡ length s.batches + 1 → n ≤ length s.batches + 1
    at_most longer = omega (arith, within, longer)

    by_place : weigh (of_batch n) (s.sentences ++ new_sentences (length s.batches + 1) user bodies) ≡ weigh (of_batch n) s.sentences + weigh (of_batch n) (new_sentences (length s.batches + 1) user bodies)
        → (n ≡ length s.batches + 1) ⊎ (n < length s.batches + 1) → 0 < weigh (of_batch n) (s.sentences ++ new_sentences (length s.batches + 1) user bodies)
    by_place all (inl is) =
        let now : 0 < weigh (of_batch n) (new_sentences (length s.batches + 1) user bodies) = subst (λ k. 0 < weigh (of_batch k) (new_sentences (length s.batches + 1) user bodies)) (sym is) (new_filled (length s.batches + 1) user bodies allowed.some) in
        omega (arith, all, now)
    by_place all (inr old) = let was = filled n above (omega (arith, old)) in omega (arith, all, was)
filled_after s (stepping place event user) allowed filled n above within = let same = length-changed (moved event user) s.batches place in filled n above (omega (arith, within, same))
filled_after s (correcting place user body) allowed filled n above within = subst (λ k. 0 < k) (sym (stays_in (corrected user body) (λ x. refl) n s.sentences place)) (filled n above within)
filled_after s (pulling place user) allowed filled n above within = subst (λ k. 0 < k) (sym (stays_in (flagged true) (λ x. refl) n s.sentences place)) (filled n above within)
filled_after s (restoring place user) allowed filled n above within = subst (λ k. 0 < k) (sym (stays_in (flagged false) (λ x. refl) n s.sentences place)) (filled n above within)

pub filled : (s : Machine) → Reached s → (n : ℕ) → 0 < n → n ≤ length s.batches → 0 < weigh (of_batch n) s.sentences
filled s begun n above within = absurd (omega (arith, above, within))
filled s (further t a reached allowed) n above within = filled_after t a allowed (filled t reached) n above within
