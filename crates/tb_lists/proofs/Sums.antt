-- The lines of the batches add up to the totals.
use Rattle.std.proofs.Common.{◌≡◌, ℕ, suc, ◌+◌, ◌-◌, ◌<◌, ◌≤◌, List, [], ◌∷◌, length, Bool, true, false, cond, nat_eq, slice_index_or, refl, sym, ap, ◌∙◌, arith}
use Rattle.std.specs.List.{AllByRecursion}
use Rattle.std.proofs.lemmas.Bool.Decides.{nat_tests}
use Rattle.tb_core.specs.declared.kinds.State.{State}
use Rattle.tb_core.specs.declared.kinds.State.TheVariants.{Withdrawn}
use Rattle.tb_core.specs.Events.{is_state}
use Rattle.tb_core.specs.Keeping.{IsPlaced}
use Rattle.tb_core.specs.Machine.{Batch, Sentence, Machine, no_batch, weigh, when, at_work, one, words}
use Rattle.tb_core.specs.Totals.{in_state}
use Rattle.tb_lists.specs.Batches.{taken_out, lines_from, sentences_in, words_in, sum_of, AddUp}

when_none : (b : Bool) → when b 0 ≡ 0
when_none true = refl
when_none false = refl

when_sum : (b : Bool) (m n : ℕ) → when b (m + n) ≡ when b m + when b n
when_sum true m n = refl
when_sum false m n = refl

-- ---- one sentence and one batch; the batch is in the state, the state is that of what is withdrawn, the sentence is in the batch, the sentence is pulled

other_batch : (in_it out its pulled : Bool) (v : ℕ) → its ≡ false → when in_it (cond pulled 0 (when its v)) + when out (when pulled (when its v)) ≡ 0
other_batch in_it out true pulled v e = absurd cc
other_batch in_it out false true v e = let a = when_none in_it in let b = when_none out in omega (arith, a, b)
other_batch in_it out false false v e = let a = when_none in_it in let b = when_none out in omega (arith, a, b)

own_batch : (in_it out its pulled : Bool) (v : ℕ) → its ≡ true → when in_it (cond pulled 0 (when its v)) + when out (when pulled (when its v)) ≡ when (cond pulled out in_it) v
own_batch in_it out false pulled v e = absurd cc
own_batch in_it out true true v e = let a = when_none in_it in omega (arith, a)
own_batch in_it out true false v e = let b = when_none out in omega (arith, b)

module _ (st : State) (w : Sentence → ℕ) where
  -- what a sentence adds by a batch, and by all batches, the first of which has the number n
  abbrev part : Sentence → ℕ → Batch → ℕ
  part x n b = when (is_state b.state st) (at_work n w x) + when (is_state Withdrawn st) (taken_out n w x)

  abbrev parts : Sentence → ℕ → List Batch → ℕ
  parts x n [] = 0
  parts x n (b ∷ bs) = part x n b + parts x (n + 1) bs

  -- what all sentences add by a batch, and by all batches
  abbrev share : List Sentence → ℕ → Batch → ℕ
  share xs n b = when (is_state b.state st) (weigh (at_work n w) xs) + when (is_state Withdrawn st) (weigh (taken_out n w) xs)

  abbrev shares : List Sentence → ℕ → List Batch → ℕ
  shares xs n [] = 0
  shares xs n (b ∷ bs) = share xs n b + shares xs (n + 1) bs

  shares_none : (n : ℕ) (bs : List Batch) → shares [] n bs ≡ 0
  shares_none n [] = refl
  shares_none n (b ∷ bs) =
      let a = when_none (is_state b.state st) in
      let o = when_none (is_state Withdrawn st) in
      let rest = shares_none (n + 1) bs in
      omega (arith, a, o, rest)

  shares_more : (x : Sentence) (xs : List Sentence) (n : ℕ) (bs : List Batch) → shares (x ∷ xs) n bs ≡ parts x n bs + shares xs n bs
  shares_more x xs n [] = refl
  shares_more x xs n (b ∷ bs) =
      let a = when_sum (is_state b.state st) (at_work n w x) (weigh (at_work n w) xs) in
      let o = when_sum (is_state Withdrawn st) (taken_out n w x) (weigh (taken_out n w) xs) in
      let rest = shares_more x xs (n + 1) bs in
      omega (arith, a, o, rest)

  -- the batches after its own
  parts_after : (x : Sentence) (n : ℕ) (bs : List Batch) → x.batch < n → parts x n bs ≡ 0
  parts_after x n [] low = refl
  parts_after x n (b ∷ bs) low =
      let other : nat_eq x.batch n ≡ false = grind (arith, nat_tests, low) in
      let here = other_batch (is_state b.state st) (is_state Withdrawn st) (nat_eq x.batch n) x.pulled (w x) other in
      let rest = parts_after x (n + 1) bs (omega (arith, low)) in
      omega (arith, here, rest)

  in_one : (pulled : Bool) (b : Batch) (v : ℕ) → when (cond pulled (is_state Withdrawn st) (is_state b.state st)) v ≡ when (is_state (cond pulled Withdrawn b.state) st) v
  in_one true b v = refl
  in_one false b v = refl

  parts_are : (x : Sentence) (n : ℕ) (bs : List Batch) → n ≤ x.batch → x.batch < n + length bs
      → parts x n bs ≡ when (is_state (cond x.pulled Withdrawn (slice_index_or bs (x.batch - n) no_batch).state) st) (w x)
  parts_are x n [] low within = absurd (omega (arith, low, within))
  parts_are x n (b ∷ bs) low within = by (λ above. parts_are x (n + 1) bs above (omega (arith, within))) (nat_eq x.batch n) refl
    where
      by : (n + 1 ≤ x.batch → parts x (n + 1) bs ≡ when (is_state (cond x.pulled Withdrawn (slice_index_or bs (x.batch - (n + 1)) no_batch).state) st) (w x)) → (its : Bool) → nat_eq x.batch n ≡ its → parts x n (b ∷ bs) ≡ when (is_state (cond x.pulled Withdrawn (slice_index_or (b ∷ bs) (x.batch - n) no_batch).state) st) (w x)
      by later true is =
          let same : x.batch ≡ n = grind (arith, nat_tests, is) in
          let at : 0 ≡ x.batch - n = omega (arith, same) in
          let here = own_batch (is_state b.state st) (is_state Withdrawn st) (nat_eq x.batch n) x.pulled (w x) is in
          let rest = parts_after x (n + 1) bs (omega (arith, same)) in
          let all : parts x n (b ∷ bs) ≡ when (cond x.pulled (is_state Withdrawn st) (is_state b.state st)) (w x) = omega (arith, here, rest) in
          all ∙ in_one x.pulled b (w x) ∙ ap (λ i. when (is_state (cond x.pulled Withdrawn (slice_index_or (b ∷ bs) i no_batch).state) st) (w x)) at
      by later false is =
          let other : x.batch ≡ n → ⊥ = λ same. (let yes_it : nat_eq x.batch n ≡ true = grind (arith, nat_tests, same) in absurd (let no : true ≡ false = sym yes_it ∙ is in cc)) in
          let above : n + 1 ≤ x.batch = omega (arith, low, other) in
          let at : suc (x.batch - (n + 1)) ≡ x.batch - n = omega (arith, above) in
          let here = other_batch (is_state b.state st) (is_state Withdrawn st) (nat_eq x.batch n) x.pulled (w x) is in
          let all : parts x n (b ∷ bs) ≡ parts x (n + 1) bs = omega (arith, here) in
          all ∙ later above ∙ ap (λ i. when (is_state (cond x.pulled Withdrawn (slice_index_or (b ∷ bs) i no_batch).state) st) (w x)) at

  shares_are : (bs : List Batch) (xs : List Sentence) → AllByRecursion (IsPlaced (length bs)) xs → shares xs 1 bs ≡ weigh (in_state bs st w) xs
  shares_are bs [] placed = shares_none 1 bs
  shares_are bs (x ∷ xs) placed =
      let low = placed.0.0 in
      let within = placed.0.1 in
      let here : parts x 1 bs ≡ in_state bs st w x = parts_are x 1 bs low (omega (arith, within)) in
      let rest = shares_are bs xs placed.1 in
      let more = shares_more x xs 1 bs in
      omega (arith, here, rest, more)

sentences_added : (st : State) (xs : List Sentence) (n : ℕ) (bs : List Batch) → sum_of (sentences_in st) (lines_from xs n bs) ≡ shares st one xs n bs
sentences_added st xs n [] = refl
sentences_added st xs n (b ∷ bs) = ap (λ m. share st one xs n b + m) (sentences_added st xs (n + 1) bs)

words_added : (st : State) (xs : List Sentence) (n : ℕ) (bs : List Batch) → sum_of (words_in st) (lines_from xs n bs) ≡ shares st words xs n bs
words_added st xs n [] = refl
words_added st xs n (b ∷ bs) = ap (λ m. share st words xs n b + m) (words_added st xs (n + 1) bs)

pub they_add_up : (s : Machine) (st : State) → AllByRecursion (IsPlaced (length s.batches)) s.sentences → AddUp s st
they_add_up s st placed = record {
  sentences = sentences_added st s.sentences 1 s.batches ∙ shares_are st one s.batches s.sentences placed;
  words = words_added st s.sentences 1 s.batches ∙ shares_are st words s.batches s.sentences placed;
}
