-- Sentences stand in the order of their batches, and those of one batch follow each other.
use Rattle.std.proofs.Common.{◌≡◌, ℕ, zero, suc, ◌+◌, ◌≤◌, ◌<◌, List, [], ◌∷◌, ◌++◌, length, map, Bool, true, false, cond, nat_eq, refl, sym, ap, subst, ◌∙◌, arith}
use Rattle.std.specs.Prelude.{nat_lt}
use Rattle.std.specs.List.{AllByRecursion}
use Rattle.std.proofs.lemmas.Bool.{ne_eqb, le-ltb}
use Rattle.std.proofs.lemmas.Bool.Decides.{nat_tests}
use Rattle.tb_conllu.specs.Text.{BlockText}
use Rattle.tb_core.specs.Machine.{Machine, Sentence, change_at, weigh, when, rev, words}
use Rattle.tb_core.specs.Acts.{Act, importing, stepping, correcting, pulling, restoring, after, new_sentences, corrected, flagged}
use Rattle.tb_core.specs.Keeping.{IsPlaced, IsWell}
use Rattle.tb_core.specs.Reaching.{Reached, begun, further}
use Rattle.tb_core.specs.Tests.{of_batch, before_batch}
use Rattle.tb_refine.specs.DeskTables.{sentence_record}
use Rattle.tb_reads.specs.declared.work.BatchSentence.{BatchSentence}
use Rattle.tb_reads.specs.Found.{work_of}

-- ---- the order

-- batches do not fall from one sentence to the next, and the first is this one or a later one
abbrev pub RisesFrom : ℕ → List Sentence → Type 0
RisesFrom k [] = Unit {0}
RisesFrom k (x ∷ xs) = (k ≤ x.batch) × RisesFrom x.batch xs

new_rises : (k n : ℕ) (user : List ℕ) (bs : List BlockText) → k ≤ n → RisesFrom k (new_sentences n user bs)
new_rises k n user [] low = tt
new_rises k n user (b ∷ bs) low = (low, new_rises n n user bs (omega arith))

grown : (k m : ℕ) (user : List ℕ) (xs : List Sentence) (bs : List BlockText) → AllByRecursion (IsPlaced m) xs → k ≤ m + 1 → RisesFrom k xs → RisesFrom k (xs ++ new_sentences (m + 1) user bs)
grown k m user [] bs placed low up = new_rises k (m + 1) user bs low
grown k m user (x ∷ xs) bs placed low up = (up.0, let here = placed.0.1 in grown x.batch m user xs bs placed.1 (omega (arith, here)) up.1)

changed : (f : Sentence → Sentence) → ((x : Sentence) → (f x).batch ≡ x.batch) → (k : ℕ) (xs : List Sentence) (i : ℕ) → RisesFrom k xs → RisesFrom k (change_at f xs i)
changed f e k [] i up = tt
changed f e k (x ∷ xs) zero up = (subst (λ n. k ≤ n) (sym (e x)) up.0, subst (λ n. RisesFrom n xs) (sym (e x)) up.1)
changed f e k (x ∷ xs) (suc i) up = (up.0, changed f e x.batch xs i up.1)

rises_after : (s : Machine) (a : Act) → IsWell s → RisesFrom 0 s.sentences → RisesFrom 0 (after s a).sentences
rises_after s (importing name user bodies) well up = grown 0 (length s.batches) user s.sentences bodies well.placed (omega arith) up
rises_after s (stepping place event user) well up = up
rises_after s (correcting place user body) well up = changed (corrected user body) (λ x. refl) 0 s.sentences place up
rises_after s (pulling place user) well up = changed (flagged true) (λ x. refl) 0 s.sentences place up
rises_after s (restoring place user) well up = changed (flagged false) (λ x. refl) 0 s.sentences place up

pub rises : ((s : Machine) → Reached s → IsWell s) → (s : Machine) → Reached s → RisesFrom 0 s.sentences
rises well s begun = tt
rises well s (further t a r allowed) = rises_after t a (well t r) (rises well t r)

-- ---- the sentences of a batch

-- the number of the first of them
abbrev pub StartsAt : ℕ → List BatchSentence → Type 0
StartsAt n [] = Unit {0}
StartsAt n (w ∷ ws) = w.number ≡ n

none_of : (n start k : ℕ) (xs : List Sentence) → n < k → RisesFrom k xs → work_of n start (map sentence_record xs) ≡ []
none_of n start k [] low up = refl
none_of n start k (x ∷ xs) low up =
    let here = up.0 in
    let past : n < x.batch = omega (arith, low, here) in
    let item : BatchSentence = record { number = start; rev = rev x; words = words x } in
    let more = work_of n (suc start) (map sentence_record xs) in
    ap (λ t. cond t (item ∷ more) more) (ne_eqb x.batch n (λ e. omega (arith, e, past))) ∙ none_of n (suc start) x.batch xs past up.1

none_before : (n k : ℕ) (xs : List Sentence) → n ≤ k → RisesFrom k xs → weigh (before_batch n) xs ≡ 0
none_before n k [] low up = refl
none_before n k (x ∷ xs) low up =
    let here = up.0 in
    let past : n ≤ x.batch = omega (arith, low, here) in
    let none : when (nat_lt x.batch n) 1 ≡ 0 = ap (λ t. when t 1) (le-ltb x.batch n past) in
    let rest = none_before n x.batch xs past up.1 in
    omega (arith, none, rest)

pub starts : (n start k : ℕ) (xs : List Sentence) → RisesFrom k xs → StartsAt (start + weigh (before_batch n) xs) (work_of n start (map sentence_record xs))
starts n start k [] up = tt
starts n start k (x ∷ xs) up = by_batch (nat_eq x.batch n) (nat_lt x.batch n) refl refl (starts n (suc start) x.batch xs up.1)
  where
    item : BatchSentence
    item = record { number = start; rev = rev x; words = words x }

    rest : ℕ
    rest = weigh (before_batch n) xs

    more : List BatchSentence
    more = work_of n (suc start) (map sentence_record xs)

    by_batch : (t u : Bool) → nat_eq x.batch n ≡ t → nat_lt x.batch n ≡ u → StartsAt (suc start + rest) more → StartsAt (start + (when (nat_lt x.batch n) 1 + rest)) (cond (nat_eq x.batch n) (item ∷ more) more)
    by_batch true u is less later =
        let same : x.batch ≡ n = grind (arith, nat_tests, is) in
        let none : when (nat_lt x.batch n) 1 ≡ 0 = ap (λ t. when t 1) (le-ltb x.batch n (omega (arith, same))) in
        let after_it = none_before n x.batch xs (omega (arith, same)) up.1 in
        subst (λ t. StartsAt (start + (when (nat_lt x.batch n) 1 + rest)) (cond t (item ∷ more) more)) (sym is) (omega (arith, none, after_it))
    by_batch false true is less later =
        let next : suc start + rest ≡ start + (1 + rest) = omega arith in
        subst (λ t. StartsAt (start + (when (nat_lt x.batch n) 1 + rest)) (cond t (item ∷ more) more)) (sym is)
        (subst (λ t. StartsAt (start + (when t 1 + rest)) more) (sym less) (subst (λ k. StartsAt k more) next later))
    by_batch false false is less later =
        let past : n < x.batch = grind (arith, nat_tests, is, less) in
        subst (λ t. StartsAt (start + (when (nat_lt x.batch n) 1 + rest)) (cond t (item ∷ more) more)) (sym is)
        (subst (StartsAt (start + (when (nat_lt x.batch n) 1 + rest))) (sym (none_of n (suc start) x.batch xs past up.1)) tt)

pub counted : (n start : ℕ) (xs : List Sentence) → length (work_of n start (map sentence_record xs)) ≡ weigh (of_batch n) xs
counted n start [] = refl
counted n start (x ∷ xs) = by_batch (nat_eq x.batch n) (counted n (suc start) xs)
  where
    item : BatchSentence
    item = record { number = start; rev = rev x; words = words x }

    more : List BatchSentence
    more = work_of n (suc start) (map sentence_record xs)

    by_batch : (t : Bool) → length more ≡ weigh (of_batch n) xs → length (cond t (item ∷ more) more) ≡ when t 1 + weigh (of_batch n) xs
    by_batch true rest = omega (arith, rest)
    by_batch false rest = omega (arith, rest)
