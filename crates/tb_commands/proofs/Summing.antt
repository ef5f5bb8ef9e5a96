-- The sentences of a batch that are not pulled, counted from the rows.
use Rattle.std.proofs.Common.{◌≡◌, ℕ, suc, ◌+◌, ◌<◌, ◌≤◌, ◌^◌, List, [], ◌∷◌, map, length, get_or, take, Bool, true, false, cond, nat_eq, Some, slice_get, refl, sym, ap, ap₂, subst, ◌∙◌, arith}
use Rattle.std.specs.Prelude.{sum_by}
use Rattle.std.proofs.Math.Seq.{take-suc}
use Rattle.std.proofs.lemmas.List.Sums.{sum_by-cons, sum_by-append, sum_by-take-drop}
use Rattle.sqlite_trees.specs.Tree.{IsAscending}
use Rattle.tb_core.specs.Machine.{Sentence, weigh, when, at_work, one, rev, words, Machine}
use Rattle.tb_core.specs.Rows.{pulled_from}
use Rattle.tb_core.specs.Keeping.{IsWell}
use Rattle.tb_reads.specs.declared.work.BatchSentence.{BatchSentence}
use Rattle.tb_reads.specs.Found.{work_of}
use Rattle.tb_refine.specs.DeskTables.{sentence_record}
use Rattle.tb_refine.proofs.Lasting.{weigh_words}
use Rattle.tb_refine.specs.Listed.{is_listed}
use Rattle.tb_refine.proofs.Listing.{listed_pulled, pulled_ascends}
use Rattle.tb_commands.specs.Working.{unless_pulled, each_one, its_words}

-- ---- the sums

one_more : (t : Bool) (item : BatchSentence) (l : List BatchSentence) (f : BatchSentence → ℕ) (r : ℕ) (p : Bool) (a : ℕ) → sum_by f l ≡ r → f item ≡ cond p 0 a → sum_by f (cond t (item ∷ l) l) ≡ cond p 0 (when t a) + r
one_more true item l f r p a e h = sum_by-cons f item l ∙ ap₂ (λ m n. m + n) h e
one_more false item l f r p a e h = e ∙ nothing p
  where
    nothing : (p : Bool) → r ≡ cond p 0 0 + r
    nothing true = omega arith
    nothing false = omega arith

pub work_sums : (w : BatchSentence → ℕ) (v : Sentence → ℕ) → ((n : ℕ) (x : Sentence) → w (record { number = n; rev = rev x; words = words x }) ≡ v x) → (batch : ℕ) (pulled : List ℕ) (n : ℕ) (xs : List Sentence)
    → ((i : ℕ) (x : Sentence) → slice_get xs i ≡ Some x → is_listed (n + i) pulled ≡ x.pulled) → sum_by (unless_pulled pulled w) (work_of batch n (map sentence_record xs)) ≡ weigh (at_work batch v) xs
work_sums w v same batch pulled n [] flags = refl
work_sums w v same batch pulled n (x ∷ xs) flags =
    let at : n ≡ n + 0 = omega arith in
    let flag : is_listed n pulled ≡ x.pulled = ap (λ k. is_listed k pulled) at ∙ flags 0 x refl in
    let item : BatchSentence = record { number = n; rev = rev x; words = words x } in
    one_more (nat_eq x.batch batch) item (work_of batch (suc n) (map sentence_record xs)) (unless_pulled pulled w) (weigh (at_work batch v) xs) x.pulled (v x)
    (work_sums w v same batch pulled (suc n) xs (λ i y there. let shift : suc n + i ≡ n + suc i = omega arith in ap (λ k. is_listed k pulled) shift ∙ flags (suc i) y there))
    (ap (λ p. cond p 0 (w item)) flag ∙ ap (λ a. cond x.pulled 0 a) (same n x))

-- one more turn
pub sum_more : {X : Type 0} (f : X → ℕ) (xs : List X) (i : ℕ) (d : X) (old new : ℕ) → i < length xs → new ≡ old + f (get_or xs i d) → old ≡ sum_by f (take i xs) → new ≡ sum_by f (take (i + 1) xs)
sum_more f xs i d old new low step before =
    let next : suc i ≡ i + 1 = omega arith in
    let alone : sum_by f (take i xs) + f (get_or xs i d) ≡ sum_by f (take i xs) + (0 + f (get_or xs i d)) = omega arith in
    step ∙ ap (λ n. n + f (get_or xs i d)) before ∙ alone ∙ sym (sum_by-append f (take i xs) (get_or xs i d ∷ [])) ∙ ap (sum_by f) (sym (take-suc xs i d low)) ∙ ap (λ k. sum_by f (take k xs)) next

sum_within : {X : Type 0} (f : X → ℕ) (xs : List X) (i : ℕ) (d : X) → i < length xs → sum_by f (take i xs) + f (get_or xs i d) ≤ sum_by f xs
sum_within f xs i d low =
    let next = sum_more f xs i d (sum_by f (take i xs)) (sum_by f (take i xs) + f (get_or xs i d)) low refl refl in
    let parts = sum_by-take-drop f xs (i + 1) in
    omega (arith, next, parts)

-- one more turn, of what is no more than the sum
pub sum_bound : {X : Type 0} (f : X → ℕ) (xs : List X) (i : ℕ) (d : X) (old new : ℕ) → i < length xs → new ≤ old + f (get_or xs i d) → old ≤ sum_by f (take i xs) → new ≤ sum_by f (take (i + 1) xs)
sum_bound f xs i d old new low step before =
    let next = sum_more f xs i d (sum_by f (take i xs)) (sum_by f (take i xs) + f (get_or xs i d)) low refl refl in
    omega (arith, step, before, next)

pub sum_fits : {X : Type 0} (f : X → ℕ) (xs : List X) (i : ℕ) (d : X) (old n : ℕ) → i < length xs → old ≤ sum_by f (take i xs) → sum_by f xs < n → old + f (get_or xs i d) < n
sum_fits f xs i d old n low before all = let within = sum_within f xs i d low in omega (arith, before, all, within)

pub sums_stand : (xs : List Sentence) (batch : ℕ) (work : List BatchSentence) (pulled : List ℕ) (n w : ℕ) → work ≡ work_of batch 1 (map sentence_record xs) → pulled ≡ pulled_from 1 xs
    → (IsAscending (λ a b. a < b) pulled → (n ≡ sum_by (unless_pulled pulled each_one) work) × (w ≡ sum_by (unless_pulled pulled its_words) work)) → (n ≡ weigh (at_work batch one) xs) × (w ≡ weigh (at_work batch words) xs)
sums_stand xs batch work pulled n w work_is pulled_is reported =
    let up : IsAscending (λ a b. a < b) pulled = subst (IsAscending (λ a b. a < b)) (sym pulled_is) (pulled_ascends 1 xs) in
    let flags : (i : ℕ) (x : Sentence) → slice_get xs i ≡ Some x → is_listed (1 + i) pulled ≡ x.pulled = λ i x there. ap (is_listed (1 + i)) pulled_is ∙ listed_pulled (1 + i) 1 xs i x refl there in
    let sums = reported up in (
      sums.0 ∙ ap (sum_by (unless_pulled pulled each_one)) work_is ∙ work_sums each_one one (λ _ _. refl) batch pulled 1 xs flags,
      sums.1 ∙ ap (sum_by (unless_pulled pulled its_words)) work_is ∙ work_sums its_words words (λ _ _. refl) batch pulled 1 xs flags,
    )

-- ---- the sums of a batch fit 32 bits

work_few : (batch n : ℕ) (xs : List Sentence) → length (work_of batch n (map sentence_record xs)) ≤ length xs
work_few batch n [] = omega arith
work_few batch n (x ∷ xs) = by (nat_eq x.batch batch) (work_few batch (suc n) xs)
  where
    by : (t : Bool) → length (work_of batch (suc n) (map sentence_record xs)) ≤ length xs
        → length (cond t (record { number = n; rev = rev x; words = words x } ∷ work_of batch (suc n) (map sentence_record xs)) (work_of batch (suc n) (map sentence_record xs))) ≤ suc (length xs)
    by true h = omega (arith, h)
    by false h = omega (arith, h)

work_light : (batch n : ℕ) (xs : List Sentence) → sum_by its_words (work_of batch n (map sentence_record xs)) ≤ weigh words xs
work_light batch n [] = omega arith
work_light batch n (x ∷ xs) = by (nat_eq x.batch batch) (work_light batch (suc n) xs)
  where
    by : (t : Bool) → sum_by its_words (work_of batch (suc n) (map sentence_record xs)) ≤ weigh words xs
        → sum_by its_words (cond t (record { number = n; rev = rev x; words = words x } ∷ work_of batch (suc n) (map sentence_record xs)) (work_of batch (suc n) (map sentence_record xs))) ≤ words x + weigh words xs
    by true h =
        let item : BatchSentence = record { number = n; rev = rev x; words = words x } in
        let parts : sum_by its_words (item ∷ work_of batch (suc n) (map sentence_record xs)) ≡ words x + sum_by its_words (work_of batch (suc n) (map sentence_record xs)) = sum_by-cons its_words item (work_of batch (suc n) (map sentence_record xs)) in
        omega (arith, h, parts)
    by false h = omega (arith, h)

pub work_fits : (s : Machine) (batch : ℕ) (work : List BatchSentence) → IsWell s → length s.sentences ≤ 1000000 → work ≡ work_of batch 1 (map sentence_record s.sentences) → (length work < 2 ^ 32) × (sum_by its_words work < 2 ^ 32)
work_fits s batch work well few is =
    let counted = work_few batch 1 s.sentences in
    let light = work_light batch 1 s.sentences in
    let all = weigh_words s.sentences well.fine in
    let size = ap length is in
    let sum = ap (sum_by its_words) is in
    (omega (arith, few, counted, size), omega (arith, few, light, all, sum))
