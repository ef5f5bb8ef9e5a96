-- The words of sentences that are taken, of a batch's first revisions and of new sentences.
use Rattle.std.proofs.Common.{◌≡◌, ℕ, ◌+◌, ◌<◌, List, [], ◌∷◌, ◌++◌, map, length, get_or, take, Bool, true, false, cond, nat_eq, refl, sym, ap, ◌∙◌, arith}
use Rattle.std.specs.Prelude.{sum_by}
use Rattle.std.proofs.lemmas.List.Sums.{sum_by-cons, sum_by-append}
use Rattle.std.proofs.lemmas.List.{take_more}
use Rattle.tb_conllu.specs.Text.{BlockText}
use Rattle.tb_conllu.specs.Words.{words_of}
use Rattle.tb_core.specs.Machine.{Sentence, weigh, when, one, words}
use Rattle.tb_core.specs.Acts.{new_sentences}
use Rattle.tb_core.specs.Taking.{NewSentenceText, taken_of}
use Rattle.tb_core.specs.Tests.{first_body, first_bodies, first_words}

abbrev pub its_words : NewSentenceText → ℕ
its_words t = t.words

pub words_are : (bs : List BlockText) → sum_by its_words (map taken_of bs) ≡ sum_by words_of bs
words_are [] = refl
words_are (b ∷ bs) = sum_by-cons its_words (taken_of b) (map taken_of bs) ∙ ap (λ n. words_of b + n) (words_are bs) ∙ sym (sum_by-cons words_of b bs)

pub first_words_are : (n : ℕ) (xs : List Sentence) → sum_by words_of (first_bodies n xs) ≡ weigh (first_words n) xs
first_words_are n [] = refl
first_words_are n (x ∷ xs) = by_batch (nat_eq x.batch n) (first_words_are n xs)
  where
    by_batch : (t : Bool) → sum_by words_of (first_bodies n xs) ≡ weigh (first_words n) xs → sum_by words_of (cond t (first_body x ∷ []) [] ++ first_bodies n xs) ≡ when t (words_of (first_body x)) + weigh (first_words n) xs
    by_batch true rest = sum_by-cons words_of (first_body x) (first_bodies n xs) ∙ ap (λ k. words_of (first_body x) + k) rest
    by_batch false rest = omega (arith, rest)

pub new_words_are : (n : ℕ) (user : List ℕ) (bs : List BlockText) → sum_by words_of bs ≡ weigh words (new_sentences n user bs)
new_words_are n user [] = refl
new_words_are n user (b ∷ bs) = sum_by-cons words_of b bs ∙ ap (λ k. words_of b + k) (new_words_are n user bs)

pub new_count : (n : ℕ) (user : List ℕ) (bs : List BlockText) → weigh one (new_sentences n user bs) ≡ length bs
new_count n user [] = refl
new_count n user (b ∷ bs) = let rest = new_count n user bs in omega (arith, rest)

-- one more turn of a sum
pub sum_more : (ts : List NewSentenceText) (i : ℕ) (t : NewSentenceText) (old new : ℕ) → i < length ts → t ≡ get_or ts i t → new ≡ old + its_words t → old ≡ sum_by its_words (take i ts) → new ≡ sum_by its_words (take (i + 1) ts)
sum_more ts i t old new low at step before =
    let longer : take (i + 1) ts ≡ take i ts ++ t ∷ [] = take_more ts i t low ∙ ap (λ (u : NewSentenceText). take i ts ++ u ∷ []) (sym at) in
    let alone : sum_by its_words (take i ts) + its_words t ≡ sum_by its_words (take i ts) + (0 + its_words t) = omega arith in
    step ∙ ap (λ n. n + its_words t) before ∙ alone ∙ sym (sum_by-append its_words (take i ts) (t ∷ [])) ∙ ap (sum_by its_words) (sym longer)
