-- How many words the sentences of a desk have, and those of an import that it takes.
use Rattle.std.proofs.Common.{◌≡◌, ℕ, zero, suc, ◌+◌, ◌-◌, ◌*◌, ◌^◌, ◌<◌, ◌≤◌, List, [], ◌∷◌, ◌++◌, length, length-append, map, get_or, take, Bool, true, false, nat_eq, refl, sym, subst, ◌∙◌, arith, lit<}
use Rattle.std.specs.Prelude.{sum_by}
use Rattle.std.specs.List.{AllByRecursion}
use Rattle.std.proofs.lemmas.List.{length-map}
use Rattle.std.proofs.lemmas.List.Sums.{sum_by-cons}
use Rattle.tb_conllu.specs.Text.{BlockText, text_of}
use Rattle.tb_conllu.specs.Words.{words_of}
use Rattle.tb_conllu.specs.Reported.{IsFile}
use Rattle.tb_core.specs.Machine.{Machine, Sentence, Revision, IsLawful, bodies_of, weigh, when, words}
use Rattle.tb_core.specs.Acts.{importing, after, new_sentence, new_sentences}
use Rattle.tb_core.specs.Reaching.{IsReachable}
use Rattle.tb_core.specs.Keeping.{IsFine}
use Rattle.tb_core.specs.Taking.{IsBody, NewSentenceText, taken_of}
use Rattle.tb_core.specs.Tests.{first_in, first_body, first_bodies, first_words}
use Rattle.tb_core.proofs.Weights.{all_there}
use Rattle.tb_core.proofs.Stored.{few_in, few_words}
use Rattle.tb_core.proofs.Keeps.{well}
use Rattle.tb_refine.proofs.Lasting.{weigh_words}
use Rattle.tb_refine.specs.Revisions.{HasRevision}
use Rattle.tb_refine.proofs.RowsOfState.{ReadsBack}
use Rattle.tb_refine.proofs.Bounded.{narrow}
use Rattle.tb_refine.proofs.Revised.{has_each}
use Rattle.tb_import.specs.Firsts.{IsFirst}
use Rattle.tb_import.proofs.Counting.{its_words, words_are, first_words_are, new_words_are}

wide : 1000000000 < 2 ^ 64
wide = lit< tt

pub small : (n : ℕ) → n ≤ 1000000000 → n < 2 ^ 64
small n h = omega (arith, h, wide)

-- ---- a part of a sum

front_below : {X : Type 0} (f : X → ℕ) (xs : List X) (k : ℕ) → sum_by f (take k xs) ≤ sum_by f xs
front_below f [] zero = omega arith
front_below f [] (suc k) = omega arith
front_below f (x ∷ xs) zero = omega arith
front_below f (x ∷ xs) (suc k) = let rest = front_below f xs k in let part = sum_by-cons f x (take k xs) in let all = sum_by-cons f x xs in omega (arith, rest, part, all)

pub so_far_below : {X : Type 0} (f : X → ℕ) (xs : List X) (k : ℕ) → sum_by f xs < 2 ^ 64 → sum_by f (take (k + 1) xs) < 2 ^ 64
so_far_below f xs k all = let part = front_below f xs (k + 1) in omega (arith, part, all)

-- ---- the sentences of an import

last_fine : (xs ys : List Sentence) → AllByRecursion IsFine (xs ++ ys) → AllByRecursion IsFine ys
last_fine [] ys h = h
last_fine (x ∷ xs) ys h = last_fine xs ys h.1

each_narrow : (n : ℕ) (user : List ℕ) (bs : List BlockText) → AllByRecursion IsFine (new_sentences n user bs) → AllByRecursion (λ (t : NewSentenceText). t.words < 2 ^ 32) (map taken_of bs)
each_narrow n user [] h = tt
each_narrow n user (b ∷ bs) h = (narrow (words_of b) (let few = few_words (new_sentence n user b) h.0 in omega (arith, few)), each_narrow n user bs h.1)

module _ (s : Machine) (name user : List ℕ) (bs : List BlockText) (next : IsReachable (after s (importing name user bs))) where
  new_fine : AllByRecursion IsFine (new_sentences (length s.batches + 1) user bs)
  new_fine = last_fine s.sentences (new_sentences (length s.batches + 1) user bs) (well (after s (importing name user bs)) next.reached).fine

  pub taken_narrow : AllByRecursion (λ (t : NewSentenceText). t.words < 2 ^ 32) (map taken_of bs)
  taken_narrow = each_narrow (length s.batches + 1) user bs new_fine

  pub taken_room : length s.sentences + length bs ≤ 1000000
  taken_room =
      let n = length s.batches + 1 in
      let all = length-append s.sentences (new_sentences n user bs) in
      let new = length-map bs (new_sentence n user) in
      let room = next.sentences in
      omega (arith, all, new, room)

  pub taken_small : sum_by its_words (map taken_of bs) < 2 ^ 64
  taken_small =
      let n = length s.batches + 1 in
      let is : sum_by its_words (map taken_of bs) ≡ weigh words (new_sentences n user bs) = words_are bs ∙ new_words_are n user bs in
      let few = weigh_words (new_sentences n user bs) new_fine in
      let new = length-map bs (new_sentence n user) in
      let room = taken_room in
      small (sum_by its_words (map taken_of bs)) (omega (arith, is, few, new, room))

pub one_of : (P : NewSentenceText → Type 0) (ts : List NewSentenceText) (i : ℕ) (t : NewSentenceText) → i < length ts → t ≡ get_or ts i t → AllByRecursion P ts → P t
one_of P [] i t low at h = absurd (omega (arith, low))
one_of P (u ∷ ts) zero t low at h = subst P (sym at) h.0
one_of P (u ∷ ts) (suc i) t low at h = one_of P ts i t (omega (arith, low)) at h.1

-- ---- the first revisions of a batch

first_lawful : (before : List Revision) (c : Revision) → AllByRecursion IsLawful (map (λ (r : Revision). r.body) (before ++ c ∷ [])) → IsLawful (first_in before c)
first_lawful [] c h = h.0
first_lawful (r ∷ rs) c h = h.0

first_few : (x : Sentence) → IsFine x → words_of (first_body x) ≤ 1000
first_few x fine = few_in (first_body x) (first_lawful x.before x.current fine.lawful)

when_few : (t : Bool) (n : ℕ) → n ≤ 1000 → when t n ≤ 1000
when_few true n h = h
when_few false n h = omega arith

firsts_few : (n : ℕ) (xs : List Sentence) → AllByRecursion IsFine xs → weigh (first_words n) xs ≤ 1000 * length xs
firsts_few n [] h = omega arith
firsts_few n (x ∷ xs) h = let here = when_few (nat_eq x.batch n) (words_of (first_body x)) (first_few x h.0) in let rest = firsts_few n xs h.1 in omega (arith, here, rest)

pub firsts_small : (s : Machine) (n : ℕ) → IsReachable s → sum_by words_of (first_bodies n s.sentences) < 2 ^ 64
firsts_small s n reachable =
    let is = first_words_are n s.sentences in
    let few = firsts_few n s.sentences (well s reachable.reached).fine in
    let room = reachable.sentences in
    small (sum_by words_of (first_bodies n s.sentences)) (omega (arith, is, few, room))

first_back : (before : List Revision) (c : Revision) → AllByRecursion ReadsBack (map (λ (r : Revision). r.body) (before ++ c ∷ [])) → ReadsBack (first_in before c)
first_back [] c h = h.0
first_back (r ∷ rs) c h = h.0

module _ (s : Machine) (number : ℕ) (b : BlockText) (first : IsFirst s number b) where
  pub one_small : IsReachable s → sum_by words_of (b ∷ []) < 2 ^ 64
  one_small reachable =
      let fine = all_there IsFine s.sentences (number - 1) first.sentence first.there (well s reachable.reached).fine in
      let few : words_of b ≤ 1000 = subst (λ c. words_of c ≤ 1000) (sym first.body) (first_few first.sentence fine) in
      small (0 + words_of b) (omega (arith, few))

  pub one_body : (text : List ℕ) → AllByRecursion (λ (y : Sentence). AllByRecursion ReadsBack (bodies_of y)) s.sentences → text ≡ text_of (b ∷ []) → IsBody text (b ∷ [])
  one_body text all is =
      let x = first.sentence in
      let back = subst ReadsBack (sym first.body) (first_back x.before x.current (all_there (λ (y : Sentence). AllByRecursion ReadsBack (bodies_of y)) s.sentences (number - 1) x first.there all)) in
      record { file = subst (λ t. IsFile t (b ∷ [])) (sym is) back.1; valid = back.0; some = omega arith }

  pub first_stands : (q : Revision) × HasRevision first.sentence 1 q
  first_stands =
      let whole = length-append first.sentence.before (first.sentence.current ∷ []) in
      has_each first.sentence 1 (length first.sentence.before + 1) (omega arith) (omega arith) refl
