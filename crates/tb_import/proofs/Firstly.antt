-- The first revisions of a batch's sentences, found by the numbers of these.
use Rattle.std.proofs.Common.{◌≡◌, ℕ, suc, ◌+◌, ◌-◌, List, [], ◌∷◌, ◌++◌, map, length, Bool, true, false, cond, nat_eq, Some, slice_get, refl, sym, ap, subst, ◌∙◌, arith}
use Rattle.std.specs.List.{AllByRecursion}
use Rattle.std.specs.Prelude.{sum_by}
use Rattle.tb_conllu.specs.Text.{BlockText, text_of}
use Rattle.tb_conllu.specs.Words.{words_of}
use Rattle.tb_conllu.specs.Shape.{IsShaped}
use Rattle.tb_conllu.specs.Reported.{IsFile}
use Rattle.tb_core.specs.declared.replies.Imported.{Imported}
use Rattle.tb_core.specs.Machine.{Machine, Sentence, Revision, IsLawful, revisions, weigh, rev, words}
use Rattle.tb_core.specs.Keeping.{IsWell, IsFine}
use Rattle.tb_core.specs.Reaching.{Reached}
use Rattle.tb_core.specs.Commands.{imported}
use Rattle.tb_core.specs.Taking.{IsBody}
use Rattle.tb_core.specs.Tests.{first_in, first_body, first_bodies, first_words, of_batch, before_batch, import_reply}
use Rattle.tb_tables.specs.Records as records
use Rattle.tb_refine.specs.DeskTables.{sentence_record}
use Rattle.tb_refine.specs.Found.{IsRevisionOf}
use Rattle.tb_reads.specs.declared.work.BatchSentence.{BatchSentence}
use Rattle.tb_reads.specs.Found.{work_of}
use Rattle.tb_import.specs.Firsts.{IsFirst, IsWorkOf, AreFirsts}
use Rattle.tb_core.proofs.Weights.{all_there}
use Rattle.tb_import.proofs.Ordered.{StartsAt, rises, starts, counted}
use Rattle.tb_import.proofs.Counting.{first_words_are}

-- ---- the first revisions are those of the sentences

there : (s : Machine) (start k : ℕ) (x : Sentence) → start ≡ k + 1 → slice_get s.sentences (k + 0) ≡ Some x → IsWorkOf s (record { number = start; rev = rev x; words = words x }) (first_body x)
there s start k x is at =
    let place : k + 0 ≡ start - 1 = omega (arith, is) in
    record {
      first = record { counted = omega (arith, is); sentence = x; there = subst (λ i. slice_get s.sentences i ≡ Some x) place at; body = refl };
      rev = refl;
      words = refl;
    }

stand_from : (s : Machine) (n start k : ℕ) (xs : List Sentence) → start ≡ k + 1 → ((i : ℕ) → slice_get s.sentences (k + i) ≡ slice_get xs i) → AreFirsts s (work_of n start (map sentence_record xs)) (first_bodies n xs)
stand_from s n start k [] is at = tt
stand_from s n start k (x ∷ xs) is at =
    by_batch (nat_eq x.batch n) (stand_from s n (suc start) (suc k) xs (omega (arith, is)) (λ i. let next : suc k + i ≡ k + suc i = omega arith in ap (slice_get s.sentences) next ∙ at (suc i)))
  where
    item : BatchSentence
    item = record { number = start; rev = rev x; words = words x }

    more : List BatchSentence
    more = work_of n (suc start) (map sentence_record xs)

    by_batch : (t : Bool) → AreFirsts s more (first_bodies n xs) → AreFirsts s (cond t (item ∷ more) more) (cond t (first_body x ∷ []) [] ++ first_bodies n xs)
    by_batch true rest = (there s start k x is (at 0), rest)
    by_batch false rest = rest

pub firsts_stand : (s : Machine) (n : ℕ) → AreFirsts s (work_of n 1 (map sentence_record s.sentences)) (first_bodies n s.sentences)
firsts_stand s n = stand_from s n 1 0 s.sentences (omega arith) (λ i. let same : 0 + i ≡ i = omega arith in ap (slice_get s.sentences) same)

-- ---- they are a file

first_lawful : (before : List Revision) (c : Revision) → AllByRecursion IsLawful (map (λ (r : Revision). r.body) (before ++ c ∷ [])) → IsLawful (first_in before c)
first_lawful [] c h = h.0
first_lawful (r ∷ rs) c h = h.0

first_shaped : (s : Machine) (number : ℕ) (b : BlockText) → AllByRecursion IsFine s.sentences → IsFirst s number b → IsShaped b
first_shaped s number b fine first =
    let here = all_there IsFine s.sentences (number - 1) first.sentence first.there fine in
    subst IsShaped (sym first.body) (first_lawful first.sentence.before first.sentence.current here.lawful).shaped

-- ---- their words

-- any other has those of its first one, which is read
pub read_words : ((f : List ℕ) (bs cs : List BlockText) → IsFile f bs → IsFile f cs → bs ≡ cs) → ((s : Machine) → Reached s → IsWell s) → (s : Machine) (number n : ℕ) (b : BlockText) (text : List ℕ) (bs : List BlockText) → Reached s → IsFirst s number b
    → text ≡ text_of (b ∷ []) → IsBody text bs → n ≡ sum_by words_of bs → n ≡ words_of b
read_words one_text well s number n b text bs reached first is body summed =
    let file : IsFile text (b ∷ []) = record { shaped = (first_shaped s number b (well s reached).fine first, tt); text = is } in
    let same : bs ≡ b ∷ [] = one_text text bs (b ∷ []) body.file file in
    let alone : 0 + words_of b ≡ words_of b = omega arith in
    summed ∙ ap (sum_by words_of) same ∙ alone

-- ---- the reply

abbrev replied_with : ℕ → ℕ → ℕ → ℕ → Imported
replied_with n first sentences words = record { batch = n; first = first; sentences = sentences; words = words }

pub reply_is : ((s : Machine) → Reached s → IsWell s) → (s : Machine) (n count w : ℕ) (work : List BatchSentence) (item : BatchSentence) → Reached s
    → w ≡ sum_by words_of (first_bodies n s.sentences) → work ≡ work_of n 1 (map sentence_record s.sentences) → slice_get work 0 ≡ Some item → count ≡ length work → imported (replied_with n item.number count w) ≡ import_reply s n
reply_is well s n count w work item reached summed read start many =
    let all_words : w ≡ weigh (first_words n) s.sentences = summed ∙ first_words_are n s.sentences in
    let all : count ≡ weigh (of_batch n) s.sentences = many ∙ ap length read ∙ counted n 1 s.sentences in
    let at : item.number ≡ weigh (before_batch n) s.sentences + 1 = one_start work start (subst (StartsAt (1 + weigh (before_batch n) s.sentences)) (sym read) (starts n 1 0 s.sentences (rises well s reached))) in
    ap (λ k. imported (replied_with n k count w)) at ∙ ap (λ k. imported (replied_with n (weigh (before_batch n) s.sentences + 1) k w)) all ∙ ap (λ k. imported (replied_with n (weigh (before_batch n) s.sentences + 1) (weigh (of_batch n) s.sentences) k)) all_words
  where
    one_start : (ws : List BatchSentence) → slice_get ws 0 ≡ Some item → StartsAt (1 + weigh (before_batch n) s.sentences) ws → item.number ≡ weigh (before_batch n) s.sentences + 1
    one_start [] start here = absurd cc
    one_start (x ∷ ws) start here =
        let both : Some x ≡ Some item = start in
        let same : x ≡ item = cc in
        let number : x.number ≡ item.number = ap (λ (y : BatchSentence). y.number) same in
        omega (arith, here, number)

-- ---- a row of the first revision

first_is : (before : List Revision) (c q : Revision) → slice_get (before ++ c ∷ []) 0 ≡ Some q → q.body ≡ first_in before c
first_is [] c q e = let same : Some c ≡ Some q = e in let one : c ≡ q = cc in sym (ap (λ (r : Revision). r.body) one)
first_is (r ∷ rs) c q e = let same : Some r ≡ Some q = e in let one : r ≡ q = cc in sym (ap (λ (p : Revision). p.body) one)

pub first_reported : (s : Machine) (number : ℕ) (b : BlockText) (r : records.Revision) → IsFirst s number b → IsRevisionOf s r → r.sent ≡ number → r.rev ≡ 1 → r.body ≡ text_of (b ∷ [])
first_reported s number b r first of sent rev_is =
    let place_is : r.sent ≡ of.place + 1 = ap (λ (x : records.Revision). x.sent) of.is in
    let index_is : r.rev ≡ of.index + 1 = ap (λ (x : records.Revision). x.rev) of.is in
    let at : of.place ≡ number - 1 = omega (arith, place_is, sent) in
    let start : of.index ≡ 0 = omega (arith, index_is, rev_is) in
    let found : slice_get s.sentences (number - 1) ≡ Some of.sentence = subst (λ i. slice_get s.sentences i ≡ Some of.sentence) at of.there in
    let both : Some of.sentence ≡ Some first.sentence = sym found ∙ first.there in
    let same : of.sentence ≡ first.sentence = cc in
    let revised : slice_get (revisions first.sentence) 0 ≡ Some of.revision = subst (λ i. slice_get (revisions first.sentence) i ≡ Some of.revision) start (subst (λ (x : Sentence). slice_get (revisions x) of.index ≡ Some of.revision) same of.revised) in
    ap (λ (x : records.Revision). x.body) of.is ∙ ap (λ c. text_of (c ∷ [])) (first_is first.sentence.before first.sentence.current of.revision revised ∙ sym first.body)
