-- A text that follows first revisions, one after the other.
use Rattle.std.proofs.Common.{◌≡◌, ◌≢◌, ℕ, zero, suc, ◌+◌, ◌<◌, ◌≤◌, ◌==◌, Bool, false, List, [], ◌∷◌, ◌++◌, length, get_or, take, drop, refl, sym, ap, subst, ◌∙◌, arith, append_assoc, append-nil}
use Rattle.std.proofs.lemmas.Bool.Decides.{nat_tests}
use Rattle.std.proofs.lemmas.List.{append_cancel_left, take_all}
use Rattle.std.specs.Prelude.{sum_by}
use Rattle.std.specs.List.{AllByRecursion}
use Rattle.std.proofs.lemmas.List.Sums.{sum_by-append}
use Rattle.tb_conllu.specs.Text.{BlockText, text_of}
use Rattle.tb_conllu.specs.Words.{words_of}
use Rattle.tb_conllu.proofs.Faults.{text_of-append}
use Rattle.tb_core.specs.Machine.{Machine}
use Rattle.tb_reads.specs.declared.work.BatchSentence.{BatchSentence}
use Rattle.tb_import.specs.Firsts.{IsWorkOf, IsAtFirst, AreFirsts, DecidesSame}

abbrev pub no_work : BatchSentence
no_work = record { number = 0; rev = 0; words = 0 }

-- one of them, with what comes before and after it
pub record IsNext (s : Machine) (ws : List BatchSentence) (bs : List BlockText) (i : ℕ) : Type 0 where
  pub body : BlockText
  pub work : IsWorkOf s (get_or ws i no_work) body
  pub taken : take (suc i) bs ≡ take i bs ++ body ∷ []
  pub whole : bs ≡ take i bs ++ body ∷ drop (suc i) bs

pub next_of : (s : Machine) (ws : List BatchSentence) (bs : List BlockText) (i : ℕ) → i < length ws → AreFirsts s ws bs → IsNext s ws bs i
next_of s [] bs i low h = absurd (omega (arith, low))
next_of s (w ∷ ws) [] i low h = absurd h
next_of s (w ∷ ws) (b ∷ bs) zero low h = record { body = b; work = h.0; taken = refl; whole = refl }
next_of s (w ∷ ws) (b ∷ bs) (suc i) low h =
    let later = next_of s ws bs i (omega (arith, low)) h.1 in
    record { body = later.body; work = later.work; taken = ap (λ l. b ∷ l) later.taken; whole = ap (λ l. b ∷ l) later.whole }

pub at_first : (ws : List BatchSentence) (i : ℕ) → i < length ws → AllByRecursion IsAtFirst ws → IsAtFirst (get_or ws i no_work)
at_first [] i low h = absurd (omega (arith, low))
at_first (w ∷ ws) zero low h = h.0
at_first (w ∷ ws) (suc i) low h = at_first ws i (omega (arith, low)) h.1

as_many : (s : Machine) (ws : List BatchSentence) (bs : List BlockText) → AreFirsts s ws bs → length bs ≡ length ws
as_many s [] [] h = refl
as_many s [] (b ∷ bs) h = absurd h
as_many s (w ∷ ws) [] h = absurd h
as_many s (w ∷ ws) (b ∷ bs) h = let rest = as_many s ws bs h.1 in omega (arith, rest)

-- ---- their words

pub more_words : (s : Machine) (ws : List BatchSentence) (bs : List BlockText) (i : ℕ) (n : IsNext s ws bs i) (old new w : ℕ) → new ≡ old + w → w ≡ words_of n.body → old ≡ sum_by words_of (take i bs) → new ≡ sum_by words_of (take (i + 1) bs)
more_words s ws bs i n old new w step counted before =
    let next : suc i ≡ i + 1 = omega arith in
    let alone : sum_by words_of (take i bs) + words_of n.body ≡ sum_by words_of (take i bs) + (0 + words_of n.body) = omega arith in
    step ∙ ap (λ k. old + k) counted ∙ ap (λ k. k + words_of n.body) before ∙ alone ∙ sym (sum_by-append words_of (take i bs) (n.body ∷ [])) ∙ ap (sum_by words_of) (sym n.taken) ∙ ap (λ k. sum_by words_of (take k bs)) next

pub all_words : (s : Machine) (ws : List BatchSentence) (bs : List BlockText) (i total : ℕ) → AreFirsts s ws bs → length ws ≤ i → total ≡ sum_by words_of (take i bs) → total ≡ sum_by words_of bs
all_words s ws bs i total h past before = before ∙ ap (sum_by words_of) (take_all i bs (let many = as_many s ws bs h in omega (arith, many, past)))

-- ---- their text

module _ (s : Machine) (ws : List BatchSentence) (bs : List BlockText) (text : List ℕ) (h : AreFirsts s ws bs) where
  -- so many of them are the front of the text, and this comes after them
  abbrev pub IsAfter : ℕ → List ℕ → Type 0
  IsAfter i rest = text ≡ text_of (take i bs) ++ rest

  pub one_more : (i : ℕ) (rest more : List ℕ) (n : IsNext s ws bs i) → IsAfter i rest → rest ≡ text_of (n.body ∷ []) ++ more → IsAfter (i + 1) more
  one_more i rest more n before is =
      before ∙ ap (λ l. text_of (take i bs) ++ l) is ∙ sym (append_assoc (text_of (take i bs)) (text_of (n.body ∷ [])) more)
      ∙ ap (λ l. l ++ more) (sym (text_of-append (take i bs) (n.body ∷ [])) ∙ ap text_of (sym n.taken) ∙ ap (λ k. text_of (take k bs)) (let next : suc i ≡ i + 1 = omega arith in next))

  pub other_text : (i : ℕ) (rest : List ℕ) (n : IsNext s ws bs i) → IsAfter i rest → ((more : List ℕ) → rest ≢ text_of (n.body ∷ []) ++ more) → text ≢ text_of bs
  other_text i rest n before none is =
      let after = drop (suc i) bs in
      let split : text_of bs ≡ text_of (take i bs) ++ (text_of (n.body ∷ []) ++ text_of after) =
      ap text_of n.whole ∙ text_of-append (take i bs) (n.body ∷ after) ∙ ap (λ l. text_of (take i bs) ++ l) (text_of-append (n.body ∷ []) after) in
      none (text_of after) (append_cancel_left (text_of (take i bs)) rest (text_of (n.body ∷ []) ++ text_of after) (sym before ∙ is ∙ split))

  pub ended : (i : ℕ) (rest : List ℕ) (r : Bool) → length ws ≤ i → IsAfter i rest → r ≡ (length rest == 0) → DecidesSame r text bs
  ended i rest r past before reported = subst (λ t. DecidesSame t text bs) (sym reported) (by_rest rest (before ∙ ap (λ l. text_of l ++ rest) (take_all i bs (let many = as_many s ws bs h in omega (arith, many, past)))))
    where
      by_rest : (l : List ℕ) → text ≡ text_of bs ++ l → DecidesSame (length l == 0) text bs
      by_rest [] is = is ∙ append-nil (text_of bs)
      by_rest (c ∷ l) is =
          let some : (length (c ∷ l) == 0) ≡ false = grind (arith, nat_tests) in
          subst (λ t. DecidesSame t text bs) (sym some) (λ same. let none : [] ≡ c ∷ l = append_cancel_left (text_of bs) [] (c ∷ l) (append-nil (text_of bs) ∙ sym same ∙ is) in cc)
