-- What a walk over released text makes of what is found.
use Rattle.std.proofs.Common.{◌≡◌, ◌+◌, ◌⊎◌, ℕ, List, [], ◌∷◌, ◌++◌, length, Option, refl, sym, ap, subst, ◌∙◌, inl, inr, arith, append-nil, append_assoc}
use Rattle.std.specs.List.{AllByRecursion}
use Rattle.std.specs.List.Sorted.{IsStrictlySortedBy}
use Rattle.std.specs.Io.KnownBytes.{Appends}
use Rattle.std.proofs.KnownBytes.{Appends-nil, Appends-trans}
use Rattle.std.proofs.lemmas.List.{map-append, length-append}
use Rattle.tb_conllu.specs.Text.{BlockText, text_of}
use Rattle.tb_conllu.specs.Reported.{IsFile}
use Rattle.tb_conllu.specs.Sunk.{AppendsPart}
use Rattle.tb_match.specs.declared.strategy.Strategy.{Strategy}
use Rattle.tb_query.specs.Search.{Asked}
use Rattle.tb_prefilter.specs.Prefiltered.{HasNeedles}
use Rattle.tb_report.specs.Tables.{Row, IsTableOf}
use Rattle.tb_core.specs.Machine.{Machine, Sentence, bodies_of}
use Rattle.tb_rules.specs.File.{IsValid}
use Rattle.tb_search.specs.declared.stopped.Stopped.{Stopped}
use Rattle.tb_search.specs.declared.stopped.Stopped.TheVariants.{Output, Read}
use Rattle.tb_search.specs.declared.searcher.SentenceSearcher.{SentenceSearcher}
use Rattle.tb_search.specs.declared.count_hits.CountHits.{CountHits}
use Rattle.tb_search.specs.declared.count_keys.CountKeys.{CountKeys}
use Rattle.tb_search.specs.declared.write_kwic.WriteKwic.{WriteKwic}
use Rattle.tb_search.specs.Released.{is_released, released}
use Rattle.tb_search.specs.Visited.{Taking, Stopping, AllTaken, Halted, IsFault, texts}
use Rattle.tb_search.specs.Searched.{Occurrence, occurrences, AreFound, AreCut, IsSearchBrokenOff, IsValidText, Meets, keys, lines, total_line}
use Rattle.tb_search.proofs.Copied.{part_later}
use Rattle.tb_search.proofs.Found.{ReadsBack, all_read, bodies, all_found, same_hits, lines_more, no_lines, cut_first, cut_later}

pub reads : (s : Machine) → AllByRecursion (λ (x : Sentence). AllByRecursion (λ (b : BlockText). IsValid (b ∷ []) × IsFile (text_of (b ∷ [])) (b ∷ []) × ((bs : List BlockText) → IsFile (text_of (b ∷ [])) bs → bs ≡ b ∷ [])) (bodies_of x)) s.sentences
    → AllByRecursion ReadsBack (released s)
reads s h = all_read _ (λ b. IsValidText b (text_of (b ∷ []))) (λ b it. (it.1, it.0.rules.0)) (is_released s.batches) s.sentences h

pub asked_so : (s t : Strategy) (q r : Asked) (bs : List BlockText) (found : List Occurrence) → s ≡ t → q ≡ r → AreFound s q bs found → AreFound t r bs found
asked_so s t q r bs found same also h = subst (λ x. AreFound x r bs found) same (subst (λ y. AreFound s y bs found) also h)

pub sought_fault : {V O : Type 0} (takes : Taking V O) (stops : Stopping V O) → ((v : V) (o : O) (t : List ℕ) (e : Stopped) (q : O) → stops v o t e q → (b : BlockText) → IsValidText b t → IsFault e)
    → (xs : List Sentence) → AllByRecursion ReadsBack xs → (v : V) (o : O) (e : Stopped) (q : O) → Halted takes stops v o (texts xs) e q → IsFault e
sought_fault takes stops f [] read v o e q (fault, same) = fault
sought_fault takes stops f (x ∷ xs) read v o e q (inl (fault, same)) = fault
sought_fault takes stops f (x ∷ xs) read v o e q (inr (inl stopped)) = f v o (text_of (x.current.body ∷ [])) e q stopped x.current.body read.0
sought_fault takes stops f (x ∷ xs) read v o e q (inr (inr (u, p, took, more))) = sought_fault takes stops f xs read.1 u p e q more

count_more : (o p q : ℕ) (xs ys : List Occurrence) → p ≡ o + length xs → q ≡ p + length ys → q ≡ o + length (xs ++ ys)
count_more o p q xs ys first then_ = let both : length (xs ++ ys) ≡ length xs + length ys = length-append xs ys in omega (arith, first, then_, both)

-- ---- a number

abbrev pub numbers : CountHits → ℕ → List Occurrence → CountHits → ℕ → Type 0
numbers v o found w q = (w ≡ v) × (q ≡ o + length found)

pub number_found : (xs : List Sentence) → AllByRecursion ReadsBack xs → (v : CountHits) (o : ℕ) (w : CountHits) (q : ℕ)
    → AllTaken (λ v o t w q. Meets v.seeker.strategy v.seeker.searcher.asked t (λ found. numbers v o found w q)) v o (texts xs) w q
    → (found : List Occurrence) × AreFound v.seeker.strategy v.seeker.searcher.asked (bodies xs) found × numbers v o found w q
number_found = all_found (λ (v : CountHits). v.seeker.strategy) (λ (v : CountHits). v.seeker.searcher.asked) numbers
    (λ v o found w q it. (ap (λ (x : CountHits). x.seeker.strategy) it.0, ap (λ (x : CountHits). x.seeker.searcher.asked) it.0))
    (λ v o. (refl, let none : o ≡ o + 0 = omega arith in none))
    (λ v o xs u p ys w q first then_. (then_.0 ∙ first.0, count_more o p q xs ys first.1 then_.1))

-- ---- a table

abbrev pub tells : CountKeys → List Row → List Occurrence → CountKeys → List Row → Type 0
tells v o found w q = (w ≡ v) × ((ks : List (List ℕ)) → IsTableOf ks o → IsTableOf (ks ++ keys v.column found) q)

pub table_found : (xs : List Sentence) → AllByRecursion ReadsBack xs → (v : CountKeys) (o : List Row) (w : CountKeys) (q : List Row)
    → AllTaken (λ v o t w q. Meets v.seeker.strategy v.seeker.searcher.asked t (λ found. tells v o found w q)) v o (texts xs) w q
    → (found : List Occurrence) × AreFound v.seeker.strategy v.seeker.searcher.asked (bodies xs) found × tells v o found w q
table_found = all_found (λ (v : CountKeys). v.seeker.strategy) (λ (v : CountKeys). v.seeker.searcher.asked) tells
    (λ v o found w q it. (ap (λ (x : CountKeys). x.seeker.strategy) it.0, ap (λ (x : CountKeys). x.seeker.searcher.asked) it.0))
    (λ v o. (refl, λ ks is. subst (λ l. IsTableOf l o) (sym (append-nil ks)) is))
    (λ v o xs u p ys w q first then_. (
      then_.0 ∙ first.0,
      λ ks is.
          let all : (ks ++ keys v.column xs) ++ keys v.column ys ≡ ks ++ keys v.column (xs ++ ys) =
          append_assoc ks (keys v.column xs) (keys v.column ys) ∙ ap (λ l. ks ++ l) (sym (map-append _ xs ys)) in
          subst (λ l. IsTableOf l q) all (subst (λ (x : CountKeys). IsTableOf ((ks ++ keys v.column xs) ++ keys x.column ys) q) first.0 (then_.1 (ks ++ keys v.column xs) (first.1 ks is))),
    ))

pub no_keys : IsTableOf [] []
unfolding IsStrictlySortedBy
no_keys = record { is_table = record { ascending = tt; counted = λ k d h. omega (arith, h) }; counts = λ key. refl }

-- ---- lines

module _ {W : Type 0} (held : W → Option (List ℕ)) where
  abbrev pub puts : WriteKwic → W → List Occurrence → WriteKwic → W → Type 0
  puts v o found w q = (w.seeker ≡ v.seeker) × (w.context ≡ v.context) × (w.found ≡ v.found + length found) × Appends (held o) (held q) (lines v.context found)

  abbrev pub lists : Taking WriteKwic W
  lists v o t w q = Meets v.seeker.strategy v.seeker.searcher.asked t (λ found. puts v o found w q)

  abbrev pub breaks_off : Stopping WriteKwic W
  breaks_off v o t e q = HasNeedles v.seeker.searcher t × ((b : BlockText) → IsValidText b t → IsFault e) × ((q ≡ o) ⊎ Meets v.seeker.strategy v.seeker.searcher.asked t (λ found. AreCut e (held o) (held q) v.context found))

  pub lines_found : (xs : List Sentence) → AllByRecursion ReadsBack xs → (v : WriteKwic) (o : W) (w : WriteKwic) (q : W) → AllTaken lists v o (texts xs) w q
      → (found : List Occurrence) × AreFound v.seeker.strategy v.seeker.searcher.asked (bodies xs) found × puts v o found w q
  lines_found = all_found (λ (v : WriteKwic). v.seeker.strategy) (λ (v : WriteKwic). v.seeker.searcher.asked) puts
      (λ v o found w q it. (ap (λ (x : SentenceSearcher). x.strategy) it.0, ap (λ (x : SentenceSearcher). x.searcher.asked) it.0))
      (λ v o. (refl, refl, (let none : v.found ≡ v.found + 0 = omega arith in none), Appends-nil (held o)))
      (λ v o xs u p ys w q first then_.
      let n = v.context in (
        then_.0 ∙ first.0,
        then_.1 ∙ first.1,
        count_more v.found u.found w.found xs ys first.2 then_.2,
        subst (Appends (held o) (held q)) (sym (lines_more n xs ys)) (Appends-trans (held o) (held p) (held q) (lines n xs) (lines n ys) first.3 (subst (λ m. Appends (held p) (held q) (lines m ys)) first.1 then_.3)),
      ))

  pub lines_cut : (xs : List Sentence) → AllByRecursion ReadsBack xs → (v : WriteKwic) (o : W) (e : Stopped) (q : W) → Halted lists breaks_off v o (texts xs) e q
      → (found : List Occurrence) → AreFound v.seeker.strategy v.seeker.searcher.asked (bodies xs) found → AreCut e (held o) (held q) v.context found
  lines_cut [] read v o e q (fault, same) found are = no_lines e (held o) (held q) v.context found (ap held same)
  lines_cut (x ∷ xs) read v o e q (inl (fault, same)) found are = no_lines e (held o) (held q) v.context found (ap held same)
  lines_cut (x ∷ xs) read v o e q (inr (inl (has, fault, inl same))) found are = no_lines e (held o) (held q) v.context found (ap held same)
  lines_cut (x ∷ xs) read v o e q (inr (inl (has, fault, inr met))) found (hits, rest, are, more, is) =
      let b = x.current.body in
      let here = met b read.0 in
      let same = same_hits v.seeker.strategy v.seeker.searcher.asked b here.0 hits here.1 are in
      subst (λ l. AreCut e (held o) (held q) v.context l) (sym is) (cut_first e (held o) (held q) v.context (occurrences b hits) rest (subst (λ h. AreCut e (held o) (held q) v.context (occurrences b h)) same here.2))
  lines_cut (x ∷ xs) read v o e q (inr (inr (u, p, took, halted))) found (hits, rest, are, more, is) =
      let b = x.current.body in
      let here = took b read.0 in
      let same = same_hits v.seeker.strategy v.seeker.searcher.asked b here.0 hits here.1 are in
      let put : Appends (held o) (held p) (lines v.context (occurrences b hits)) = subst (λ h. Appends (held o) (held p) (lines v.context (occurrences b h))) same here.2.3 in
      let still : AreFound u.seeker.strategy u.seeker.searcher.asked (bodies xs) rest =
      asked_so v.seeker.strategy u.seeker.strategy v.seeker.searcher.asked u.seeker.searcher.asked (bodies xs) rest (sym (ap (λ (y : SentenceSearcher). y.strategy) here.2.0)) (sym (ap (λ (y : SentenceSearcher). y.searcher.asked) here.2.0)) more in
      let later : AreCut e (held p) (held q) v.context rest = subst (λ n. AreCut e (held p) (held q) n rest) here.2.1 (lines_cut xs read.1 u p e q halted rest still) in
      subst (λ l. AreCut e (held o) (held q) v.context l) (sym is) (cut_later e (held o) (held p) (held q) v.context (occurrences b hits) rest put later)

-- a last line that was refused, after all others
pub total_cut : (e : Stopped) (o a b : Option (List ℕ)) (n : ℕ) (found : List Occurrence) (count : ℕ) → count ≡ length found → Appends o a (lines n found) → e ≡ Output → AppendsPart a b (total_line count) → IsSearchBrokenOff e o b n found
total_cut Output o a b n found count is put same part = part_later o a b (lines n found) (total_line (length found)) put (subst (λ m. AppendsPart a b (total_line m)) is part)
total_cut (Read error) o a b n found count is put same part = absurd cc
