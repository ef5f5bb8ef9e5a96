-- Sums over entries are those over the sentences that they stand for.
use Rattle.std.proofs.Common.{◌≡◌, ℕ, zero, suc, ◌+◌, ◌-◌, ◌*◌, ◌<◌, ◌≤◌, List, [], ◌∷◌, ◌++◌, Bool, true, false, length, map, get_or, drop, refl, sym, ◌∙◌, ap, arith}
use Rattle.std.specs.List.{AllByRecursion}
use Rattle.std.proofs.lemmas.List.{length-map, drop_more}
use Rattle.tb_conllu.specs.Words.{words_of}
use Rattle.tb_core.specs.declared.kinds.State.{State}
use Rattle.tb_core.specs.Events.{is_state}
use Rattle.tb_core.specs.declared.sums.Totals.{Totals}
use Rattle.tb_core.specs.Machine.{Batch, Revision, Sentence, Machine, state_in, weigh, when, one, words}
use Rattle.tb_core.specs.Totals.{in_state, at_state, total, AreTotalsOf}
use Rattle.tb_core.specs.Keeping.{IsFine}
use Rattle.tb_core.proofs.Stored.{few_words}
use Rattle.tb_replay.specs.Summaries.{RevisionRow, SummaryRow, row_of, entry_of, entries_of}
use Rattle.tb_replay.specs.Fine.{AreFine}
use Rattle.tb_replay.specs.Sums.{entry_state, last_count, one_each, words_each, entry_total}
use Rattle.tb_replay.proofs.Parts.{state_self}

last_is : (before : List Revision) (c : Revision) → last_count (map row_of (before ++ c ∷ [])) ≡ words_of c.body
last_is [] c = refl
last_is (r ∷ []) c = refl
last_is (r ∷ q ∷ rs) c = last_is (q ∷ rs) c

pub words_there : (x : Sentence) → words_each (entry_of x) ≡ words x
words_there x = last_is x.before x.current

pub total_is : (w : SummaryRow → ℕ) (v : Sentence → ℕ) → ((x : Sentence) → w (entry_of x) ≡ v x) → (bs : List Batch) (st : State) (xs : List Sentence) → entry_total w bs st (entries_of xs) ≡ weigh (in_state bs st v) xs
total_is w v e bs st [] = refl
total_is w v e bs st (x ∷ xs) =
    let here = ap (λ n. when (is_state (state_in bs x) st) n) (e x) in
    let rest = total_is w v e bs st xs in
    omega (arith, here, rest)

-- ---- within limits

when_below : (t : Bool) (n : ℕ) → when t n ≤ n
when_below true n = omega arith
when_below false n = omega arith

pub ones_below : (bs : List Batch) (st : State) (es : List SummaryRow) → entry_total one_each bs st es ≤ length es
ones_below bs st [] = omega arith
ones_below bs st (e ∷ es) = let a = when_below (is_state (entry_state bs e) st) 1 in let b = ones_below bs st es in omega (arith, a, b)

pub words_below : (bs : List Batch) (st : State) (xs : List Sentence) → AllByRecursion IsFine xs → entry_total words_each bs st (entries_of xs) ≤ 1000 * length xs
words_below bs st [] h = omega arith
words_below bs st (x ∷ xs) h =
    let a = when_below (is_state (state_in bs x) st) (words_each (entry_of x)) in
    let b = words_below bs st xs h.1 in
    let c = few_words x h.0 in
    let d = words_there x in
    omega (arith, a, b, c, d)

pub ones_limit : (f : Machine) (bs : List Batch) (st : State) (es : List SummaryRow) → es ≡ entries_of f.sentences → length f.sentences ≤ 1000000 → entry_total one_each bs st es ≤ 1000000
ones_limit f bs st es q few = let a = ones_below bs st es in let n = ap length q in let k = length-map f.sentences entry_of in omega (arith, a, n, k, few)

pub words_limit : (f : Machine) (bs : List Batch) (st : State) (es : List SummaryRow) → es ≡ entries_of f.sentences → AreFine f → length f.sentences ≤ 1000000 → entry_total words_each bs st es ≤ 1000000000
words_limit f bs st es q fine few =
    let a = words_below bs st f.sentences fine.sentences in
    let b = ap (entry_total words_each bs st) q in
    omega (arith, a, b, few)

pub ones_total : (f : Machine) (bs : List Batch) (es : List SummaryRow) (st : State) → bs ≡ f.batches → es ≡ entries_of f.sentences → entry_total one_each bs st es ≡ total one f st
ones_total f bs es st p q = ap (entry_total one_each bs st) q ∙ (ap (λ b. entry_total one_each b st (entries_of f.sentences)) p ∙ total_is one_each one (λ x. refl) f.batches st f.sentences)

pub words_total : (f : Machine) (bs : List Batch) (es : List SummaryRow) (st : State) → bs ≡ f.batches → es ≡ entries_of f.sentences → entry_total words_each bs st es ≡ total words f st
words_total f bs es st p q = ap (entry_total words_each bs st) q ∙ (ap (λ b. entry_total words_each b st (entries_of f.sentences)) p ∙ total_is words_each words words_there f.batches st f.sentences)

pub stand : (f : Machine) (bs : List Batch) (es : List SummaryRow) (t : Totals) → bs ≡ f.batches → es ≡ entries_of f.sentences
    → ((st : State) → (at_state t.sentences st ≡ entry_total one_each bs st es) × (at_state t.words st ≡ entry_total words_each bs st es)) → AreTotalsOf t f
stand f bs es t p q h = record {
  sentences = λ st. (h st).0 ∙ ones_total f bs es st p q;
  words = λ st. (h st).1 ∙ words_total f bs es st p q;
}

-- ---- the loop

total_drop : (w : SummaryRow → ℕ) (bs : List Batch) (st : State) (es : List SummaryRow) (i : ℕ) (e : SummaryRow) → i < length es → e ≡ get_or es i e
    → entry_total w bs st (drop i es) ≡ when (is_state (entry_state bs e) st) (w e) + entry_total w bs st (drop (i + 1) es)
total_drop w bs st es i e l h = ap (entry_total w bs st) (drop_more es i e l) ∙ ap (λ z. when (is_state (entry_state bs z) st) (w z) + entry_total w bs st (drop (i + 1) es)) (sym h)

pub total_end : (w : SummaryRow → ℕ) (bs : List Batch) (st : State) (es : List SummaryRow) (i : ℕ) → length es ≤ i → entry_total w bs st (drop i es) ≡ 0
total_end w bs st [] zero l = refl
total_end w bs st [] (suc i) l = refl
total_end w bs st (e ∷ es) zero l = absurd (omega arith)
total_end w bs st (e ∷ es) (suc i) l = total_end w bs st es i (omega arith)

-- an entry added to the sums of those before it
pub turned : (w : SummaryRow → ℕ) (bs : List Batch) (st : State) (es : List SummaryRow) (i : ℕ) (e : SummaryRow) (own : State) (sum next more : ℕ) → i < length es → e ≡ get_or es i e → own ≡ entry_state bs e → more ≡ w e
    → next ≡ sum + when (is_state own st) more → sum + entry_total w bs st (drop i es) ≡ entry_total w bs st es → next + entry_total w bs st (drop (i + 1) es) ≡ entry_total w bs st es
turned w bs st es i e own sum next more l h p q a k =
    let d = total_drop w bs st es i e l h in
    let here : when (is_state own st) more ≡ when (is_state (entry_state bs e) st) (w e) = ap (λ o. when (is_state o st) more) p ∙ ap (λ n. when (is_state (entry_state bs e) st) n) q in
    omega (arith, d, here, a, k)

-- what comes to a sum is a part of all
pub not_past : (w : SummaryRow → ℕ) (bs : List Batch) (es : List SummaryRow) (i : ℕ) (e : SummaryRow) (own : State) (sum more most : ℕ) → i < length es → e ≡ get_or es i e → own ≡ entry_state bs e → more ≡ w e
    → sum + entry_total w bs own (drop i es) ≡ entry_total w bs own es → entry_total w bs own es ≤ most → sum + more ≤ most
not_past w bs es i e own sum more most l h p q k few =
    let d = total_drop w bs own es i e l h in
    let here : when (is_state (entry_state bs e) own) (w e) ≡ more = ap (λ o. when (is_state o own) (w e)) (sym p) ∙ (ap (λ t. when t (w e)) (state_self own) ∙ sym q) in
    omega (arith, d, here, k, few)

-- the last element of a list is its last revision
pub last_got : (rs : List RevisionRow) (r : RevisionRow) → 0 < length rs → r ≡ get_or rs (length rs - 1) r → r.words ≡ last_count rs
last_got [] r l h = absurd (omega arith)
last_got (q ∷ []) r l h = ap (λ (z : RevisionRow). z.words) h
last_got (q ∷ p ∷ rs) r l h =
    let n : length (q ∷ p ∷ rs) - 1 ≡ suc (length (p ∷ rs) - 1) = omega arith in
    last_got (p ∷ rs) r (omega arith) (h ∙ ap (λ i. get_or (q ∷ p ∷ rs) i r) n)
