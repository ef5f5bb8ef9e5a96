-- The records of a desk can be read back; its revisions come in the order of their sentences, and numbers of pulled ones rise.
use Rattle.std.proofs.Common.{inl, inr, ℕ, ◌+◌, ◌<◌, List, [], ◌∷◌, ◌++◌, map, All, Bool, true, false, cond, refl, arith, lit≤, ◌^◌}
use Rattle.std.specs.List.{AllByRecursion}
use Rattle.std.proofs.lemmas.List.Elements.{All-from_recursion, recursion_from_All}
use Rattle.sqlite_trees.specs.Tree.{IsAscending}
use Rattle.tb_conllu.specs.Text.{text_of}
use Rattle.tb_core.specs.Machine as machine
use Rattle.tb_core.specs.Machine.{Sentence, revisions}
use Rattle.tb_core.specs.Rows.{RevisionRow, revision_rows, revisions_from, pulled_from}
use Rattle.tb_tables.specs.Records as records
use Rattle.tb_tables.specs.Records.{Batch, Revision, Move, Total}
use Rattle.tb_refine.specs.DeskTables.{revision_record}
use Rattle.tb_refine.specs.Fitting.{IsReadableBatch, IsReadableSentence, IsReadableRevision, IsReadableMove, IsReadableTotal}
use Rattle.tb_reads.specs.Readable.{IsBatch, IsSentence, IsRevision, IsMove, IsTotal, ComesBefore}

abbrev IsPast : ℕ → List RevisionRow → Type 0
IsPast n rows = AllByRecursion (λ (r : Revision). n < r.sent) (map revision_record rows)

past_rows : (m n k : ℕ) (rs : List machine.Revision) (tail : List RevisionRow) → m < n → IsPast m tail → IsPast m (revision_rows n k rs ++ tail)
past_rows m n k [] tail low h = h
past_rows m n k (r ∷ rs) tail low h = (low, past_rows m n (k + 1) rs tail low h)

past : (m n : ℕ) (xs : List Sentence) → m < n → IsPast m (revisions_from n xs)
past m n [] low = tt
past m n (x ∷ xs) low = past_rows m n 1 (revisions x) (revisions_from (n + 1) xs) low (past m (n + 1) xs (omega (arith, low)))

before_tail : (r : Revision) (tail : List RevisionRow) → IsPast r.sent tail → AllByRecursion (ComesBefore r) (map revision_record tail)
before_tail r [] h = tt
before_tail r (t ∷ tail) h = (inl h.0, before_tail r tail h.1)

before_rows : (r : Revision) (k : ℕ) (rs : List machine.Revision) (tail : List RevisionRow) → r.rev < k → IsPast r.sent tail → AllByRecursion (ComesBefore r) (map revision_record (revision_rows r.sent k rs ++ tail))
before_rows r k [] tail low h = before_tail r tail h
before_rows r k (q ∷ rs) tail low h = (inr (refl, low), before_rows r (k + 1) rs tail (omega (arith, low)) h)

rows_rise : (n k : ℕ) (rs : List machine.Revision) (tail : List RevisionRow) → IsPast n tail → IsAscending ComesBefore (map revision_record tail) → IsAscending ComesBefore (map revision_record (revision_rows n k rs ++ tail))
rows_rise n k [] tail h up = up
rows_rise n k (r ∷ rs) tail h up =
    (before_rows (record { sent = n; rev = k; who = r.who; body = text_of (r.body ∷ []) }) (k + 1) rs tail (let low : k < k + 1 = omega arith in low) h, rows_rise n (k + 1) rs tail h up)

pub revisions_rise : (n : ℕ) (xs : List Sentence) → IsAscending ComesBefore (map revision_record (revisions_from n xs))
revisions_rise n [] = tt
revisions_rise n (x ∷ xs) = rows_rise n 1 (revisions x) (revisions_from (n + 1) xs) (past n (n + 1) xs (omega arith)) (revisions_rise (n + 1) xs)

fits : {X : Type 0} (P Q : X → Type 0) → ((x : X) → P x → Q x) → (xs : List X) → All P xs → All Q xs
fits {X = X} P Q f xs h = All-from_recursion Q xs (each xs (recursion_from_All P xs h))
  where
    each : (ys : List X) → AllByRecursion P ys → AllByRecursion Q ys
    each [] k = tt
    each (y ∷ ys) k = (f y k.0, each ys k.1)

pub batches_fit : (xs : List Batch) → All IsReadableBatch xs → All IsBatch xs
batches_fit = fits IsReadableBatch IsBatch (λ x h. record { name_fits = h.name_fits; state_fits = h.state_fits; worker_fits = h.worker_fits })

pub sentences_fit : (xs : List records.Sentence) → All IsReadableSentence xs → All IsSentence xs
sentences_fit = fits IsReadableSentence IsSentence (λ x h. record { sent_id_fits = h.sent_id_fits; batch_fits = h.batch_fits; rev_fits = h.rev_fits; words_fits = h.words_fits })

pub revisions_fit : (xs : List Revision) → All IsReadableRevision xs → All IsRevision xs
revisions_fit = fits IsReadableRevision IsRevision (λ x h. record { sent_fits = h.sent_fits; rev_fits = h.rev_fits; who_fits = h.who_fits; body_fits = h.body_fits })

pub moves_fit : (xs : List Move) → All IsReadableMove xs → All IsMove xs
moves_fit = fits IsReadableMove IsMove (λ x h. record {
  kind_fits = h.kind_fits;
  batch_fits = h.batch_fits;
  sent_fits = h.sent_fits;
  from_fits = h.from_fits;
  to_fits = h.to_fits;
  sentences_fits = h.sentences_fits;
  words_out_fits = h.words_out_fits;
  words_in_fits = h.words_in_fits;
  who_fits = h.who_fits;
})

pub totals_fit : (xs : List Total) → All IsReadableTotal xs → All IsTotal xs
totals_fit = fits IsReadableTotal IsTotal (λ x h. record { sentences_fits = h.sentences_fits; words_fits = h.words_fits })

pulled_past : (m n : ℕ) (xs : List Sentence) → m < n → AllByRecursion (λ k. m < k) (pulled_from n xs)
pulled_past m n [] low = tt
pulled_past m n (x ∷ xs) low = by (pulled_past m (n + 1) xs (omega (arith, low))) x.pulled
  where
    by : AllByRecursion (λ k. m < k) (pulled_from (n + 1) xs) → (b : Bool) → AllByRecursion (λ k. m < k) (cond b (n ∷ pulled_from (n + 1) xs) (pulled_from (n + 1) xs))
    by later true = (low, later)
    by later false = later

pub pulled_rise : (n : ℕ) (xs : List Sentence) → IsAscending (λ a b. a < b) (pulled_from n xs)
pulled_rise n [] = tt
pulled_rise n (x ∷ xs) = by (pulled_rise (n + 1) xs) x.pulled
  where
    by : IsAscending (λ a b. a < b) (pulled_from (n + 1) xs) → (b : Bool) → IsAscending (λ a b. a < b) (cond b (n ∷ pulled_from (n + 1) xs) (pulled_from (n + 1) xs))
    by later true = (pulled_past n (n + 1) xs (omega arith), later)
    by later false = later

-- ---- the one version

pub second_rises : IsAscending (λ a b. a < b) (2 ∷ [])
second_rises = (tt, tt)

pub second_fits : All (λ n. n < 2 ^ 32) (2 ∷ [])
second_fits = All-from_recursion (λ n. n < 2 ^ 32) (2 ∷ []) (lit≤ tt, tt)
