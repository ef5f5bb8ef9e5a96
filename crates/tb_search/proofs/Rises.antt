-- Revisions of a desk come in the order of their sentences, and can be read back; numbers of pulled sentences rise.
use Rattle.std.proofs.Common.{inl, inr, ℕ, ◌+◌, ◌<◌, List, [], ◌∷◌, ◌++◌, map, All, Bool, true, false, cond, refl, arith}
use Rattle.std.specs.List.{AllByRecursion}
use Rattle.std.proofs.lemmas.List.Elements.{All-from_recursion, recursion_from_All}
use Rattle.sqlite_trees.specs.Tree.{IsAscending}
use Rattle.tb_conllu.specs.Text.{text_of}
use Rattle.tb_core.specs.Machine as machine
use Rattle.tb_core.specs.Machine.{Sentence, revisions}
use Rattle.tb_core.specs.Rows.{RevisionRow, revision_rows, revisions_from, pulled_from}
use Rattle.tb_tables.specs.Records as records
use Rattle.tb_tables.specs.Records.{Revision, Batch}
use Rattle.tb_refine.specs.DeskTables.{revision_record}
use Rattle.tb_refine.specs.Fitting.{IsReadableBatch, IsReadableSentence, IsReadableRevision}
use Rattle.tb_reads.specs.Readable.{IsBatch, IsSentence, IsRevision, ComesBefore}

abbrev IsPast : ℕ → List RevisionRow → Type 0
IsPast n rows = AllByRecursion (λ (r : Revision). n < r.sent) (map revision_record rows)

past_rows : (m n k : ℕ) (rs : List machine.Revision) (tail : List RevisionRow) → m < n → IsPast m tail → IsPast m (revision_rows n k rs ++ tail)
past_rows m n k [] tail low h = h
past_rows m n k (r ∷ rs) tail low h = (low, past_rows m n (k + 1) rs tail low h)

past : (m n : ℕ) (xs : List Sentence) → m < n → IsPast m (revisions_from n xs)
past m n [] low = tt
past m n (x ∷ xs) low = past_rows m n 1 (revisions x) (revisions_from (n + 1) xs) low (past m (n + 1) xs (omega (arith, low)))

before_tail : (r : Revision) (tail : List RevisionRow) → IsPast r.sent tail → AllByRecursion (ComesBefore r) (map revision_record tail)
before_tail r [] h = tt
before_tail r (t ∷ tail) h = (inl h.0, before_tail r tail h.1)

before_rows : (r : Revision) (k : ℕ) (rs : List machine.Revision) (tail : List RevisionRow) → r.rev < k → IsPast r.sent tail → AllByRecursion (ComesBefore r) (map revision_record (revision_rows r.sent k rs ++ tail))
before_rows r k [] tail low h = before_tail r tail h
before_rows r k (q ∷ rs) tail low h = (inr (refl, low), before_rows r (k + 1) rs tail (omega (arith, low)) h)

rows_rise : (n k : ℕ) (rs : List machine.Revision) (tail : List RevisionRow) → IsPast n tail → IsAscending ComesBefore (map revision_record tail) → IsAscending ComesBefore (map revision_record (revision_rows n k rs ++ tail))
rows_rise n k [] tail h up = up
rows_rise n k (r ∷ rs) tail h up =
    (before_rows (record { sent = n; rev = k; who = r.who; body = text_of (r.body ∷ []) }) (k + 1) rs tail (let low : k < k + 1 = omega arith in low) h, rows_rise n (k + 1) rs tail h up)

pub revisions_rise : (n : ℕ) (xs : List Sentence) → IsAscending ComesBefore (map revision_record (revisions_from n xs))
revisions_rise n [] = tt
revisions_rise n (x ∷ xs) = rows_rise n 1 (revisions x) (revisions_from (n + 1) xs) (past n (n + 1) xs (omega arith)) (revisions_rise (n + 1) xs)

read_all : (rs : List Revision) → AllByRecursion IsReadableRevision rs → AllByRecursion IsRevision rs
read_all [] h = tt
read_all (r ∷ rs) h = (record { sent_fits = h.0.sent_fits; rev_fits = h.0.rev_fits; who_fits = h.0.who_fits; body_fits = h.0.body_fits }, read_all rs h.1)

pub revisions_fit : (rs : List Revision) → All IsReadableRevision rs → All IsRevision rs
revisions_fit rs h = All-from_recursion IsRevision rs (read_all rs (recursion_from_All IsReadableRevision rs h))

batches_read : (bs : List Batch) → AllByRecursion IsReadableBatch bs → AllByRecursion IsBatch bs
batches_read [] h = tt
batches_read (b ∷ bs) h = (record { name_fits = h.0.name_fits; state_fits = h.0.state_fits; worker_fits = h.0.worker_fits }, batches_read bs h.1)

pub batches_fit : (bs : List Batch) → All IsReadableBatch bs → All IsBatch bs
batches_fit bs h = All-from_recursion IsBatch bs (batches_read bs (recursion_from_All IsReadableBatch bs h))

sentences_read : (xs : List records.Sentence) → AllByRecursion IsReadableSentence xs → AllByRecursion IsSentence xs
sentences_read [] h = tt
sentences_read (x ∷ xs) h = (record { sent_id_fits = h.0.sent_id_fits; batch_fits = h.0.batch_fits; rev_fits = h.0.rev_fits; words_fits = h.0.words_fits }, sentences_read xs h.1)

pub sentences_fit : (xs : List records.Sentence) → All IsReadableSentence xs → All IsSentence xs
sentences_fit xs h = All-from_recursion IsSentence xs (sentences_read xs (recursion_from_All IsReadableSentence xs h))

pulled_past : (m n : ℕ) (xs : List Sentence) → m < n → AllByRecursion (λ k. m < k) (pulled_from n xs)
pulled_past m n [] low = tt
pulled_past m n (x ∷ xs) low = by (pulled_past m (n + 1) xs (omega (arith, low))) x.pulled
  where
    by : AllByRecursion (λ k. m < k) (pulled_from (n + 1) xs) → (b : Bool) → AllByRecursion (λ k. m < k) (cond b (n ∷ pulled_from (n + 1) xs) (pulled_from (n + 1) xs))
    by later true = (low, later)
    by later false = later

pub pulled_rise : (n : ℕ) (xs : List Sentence) → IsAscending (λ a b. a < b) (pulled_from n xs)
pulled_rise n [] = tt
pulled_rise n (x ∷ xs) = by (pulled_rise (n + 1) xs) x.pulled
  where
    by : IsAscending (λ a b. a < b) (pulled_from (n + 1) xs) → (b : Bool) → IsAscending (λ a b. a < b) (cond b (n ∷ pulled_from (n + 1) xs) (pulled_from (n + 1) xs))
    by later true = (pulled_past n (n + 1) xs (omega arith), later)
    by later false = later
