-- Two reached states with the same tables are equal.
use Rattle.std.proofs.Common.{◌≡◌, List, [], ◌∷◌, length, map, refl, sym, ◌∙◌, ap, arith}
use Rattle.tb_core.specs.Machine as machine
use Rattle.tb_core.specs.Machine.{Machine}
use Rattle.tb_core.specs.Reaching.{Reached}
use Rattle.tb_core.specs.Rows.{SentenceRow, RevisionRow, Rows, sentence_row, revisions_from, rows_of}
use Rattle.tb_core.proofs.Lists.{head_is, tail_is}
use Rattle.tb_tables.specs.Records.{Tables, Batch, Sentence, Revision}
use Rattle.tb_refine.specs.DeskTables.{batch_record, sentence_record, revision_record, tables_of}
use Rattle.tb_refine.proofs.CallLemmas.{one_state}
use Rattle.tb_refine.proofs.Numbering.{moves_are_numbered, same_moves}

pub batch_one : (a b : machine.Batch) → batch_record a ≡ batch_record b → a ≡ b
batch_one a b e =
    ap (λ z. let w : machine.Batch = record { name = z; state = a.state; worker = a.worker } in w) (ap (λ (r : Batch). r.name) e)
    ∙ (ap (λ z. let w : machine.Batch = record { name = b.name; state = z; worker = a.worker } in w) (one_state a.state b.state (ap (λ (r : Batch). r.state) e))
    ∙ ap (λ z. let w : machine.Batch = record { name = b.name; state = b.state; worker = z } in w) (ap (λ (r : Batch). r.worker) e))

batches_one : (xs ys : List machine.Batch) → map batch_record xs ≡ map batch_record ys → xs ≡ ys
batches_one [] [] e = refl
batches_one [] (y ∷ ys) e = let s = ap length e in absurd (omega (arith, s))
batches_one (x ∷ xs) [] e = let s = ap length e in absurd (omega (arith, s))
batches_one (x ∷ xs) (y ∷ ys) e =
    ap (λ z. z ∷ xs) (batch_one x y (head_is (batch_record x) (batch_record y) (map batch_record xs) (map batch_record ys) e))
    ∙ ap (λ l. y ∷ l) (batches_one xs ys (tail_is (batch_record x) (batch_record y) (map batch_record xs) (map batch_record ys) e))

abbrev row_of : Sentence → SentenceRow
row_of x = record { sent_id = x.sent_id; batch = x.batch; rev = x.rev; words = x.words }

rows_back : (xs : List machine.Sentence) → map row_of (map sentence_record xs) ≡ map sentence_row xs
rows_back [] = refl
rows_back (x ∷ xs) = ap (λ l. sentence_row x ∷ l) (rows_back xs)

abbrev revision_of : Revision → RevisionRow
revision_of r = record { sent = r.sent; rev = r.rev; who = r.who; body = r.body }

revisions_back : (rs : List RevisionRow) → map revision_of (map revision_record rs) ≡ rs
revisions_back [] = refl
revisions_back (r ∷ rs) = ap (λ l. r ∷ l) (revisions_back rs)

rows_are : (a b : Rows) → a.batches ≡ b.batches → a.sentences ≡ b.sentences → a.revisions ≡ b.revisions → a.moves ≡ b.moves → a.pulled ≡ b.pulled → a ≡ b
rows_are a b p q r m f =
    ap (λ z. let w : Rows = record { batches = z; sentences = a.sentences; revisions = a.revisions; moves = a.moves; pulled = a.pulled } in w) p
    ∙ (ap (λ z. let w : Rows = record { batches = b.batches; sentences = z; revisions = a.revisions; moves = a.moves; pulled = a.pulled } in w) q
    ∙ (ap (λ z. let w : Rows = record { batches = b.batches; sentences = b.sentences; revisions = z; moves = a.moves; pulled = a.pulled } in w) r
    ∙ (ap (λ z. let w : Rows = record { batches = b.batches; sentences = b.sentences; revisions = b.revisions; moves = z; pulled = a.pulled } in w) m
    ∙ ap (λ z. let w : Rows = record { batches = b.batches; sentences = b.sentences; revisions = b.revisions; moves = b.moves; pulled = z } in w) f)))

-- the tables tell the rows
pub rows_same : (s t : Machine) → Reached s → Reached t → tables_of s ≡ tables_of t → rows_of s ≡ rows_of t
rows_same s t r q e =
    let sents = ap (λ (d : Tables). map row_of d.sentences) e in
    let revs = ap (λ (d : Tables). map revision_of d.revisions) e in
    rows_are (rows_of s) (rows_of t) (batches_one s.batches t.batches (ap (λ (d : Tables). d.batches) e))
    (sym (rows_back s.sentences) ∙ sents ∙ rows_back t.sentences)
    (sym (revisions_back (revisions_from 1 s.sentences)) ∙ revs ∙ revisions_back (revisions_from 1 t.sentences))
    (same_moves 1 s.moves t.moves (moves_are_numbered s r) (moves_are_numbered t q) (ap (λ (d : Tables). d.moves) e))
    (ap (λ (d : Tables). d.pulled) e)
