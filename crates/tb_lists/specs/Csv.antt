-- Lists as CSV, in the form of the tables of a desk.
use Rattle.std.specs.Prelude.{ℕ, List, [], ◌∷◌, Bool, cond, map, codes}
use Rattle.std.specs.Fmt.{decimal}
use Rattle.tb_core.specs.Words.{kind_word, state_word}
use Rattle.tb_report.specs.Csv.{csv_of}
use Rattle.tb_lists.specs.Batches.{BatchText}
use Rattle.tb_lists.specs.Found.{FoundText}
use Rattle.tb_lists.specs.Revisions.{RevisionText}
use Rattle.tb_lists.specs.Sentences.{SentenceText}

abbrev pub batches_head : List (List ℕ)
batches_head =
    codes "no" ∷ codes "name" ∷ codes "state" ∷ codes "worker" ∷ codes "first" ∷ codes "sentences"
    ∷ codes "words" ∷ codes "pulled" ∷ codes "pulled_words" ∷ []

abbrev pub batch_fields : BatchText → List (List ℕ)
batch_fields b =
    decimal b.no ∷ b.name ∷ state_word b.state ∷ b.worker ∷ decimal b.first ∷ decimal b.sentences
    ∷ decimal b.words ∷ decimal b.pulled ∷ decimal b.pulled_words ∷ []

-- a line for each batch
abbrev pub batches_csv : List BatchText → List ℕ
batches_csv batches = csv_of (batches_head ∷ map batch_fields batches)

-- ---- the revisions of a sentence

abbrev pub revisions_head : List (List ℕ)
revisions_head = codes "rev" ∷ codes "who" ∷ codes "kind" ∷ codes "move" ∷ []

abbrev pub revision_fields : RevisionText → List (List ℕ)
revision_fields r = decimal r.rev ∷ r.who ∷ kind_word r.kind ∷ decimal r.move_no ∷ []

-- a line for each revision
abbrev pub revisions_csv : List RevisionText → List ℕ
revisions_csv revisions = csv_of (revisions_head ∷ map revision_fields revisions)

-- ---- the sentences of a batch

abbrev pub sentences_head : List (List ℕ)
sentences_head =
    codes "no" ∷ codes "sent_id" ∷ codes "rev" ∷ codes "who" ∷ codes "words" ∷ codes "pulled" ∷ codes "text" ∷ []

abbrev pub yes_or_no : Bool → List ℕ
yes_or_no b = cond b (codes "yes") (codes "no")

abbrev pub sentence_fields : SentenceText → List (List ℕ)
sentence_fields x =
    decimal x.no ∷ x.sent_id ∷ decimal x.rev ∷ x.who ∷ decimal x.words ∷ yes_or_no x.pulled ∷ x.text ∷ []

-- a line for each sentence
abbrev pub sentences_csv : List SentenceText → List ℕ
sentences_csv sentences = csv_of (sentences_head ∷ map sentence_fields sentences)

-- ---- the sentence with a `sent_id`

abbrev pub found_head : List (List ℕ)
found_head = codes "no" ∷ codes "batch" ∷ codes "rev" ∷ codes "words" ∷ codes "pulled" ∷ []

abbrev pub found_fields : FoundText → List (List ℕ)
found_fields x = decimal x.no ∷ x.batch ∷ decimal x.rev ∷ decimal x.words ∷ yes_or_no x.pulled ∷ []

-- one line
abbrev pub found_csv : FoundText → List ℕ
found_csv found = csv_of (found_head ∷ found_fields found ∷ [])
