-- What deskview shows of a state, or why it shows nothing.
use Rattle.std.specs.Prelude.{◌≡◌, ◌⊎◌, ℕ, List, false}
use Rattle.tb_core.specs.declared.refusals.Refusal.{Refusal}
use Rattle.tb_core.specs.declared.refusals.Fault.TheVariants.{Refused}
use Rattle.tb_core.specs.declared.refusals.Refusal.TheVariants.{NoSuchSentence}
use Rattle.tb_core.specs.Machine.{Machine}
use Rattle.tb_core.specs.Names.{is_name}
use Rattle.tb_http.specs.declared.replies.Reply.{Reply}
use Rattle.tb_http.specs.declared.replies.Reply.TheVariants as reply
use Rattle.tb_cli.specs.View.{Listed, batches, sentences, revisions, find, tree}
use Rattle.tb_lists.specs.Batches.{batch_lines}
use Rattle.tb_lists.specs.Csv.{batches_csv, found_csv, revisions_csv, sentences_csv}
use Rattle.tb_lists.specs.Found.{FoundText, IsFound}
use Rattle.tb_lists.specs.Revisions.{RevisionText, AreRevisions}
use Rattle.tb_lists.specs.Sentences.{SentenceText, AreSentences}
use Rattle.tb_assets.specs.Trees.{trees_page}
use Rattle.tb_store.specs.Answers.{HasNoSentence, IsCurrent, RefusesId}
use Rattle.tb_store.specs.Exports.{RefusesBatch}
use Rattle.tb_answer.specs.Commanded.{IsFailure}

-- the text of the list of the sentences of the batch with this name
abbrev pub IsSentencesText : Machine → List ℕ → List ℕ → Type 0
IsSentencesText s name text = (lines : List SentenceText) × AreSentences s name lines × (text ≡ sentences_csv lines)

-- the text of the list of the revisions of this sentence
abbrev pub IsRevisionsText : Machine → ℕ → List ℕ → Type 0
IsRevisionsText s n text = (lines : List RevisionText) × AreRevisions s n lines × (text ≡ revisions_csv lines)

-- the text of the sentence with this `sent_id`
abbrev pub IsFoundText : Machine → (sent_id : List ℕ) → List ℕ → Type 0
IsFoundText s id text = (line : FoundText) × IsFound s id line × (text ≡ found_csv line)

-- the page of the tree of this sentence's current revision
abbrev pub IsTreeText : Machine → ℕ → List ℕ → Type 0
IsTreeText s n text = (k : ℕ) × (body : List ℕ) × IsCurrent s n k body × (text ≡ trees_page body)

-- the text of a list in a state
abbrev pub IsView : Machine → Listed → List ℕ → Type 0
IsView s batches text = text ≡ batches_csv (batch_lines s)
IsView s (sentences name) text = IsSentencesText s name text
IsView s (revisions n) text = IsRevisionsText s n text
IsView s (find id) text = IsFoundText s id text
IsView s (tree n) text = IsTreeText s n text

-- the refusal of a list in a state
abbrev pub RefusesView : Machine → Listed → Refusal → Type 0
RefusesView s batches r = ⊥
RefusesView s (sentences name) r = RefusesBatch s name (Refused r)
RefusesView s (revisions n) r = (r ≡ NoSuchSentence) × HasNoSentence s n
RefusesView s (find id) r = RefusesId s id (Refused r)
RefusesView s (tree n) r = (r ≡ NoSuchSentence) × HasNoSentence s n

-- the list is one of a sentence whose number no sentence has
abbrev pub ViewsNone : Machine → Listed → Type 0
ViewsNone s batches = ⊥
ViewsNone s (sentences name) = ⊥
ViewsNone s (revisions n) = HasNoSentence s n
ViewsNone s (find id) = ⊥
ViewsNone s (tree n) = HasNoSentence s n

-- the list is refused whatever fails: it is of a sentence that does not exist, or of a batch by what is no name
abbrev pub NeverFails : Machine → Listed → Type 0
NeverFails s batches = ⊥
NeverFails s (sentences name) = is_name name ≡ false
NeverFails s (revisions n) = HasNoSentence s n
NeverFails s (find id) = ⊥
NeverFails s (tree n) = HasNoSentence s n

-- the answer in place of a list: a refusal that is so, or a failure of the call with this cause
abbrev pub IsReportedAs : (cause : Type 0) → (Refusal → Type 0) → Reply → Type 0
IsReportedAs cause IsSo reported = ((r : Refusal) × (reported ≡ reply.Refused r) × IsSo r)
    ⊎ IsFailure cause reported

-- the same, with the refusal of this list
abbrev pub IsViewReported : (cause : Type 0) → Machine → Listed → Reply → Type 0
IsViewReported cause s v reported =
    ((r : Refusal) × (reported ≡ reply.Refused r) × RefusesView s v r)
    ⊎ (IsFailure cause reported × (NeverFails s v → ⊥))
