-- The lists of the page, in a state of the desk.
use Rattle.std.specs.Prelude.{◌≡◌, ◌⊎◌, ℕ, List, ◌++◌, codes, decimal, length, ⊤}
use Rattle.std.specs.Str.{IsUtf8}
use Rattle.percent_encoding.specs.Percent.{percent_decode}
use Rattle.tb_core.specs.declared.refusals.Refusal.{Refusal}
use Rattle.tb_core.specs.declared.refusals.Refusal.TheVariants.{NoSuchSentence}
use Rattle.tb_core.specs.declared.refusals.Fault.TheVariants.{Refused}
use Rattle.tb_core.specs.Machine.{Machine}
use Rattle.tb_lists.specs.Batches.{batch_lines}
use Rattle.tb_lists.specs.Csv.{batches_csv}
use Rattle.tb_store.specs.Answers.{RefusesId}
use Rattle.tb_answer.specs.Numbered.{IsNumberedText, RefusesNumber}
use Rattle.tb_answer.specs.Viewed.{IsFoundText}
use Rattle.tb_page.specs.Paths.{ListText, counts, batches, sentences, sent_id}

-- how many batches, sentences and moves there are, as CSV
abbrev pub counts_csv : (batches sentences moves : ℕ) → List ℕ
counts_csv b s m = codes "batches,sentences,moves\n" ++ decimal b ++ codes "," ++ decimal s ++ codes "," ++ decimal m
    ++ codes "\n"

-- the text of the sentence with this `sent_id`, which is UTF-8
abbrev pub IsWithId : Machine → (id : List ℕ) → List ℕ → Type 0
IsWithId s id text = IsUtf8 id × IsFoundText s id text

-- no sentence has this `sent_id`; none has one that is not UTF-8
abbrev pub LacksId : Machine → (id : List ℕ) → Refusal → Type 0
LacksId s id r = (IsUtf8 id × RefusesId s id (Refused r)) ⊎ ((IsUtf8 id → ⊥) × (r ≡ NoSuchSentence))

-- the text of a list in a state
abbrev pub IsList : Machine → ListText → List ℕ → Type 0
IsList s counts text = text ≡ counts_csv (length s.batches) (length s.sentences) (length s.moves)
IsList s batches text = text ≡ batches_csv (batch_lines s)
IsList s (sentences n) text = IsNumberedText s n text
IsList s (sent_id id) text = IsWithId s (percent_decode id) text

-- the refusal of a list in a state
abbrev pub RefusesList : Machine → ListText → Refusal → Type 0
RefusesList s counts r = ⊥
RefusesList s batches r = ⊥
RefusesList s (sentences n) r = RefusesNumber s n r
RefusesList s (sent_id id) r = LacksId s (percent_decode id) r

-- The desk is as it was, where how much there is is asked: that is known without a read. Any other list is read.
abbrev pub LeavesForList : {D : Type 0} → (old new : D) → ListText → Type 0
LeavesForList old new counts = new ≡ old
LeavesForList old new batches = ⊤
LeavesForList old new (sentences n) = ⊤
LeavesForList old new (sent_id id) = ⊤
