-- Which sentences of a desk are released, which a batch has, and what a sink has of them.
use Rattle.std.specs.Prelude.{ℕ, List, map, take, filter, Bool, nat_eq, Option}
use Rattle.std.specs.Io.KnownBytes.{Appends}
use Rattle.tb_conllu.specs.Text.{text_of}
use Rattle.tb_conllu.specs.Sunk.{AppendsPart}
use Rattle.tb_core.specs.declared.kinds.State.TheVariants.{Released}
use Rattle.tb_core.specs.Events.{is_state}
use Rattle.tb_core.specs.Machine.{Machine, Batch, Sentence, state_in}
use Rattle.tb_search.specs.declared.stopped.Stopped.{Stopped}
use Rattle.tb_search.specs.declared.stopped.Stopped.TheVariants.{Output}

abbrev pub is_released : List Batch → Sentence → Bool
is_released bs x = is_state (state_in bs x) Released

-- the released sentences, in the order of their numbers; a pulled sentence is withdrawn
abbrev pub released : Machine → List Sentence
released s = filter (is_released s.batches) s.sentences

-- all sentences of the batch with this number, pulled ones too, in the order of their numbers
abbrev pub in_batch : Machine → ℕ → List Sentence
in_batch s n = filter (λ (x : Sentence). nat_eq x.batch n) s.sentences

-- the text of their current revisions
abbrev pub current_text : List Sentence → List ℕ
current_text xs = text_of (map (λ (x : Sentence). x.current.body) xs)

-- What a sink has when a call ends early: a first part where the sink refused, else whole sentences.
abbrev pub IsCutShort : Stopped → Option (List ℕ) → Option (List ℕ) → List Sentence → Type 0
IsCutShort Output old new xs = AppendsPart old new (current_text xs)
IsCutShort _ old new xs = (k : ℕ) × Appends old new (current_text (take k xs))
