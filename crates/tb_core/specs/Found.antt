-- Between crates: no contract of a front door cites a definition of this module.
-- What was read from a desk for one command, and what it says of the state of the machine.
use Rattle.std.specs.Prelude.{◌≡◌, ℕ, ◌+◌, ◌-◌, List, [], ◌∷◌, Bool, true, false, Option, None}
use Rattle.std.specs.Prelude.{Some}
use Rattle.std.specs.List.{AllByRecursion}
use Rattle.tb_conllu.specs.Text.{BlockText, text_of}
use Rattle.tb_core.specs.declared.kinds.State.{State}
use Rattle.tb_core.specs.Names.{Lacks}
use Rattle.tb_core.specs.Machine.{Batch, Sentence, Machine, batch_with, rev, words}
use Rattle.tb_core.specs.Acts.{names_of, ids_of, ids_in}
use Rattle.tb_core.specs.Commands.{imported, HasBatch, HasSentence}
use Rattle.tb_core.specs.Tests.{IsFirstTaken, first_bodies, import_reply}
use Rattle.tb_core.specs.declared.pulling.SentenceFound.{SentenceFound}
use Rattle.tb_core.specs.declared.importing.NameFound.{NameFound}
use Rattle.tb_core.specs.declared.importing.NameFound.TheVariants.{Free, Taken, Same}

-- ---- the batch of an event

-- its number, its state, and who works on it
pub record BatchSeen : Type 0 where
  pub number : ℕ
  pub state : State
  pub worker : List ℕ

-- the batch with this name, or none where no batch has it
abbrev pub FindsBatch : Machine → List ℕ → Option BatchSeen → Type 0
FindsBatch s name None = Lacks (names_of s.batches) name
FindsBatch s name (Some f) = (place : ℕ) × (b : Batch) × HasBatch s name place b × (f.number ≡ place + 1)
    × (f.state ≡ b.state) × (f.worker ≡ b.worker)

-- the place of the batch, counted from 0
abbrev pub place_of : Option BatchSeen → ℕ
place_of None = 0
place_of (Some f) = f.number - 1

-- ---- the sentence of a pull, a restore or a correction

abbrev pub LacksSentence : Machine → ℕ → Type 0
LacksSentence s n = (place : ℕ) (x : Sentence) → HasSentence s n place x → ⊥

-- the state of the batch of the sentence with this number, and whether it is pulled; none where no sentence has the
-- number
abbrev pub FindsSentence : Machine → ℕ → Option SentenceFound → Type 0
FindsSentence s n None = LacksSentence s n
FindsSentence s n (Some f) = (place : ℕ) × (x : Sentence) × HasSentence s n place x
    × (f.state ≡ (batch_with s.batches x.batch).state) × (f.pulled ≡ x.pulled)

-- the sentence: the state and the worker of its batch, and whether it is pulled; its current revision: number, user,
-- text, and number of words
pub record CurrentSeen : Type 0 where
  pub state : State
  pub worker : List ℕ
  pub pulled : Bool
  pub rev : ℕ
  pub who : List ℕ
  pub body : List ℕ
  pub words : ℕ

-- what is read from a sentence
pub record IsSeen (s : Machine) (x : Sentence) (f : CurrentSeen) : Type 0 where
  pub state : f.state ≡ (batch_with s.batches x.batch).state
  pub worker : f.worker ≡ (batch_with s.batches x.batch).worker
  pub pulled : f.pulled ≡ x.pulled
  pub rev : f.rev ≡ rev x
  pub who : f.who ≡ x.current.who
  pub body : f.body ≡ text_of (x.current.body ∷ [])
  pub words : f.words ≡ words x

-- the sentence with this number
abbrev pub FindsCurrent : Machine → ℕ → Option CurrentSeen → Type 0
FindsCurrent s n None = LacksSentence s n
FindsCurrent s n (Some f) = (place : ℕ) × (x : Sentence) × HasSentence s n place x × IsSeen s x f

-- ---- the name and the sentences of an import

-- `Free`: no batch has the name. `Taken`: a batch has it, whose first revisions are not this body. `Same`: they are
-- this body, and the reply is that of the import that made the batch.
abbrev pub FindsName : Machine → List ℕ → List ℕ → NameFound → Type 0
FindsName s name body Free = Lacks (names_of s.batches) name
FindsName s name body Taken = (place : ℕ) × (b : Batch) × HasBatch s name place b
    × (body ≡ text_of (first_bodies (place + 1) s.sentences) → ⊥)
FindsName s name body (Same reply) = (place : ℕ) × (b : Batch) × HasBatch s name place b
    × (body ≡ text_of (first_bodies (place + 1) s.sentences)) × (imported reply ≡ import_reply s (place + 1))

abbrev pub is_free : NameFound → Bool
is_free Free = true
is_free Taken = false
is_free (Same reply) = false

-- the first sentence of the file, counted from 1, whose `sent_id` a sentence of the desk has, or none
abbrev pub FindsId : Machine → List BlockText → Option ℕ → Type 0
FindsId s bs None = AllByRecursion (Lacks (ids_of s.sentences)) (ids_in bs)
FindsId s bs (Some k) = IsFirstTaken (ids_of s.sentences) bs k
