-- What an accepted command does, and when it may be done.
use Rattle.std.specs.Prelude.{◌≡◌, ℕ, ◌+◌, ◌<◌, List, [], ◌∷◌, ◌++◌, Bool, true, false, map}
use Rattle.std.specs.Prelude.{length, Option, Some, None, Ok, slice_get, slice_index_or}
use Rattle.std.specs.List.{AllByRecursion}
use Rattle.tb_conllu.specs.Text.{BlockText}
use Rattle.tb_conllu.specs.Shape.{AllShaped}
use Rattle.tb_rules.specs.File.{IsValid}
use Rattle.tb_core.specs.declared.kinds.State.{State}
use Rattle.tb_core.specs.declared.kinds.State.TheVariants.{Opened, Withdrawn}
use Rattle.tb_core.specs.declared.kinds.Event.{Event}
use Rattle.tb_core.specs.declared.kinds.Worker.{Worker}
use Rattle.tb_core.specs.declared.kinds.Worker.TheVariants.{Keep, Caller, Cleared}
use Rattle.tb_core.specs.declared.kinds.Kind.{Kind}
use Rattle.tb_core.specs.declared.kinds.Kind.TheVariants.{Import, Step, Correct, Pull, Restore}
use Rattle.tb_core.specs.Moves.{MoveText}
use Rattle.tb_core.specs.Names.{is_name, Lacks}
use Rattle.tb_core.specs.Events.{goes_to, makes_worker}
use Rattle.tb_core.specs.Deciding.{event_decision, may_correct, pull_decision, restore_decision}
use Rattle.tb_core.specs.Machine.{sent_id_of, text_value_of, IsLawful, Batch, Sentence, Machine, batch_with, state_in}
use Rattle.tb_core.specs.Machine.{weigh, weight_at, change_at, one, words, at_work, no_batch}

-- An accepted command. Places of batches and sentences count from 0.
pub data Act : Type 0 where
  importing : (name user : List ℕ) (bodies : List BlockText) → Act
  stepping : (place : ℕ) (event : Event) (user : List ℕ) → Act
  correcting : (place : ℕ) (user : List ℕ) (body : BlockText) → Act
  pulling : (place : ℕ) (user : List ℕ) → Act
  restoring : (place : ℕ) (user : List ℕ) → Act

abbrev pub names_of : List Batch → List (List ℕ)
names_of bs = map (λ (b : Batch). b.name) bs

abbrev pub ids_of : List Sentence → List (List ℕ)
ids_of xs = map (λ (x : Sentence). x.sent_id) xs

abbrev pub ids_in : List BlockText → List (List ℕ)
ids_in bs = map sent_id_of bs

-- ---- when

-- a file of one or more sentences, valid by itself, under a new name; no sentence of the desk has one of its `sent_id`s
pub record MayImport (s : Machine) (name user : List ℕ) (bodies : List BlockText) : Type 0 where
  pub named : is_name name ≡ true
  pub by : is_name user ≡ true
  pub some : 0 < length bodies
  pub shaped : AllShaped bodies
  pub valid : IsValid bodies
  pub new : Lacks (names_of s.batches) name
  pub free : AllByRecursion (Lacks (ids_of s.sentences)) (ids_in bodies)

pub record MayStep (s : Machine) (place : ℕ) (event : Event) (user : List ℕ) : Type 0 where
  pub by : is_name user ≡ true
  pub batch : Batch
  pub there : slice_get s.batches place ≡ Some batch
  pub decided : event_decision batch.state batch.worker event user ≡ Ok (goes_to event, makes_worker event)

-- a sentence that keeps the rules, with the same `sent_id` and `text`, and something new
pub record MayCorrect (s : Machine) (place : ℕ) (user : List ℕ) (body : BlockText) : Type 0 where
  pub by : is_name user ≡ true
  pub sentence : Sentence
  pub there : slice_get s.sentences place ≡ Some sentence
  pub decided : may_correct (state_in s.batches sentence) (batch_with s.batches sentence.batch).worker user ≡ Ok tt
  pub lawful : IsLawful body
  pub same_id : sent_id_of body ≡ sentence.sent_id
  pub same_text : text_value_of body ≡ text_value_of sentence.current.body
  pub new : body ≡ sentence.current.body → ⊥

pub record MayPull (s : Machine) (place : ℕ) (user : List ℕ) : Type 0 where
  pub by : is_name user ≡ true
  pub sentence : Sentence
  pub there : slice_get s.sentences place ≡ Some sentence
  pub decided : pull_decision (batch_with s.batches sentence.batch).state sentence.pulled ≡ Ok tt

pub record MayRestore (s : Machine) (place : ℕ) (user : List ℕ) : Type 0 where
  pub by : is_name user ≡ true
  pub sentence : Sentence
  pub there : slice_get s.sentences place ≡ Some sentence
  pub decided : restore_decision (batch_with s.batches sentence.batch).state sentence.pulled
      ≡ Ok (batch_with s.batches sentence.batch).state

abbrev pub IsAllowed : Machine → Act → Type 0
IsAllowed s (importing name user bodies) = MayImport s name user bodies
IsAllowed s (stepping place event user) = MayStep s place event user
IsAllowed s (correcting place user body) = MayCorrect s place user body
IsAllowed s (pulling place user) = MayPull s place user
IsAllowed s (restoring place user) = MayRestore s place user

-- ---- what becomes of batches and sentences

abbrev pub new_batch : List ℕ → Batch
new_batch name = record { name = name; state = Opened; worker = [] }

abbrev pub new_sentence : ℕ → List ℕ → BlockText → Sentence
new_sentence n user b = record {
  sent_id = sent_id_of b;
  batch = n;
  pulled = false;
  before = [];
  current = record { who = user; body = b };
}

abbrev pub new_sentences : ℕ → List ℕ → List BlockText → List Sentence
new_sentences n user bs = map (new_sentence n user) bs

abbrev pub with_worker : Worker → List ℕ → List ℕ → List ℕ
with_worker Keep user old = old
with_worker Caller user old = user
with_worker Cleared user old = []

abbrev pub moved : Event → List ℕ → Batch → Batch
moved e user b = record { name = b.name; state = goes_to e; worker = with_worker (makes_worker e) user b.worker }

abbrev pub corrected : List ℕ → BlockText → Sentence → Sentence
corrected user body x = record {
  sent_id = x.sent_id;
  batch = x.batch;
  pulled = x.pulled;
  before = x.before ++ x.current ∷ [];
  current = record { who = user; body = body };
}

abbrev pub flagged : Bool → Sentence → Sentence
flagged p x = record { sent_id = x.sent_id; batch = x.batch; pulled = p; before = x.before; current = x.current }

abbrev pub batches_after : Machine → Act → List Batch
batches_after s (importing name user bodies) = s.batches ++ new_batch name ∷ []
batches_after s (stepping place event user) = change_at (moved event user) s.batches place
batches_after s (correcting place user body) = s.batches
batches_after s (pulling place user) = s.batches
batches_after s (restoring place user) = s.batches

abbrev pub sentences_after : Machine → Act → List Sentence
sentences_after s (importing name user bodies) = s.sentences ++ new_sentences (length s.batches + 1) user bodies
sentences_after s (stepping place event user) = s.sentences
sentences_after s (correcting place user body) = change_at (corrected user body) s.sentences place
sentences_after s (pulling place user) = change_at (flagged true) s.sentences place
sentences_after s (restoring place user) = change_at (flagged false) s.sentences place

-- ---- the move

-- how much leaves a state and how much enters one, by a weight
abbrev pub leaves : (Sentence → ℕ) → Machine → Act → ℕ
leaves w s (importing name user bodies) = 0
leaves w s (stepping place event user) = weigh (at_work (place + 1) w) s.sentences
leaves w s (correcting place user body) = weight_at w s.sentences place
leaves w s (pulling place user) = weight_at w s.sentences place
leaves w s (restoring place user) = weight_at w s.sentences place

abbrev pub enters : (Sentence → ℕ) → Machine → Act → ℕ
enters w s (importing name user bodies) = weigh w (new_sentences (length s.batches + 1) user bodies)
enters w s (stepping place event user) = weigh (at_work (place + 1) w) s.sentences
enters w s (correcting place user body) = weight_at w (change_at (corrected user body) s.sentences place) place
enters w s (pulling place user) = weight_at w s.sentences place
enters w s (restoring place user) = weight_at w s.sentences place

abbrev pub batch_at : List Sentence → ℕ → ℕ
batch_at xs i = weight_at (λ (x : Sentence). x.batch) xs i

abbrev pub kind_of : Act → Kind
kind_of (importing name user bodies) = Import
kind_of (stepping place event user) = Step event
kind_of (correcting place user body) = Correct
kind_of (pulling place user) = Pull
kind_of (restoring place user) = Restore

abbrev pub user_of : Act → List ℕ
user_of (importing name user bodies) = user
user_of (stepping place event user) = user
user_of (correcting place user body) = user
user_of (pulling place user) = user
user_of (restoring place user) = user

-- the number of the batch
abbrev pub batch_number : Machine → Act → ℕ
batch_number s (importing name user bodies) = length s.batches + 1
batch_number s (stepping place event user) = place + 1
batch_number s (correcting place user body) = batch_at s.sentences place
batch_number s (pulling place user) = batch_at s.sentences place
batch_number s (restoring place user) = batch_at s.sentences place

-- the number of the sentence, 0 where a whole batch moves
abbrev pub sent_number : Act → ℕ
sent_number (importing name user bodies) = 0
sent_number (stepping place event user) = 0
sent_number (correcting place user body) = place + 1
sent_number (pulling place user) = place + 1
sent_number (restoring place user) = place + 1

-- the state of the sentence's batch
abbrev pub state_at : Machine → ℕ → State
state_at s place = (batch_with s.batches (batch_at s.sentences place)).state

abbrev pub from_state : Machine → Act → Option State
from_state s (importing name user bodies) = None
from_state s (stepping place event user) = Some (slice_index_or s.batches place no_batch).state
from_state s (correcting place user body) = Some (state_at s place)
from_state s (pulling place user) = Some (state_at s place)
from_state s (restoring place user) = Some Withdrawn

abbrev pub to_state : Machine → Act → State
to_state s (importing name user bodies) = Opened
to_state s (stepping place event user) = goes_to event
to_state s (correcting place user body) = state_at s place
to_state s (pulling place user) = Withdrawn
to_state s (restoring place user) = state_at s place

abbrev pub move_of : Machine → Act → MoveText
move_of s a = record {
  no = length s.moves + 1;
  kind = kind_of a;
  batch = batch_number s a;
  sent = sent_number a;
  from = from_state s a;
  to = to_state s a;
  sentences = enters one s a;
  words_out = leaves words s a;
  words_in = enters words s a;
  who = user_of a;
}

-- the one state after it
abbrev pub after : Machine → Act → Machine
after s a = record {
  batches = batches_after s a;
  sentences = sentences_after s a;
  moves = s.moves ++ move_of s a ∷ [];
}
