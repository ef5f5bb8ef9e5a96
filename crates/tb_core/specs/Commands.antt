-- The commands of users, and their answers.
use Rattle.std.specs.Prelude.{◌≡◌, ℕ, ◌+◌, List, [], ◌∷◌, length, Some, slice_get}
use Rattle.tb_conllu.specs.Text.{BlockText}
use Rattle.tb_conllu.specs.Words.{words_of}
use Rattle.tb_conllu.specs.Reported.{IsFile}
use Rattle.tb_core.specs.declared.kinds.Event.{Event}
use Rattle.tb_core.specs.declared.refusals.Refusal.{Refusal}
use Rattle.tb_core.specs.declared.replies.Imported.{Imported}
use Rattle.tb_core.specs.declared.replies.Moved.{Moved}
use Rattle.tb_core.specs.declared.replies.Corrected.{Corrected}
use Rattle.tb_core.specs.declared.replies.Pulled.{Pulled}
use Rattle.tb_core.specs.declared.replies.Restored.{Restored}
use Rattle.tb_core.specs.Machine.{Batch, Sentence, Machine, weight_at, rev, one, words}
use Rattle.tb_core.specs.Acts.{Act, importing, stepping, correcting, pulling, restoring, enters, leaves, to_state}

-- Numbers of sentences and revisions count from 1; bodies are bytes.
pub data Command : Type 0 where
  import_file : (name user body : List ℕ) → Command
  event_on : (name : List ℕ) (event : Event) (user : List ℕ) → Command
  correct : (sentence base : ℕ) (user body : List ℕ) → Command
  pull : (sentence : ℕ) (user : List ℕ) → Command
  restore : (sentence : ℕ) (user : List ℕ) → Command

pub data Reply : Type 0 where
  imported : Imported → Reply
  moved_on : Moved → Reply
  corrected_to : Corrected → Reply
  pulled_out : Pulled → Reply
  restored_to : Restored → Reply

pub data Answer : Type 0 where
  replied : Reply → Answer
  refused : Refusal → Answer

-- How a command ends: its answer, and the state after it.
pub record Ending : Type 0 where
  pub answer : Answer
  pub state : Machine

abbrev pub ending : Answer → Machine → Ending
ending answer state = record { answer = answer; state = state }

-- ---- what is there

pub record HasBatch (s : Machine) (name : List ℕ) (place : ℕ) (b : Batch) : Type 0 where
  pub there : slice_get s.batches place ≡ Some b
  pub named : b.name ≡ name

-- the sentence with this number
pub record HasSentence (s : Machine) (n place : ℕ) (x : Sentence) : Type 0 where
  pub counted : n ≡ place + 1
  pub there : slice_get s.sentences place ≡ Some x

-- ---- the act of a command that is not refused, and its reply

abbrev pub Means : Machine → Command → Act → Type 0
Means s (import_file name user body) a = (bs : List BlockText) × IsFile body bs × (a ≡ importing name user bs)
Means s (event_on name event user) a = (place : ℕ) × (b : Batch) × HasBatch s name place b
    × (a ≡ stepping place event user)
Means s (correct n base user body) a = (place : ℕ) × (x : Sentence) × (b : BlockText) × HasSentence s n place x
    × (base ≡ rev x) × IsFile body (b ∷ []) × (a ≡ correcting place user b)
Means s (pull n user) a = (place : ℕ) × (x : Sentence) × HasSentence s n place x × (a ≡ pulling place user)
Means s (restore n user) a = (place : ℕ) × (x : Sentence) × HasSentence s n place x × (a ≡ restoring place user)

abbrev pub reply_to : Machine → Act → Reply
reply_to s (importing name user bs) = imported (record {
  batch = length s.batches + 1;
  first = length s.sentences + 1;
  sentences = length bs;
  words = enters words s (importing name user bs);
})
reply_to s (stepping place event user) = moved_on (record {
  batch = place + 1;
  state = to_state s (stepping place event user);
  sentences = enters one s (stepping place event user);
  words = enters words s (stepping place event user);
})
reply_to s (correcting place user b) = corrected_to (record {
  sentence = place + 1;
  rev = weight_at rev s.sentences place + 1;
  words = words_of b;
})
reply_to s (pulling place user) = pulled_out (record {
  sentence = place + 1;
  words = leaves words s (pulling place user);
})
reply_to s (restoring place user) = restored_to (record {
  sentence = place + 1;
  state = to_state s (restoring place user);
  words = enters words s (restoring place user);
})
