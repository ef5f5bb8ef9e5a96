-- The tests of commands. Each gives the ending of a command, or none.
use Rattle.std.specs.Prelude.{◌≡◌, ℕ, ◌+◌, ◌≤◌, List, [], ◌∷◌, ◌++◌, Bool, false, cond}
use Rattle.std.specs.Prelude.{length, Err, nat_eq, nat_lt}
use Rattle.std.specs.List.{AllByRecursion, flat_map}
use Rattle.tb_conllu.specs.Text.{BlockText, text_of}
use Rattle.tb_conllu.specs.Words.{words_of}
use Rattle.tb_conllu.specs.Reported.{IsFile, IsReported}
use Rattle.tb_rules.specs.File.{IsFaultAt}
use Rattle.tb_core.specs.declared.kinds.Event.{Event}
use Rattle.tb_core.specs.declared.limits.Limits.{Limits}
use Rattle.tb_core.specs.declared.refusals.Refusal.{Refusal}
use Rattle.tb_core.specs.declared.refusals.Refusal.TheVariants.{BadName, NoSuchBatch, NoSuchSentence, Read, Rule, Empty}
use Rattle.tb_core.specs.declared.refusals.Refusal.TheVariants.{NotOne, SentIdChanged, TextChanged, NothingChanged}
use Rattle.tb_core.specs.declared.refusals.Refusal.TheVariants.{NameTaken, SentIdTaken, Full}
use Rattle.tb_core.specs.Names.{Lacks}
use Rattle.tb_core.specs.Deciding.{event_decision, correct_decision, pull_decision, restore_decision}
use Rattle.tb_core.specs.Machine.{sent_id_of, text_value_of, Batch, Revision, Sentence, Machine, batch_with, state_in}
use Rattle.tb_core.specs.Machine.{weigh, when, rev, words}
use Rattle.tb_core.specs.Acts.{Act, IsAllowed, after, names_of, ids_of, ids_in}
use Rattle.tb_core.specs.Reaching.{has_room}
use Rattle.tb_core.specs.Commands.{Command, Reply, imported, corrected_to, replied, refused, Ending, ending, HasBatch}
use Rattle.tb_core.specs.Commands.{HasSentence, Means, reply_to}

infixr 5 ◌otherwise◌
-- The first test where it gives an ending, else the second one.
pub data ◌otherwise◌ (first second : Ending → Type 0) (e : Ending) : Type 0 where
  reported : first e → ◌otherwise◌ first second e
  passed : ((d : Ending) → first d → ⊥) → second e → ◌otherwise◌ first second e

-- a refusal changes nothing
abbrev pub Refuses : Machine → (Refusal → Type 0) → Ending → Type 0
Refuses s test e = (r : Refusal) × test r × (e ≡ ending (refused r) s)

-- ---- refusals, by what a desk holds

abbrev pub IsBadName : Bool → Refusal → Type 0
IsBadName good r = (good ≡ false) × (r ≡ BadName)

abbrev pub IsNoBatch : Machine → List ℕ → Refusal → Type 0
IsNoBatch s name r = Lacks (names_of s.batches) name × (r ≡ NoSuchBatch)

abbrev pub IsNoSentence : Machine → ℕ → Refusal → Type 0
IsNoSentence s n r = ((place : ℕ) (x : Sentence) → HasSentence s n place x → ⊥) × (r ≡ NoSuchSentence)

-- WrongState, NotYours, OwnWork
abbrev pub IsEventRefused : Machine → List ℕ → Event → List ℕ → Refusal → Type 0
IsEventRefused s name event user r = (place : ℕ) × (b : Batch) × HasBatch s name place b
    × (event_decision b.state b.worker event user ≡ Err r)

-- WrongState, NotYours, OwnWork, Stale: a sentence is judged by its own state, and a pulled one is withdrawn
abbrev pub IsCorrectRefused : Machine → ℕ → ℕ → List ℕ → Refusal → Type 0
IsCorrectRefused s n base user r =
    (place : ℕ) × (x : Sentence) × HasSentence s n place x
    × (correct_decision (state_in s.batches x) (batch_with s.batches x.batch).worker user base (rev x) ≡ Err r)

-- WrongState, Pulled
abbrev pub IsPullRefused : Machine → ℕ → Refusal → Type 0
IsPullRefused s n r = (place : ℕ) × (x : Sentence) × HasSentence s n place x
    × (pull_decision (batch_with s.batches x.batch).state x.pulled ≡ Err r)

-- WrongState, NotPulled
abbrev pub IsRestoreRefused : Machine → ℕ → Refusal → Type 0
IsRestoreRefused s n r = (place : ℕ) × (x : Sentence) × HasSentence s n place x
    × (restore_decision (batch_with s.batches x.batch).state x.pulled ≡ Err r)

abbrev pub IsNameTaken : Machine → List ℕ → Refusal → Type 0
IsNameTaken s name r = (Lacks (names_of s.batches) name → ⊥) × (r ≡ NameTaken)

-- the first sentence of the file, counted from 1, whose `sent_id` a sentence of the desk has
pub record IsFirstTaken (ids : List (List ℕ)) (bs : List BlockText) (k : ℕ) : Type 0 where
  pub before : List BlockText
  pub body : BlockText
  pub more : List BlockText
  pub whole : bs ≡ before ++ body ∷ more
  pub counted : k ≡ length before + 1
  pub free : AllByRecursion (Lacks ids) (ids_in before)
  pub taken : Lacks ids (sent_id_of body) → ⊥

abbrev pub IsIdTaken : Machine → List ℕ → Refusal → Type 0
IsIdTaken s body r = (bs : List BlockText) × (k : ℕ) × IsFile body bs × IsFirstTaken (ids_of s.sentences) bs k
    × (r ≡ SentIdTaken k)

abbrev pub IsFull : Limits → Machine → Command → Refusal → Type 0
IsFull l s c r = (a : Act) × Means s c a × (has_room l s a ≡ false) × (r ≡ Full)

-- ---- refusals, by the body

abbrev pub IsUnread : List ℕ → Refusal → Type 0
IsUnread body r = (line : ℕ) × (code : ℕ) × IsReported body line code × (r ≡ Read line code)

abbrev pub IsBroken : List ℕ → Refusal → Type 0
IsBroken body r = (bs : List BlockText) × (sentence : ℕ) × (rule : ℕ) × (row : ℕ) × IsFile body bs
    × IsFaultAt bs sentence rule row × (r ≡ Rule sentence rule row)

abbrev pub IsEmpty : List ℕ → Refusal → Type 0
IsEmpty body r = IsFile body [] × (r ≡ Empty)

abbrev pub IsNotOne : List ℕ → Refusal → Type 0
IsNotOne body r = (a : BlockText) × (b : BlockText) × (more : List BlockText) × IsFile body (a ∷ b ∷ more)
    × (r ≡ NotOne)

-- the relation of a correction's body to the sentence that it corrects
abbrev pub Corrects : Machine → ℕ → List ℕ → (Sentence → BlockText → Type 0) → Type 0
Corrects s n body relation = (place : ℕ) × (x : Sentence) × (b : BlockText) × HasSentence s n place x
    × IsFile body (b ∷ []) × relation x b

abbrev pub IsIdChanged : Machine → ℕ → List ℕ → Refusal → Type 0
IsIdChanged s n body r = Corrects s n body (λ x b. sent_id_of b ≡ x.sent_id → ⊥) × (r ≡ SentIdChanged)

abbrev pub IsTextChanged : Machine → ℕ → List ℕ → Refusal → Type 0
IsTextChanged s n body r = Corrects s n body (λ x b. text_value_of b ≡ text_value_of x.current.body → ⊥)
    × (r ≡ TextChanged)

abbrev pub IsNothingChanged : Machine → ℕ → List ℕ → Refusal → Type 0
IsNothingChanged s n body r = Corrects s n body (λ x b. b ≡ x.current.body) × (r ≡ NothingChanged)

-- ---- repeats: the same reply, and nothing changes

-- the first revision of a sentence
abbrev pub first_in : List Revision → Revision → BlockText
first_in [] c = c.body
first_in (r ∷ rs) c = r.body

abbrev pub first_body : Sentence → BlockText
first_body x = first_in x.before x.current

-- the first revisions of a batch's sentences, in order
abbrev pub first_of : ℕ → Sentence → List BlockText
first_of n x = cond (nat_eq x.batch n) (first_body x ∷ []) []

abbrev pub first_bodies : ℕ → List Sentence → List BlockText
first_bodies n xs = flat_map (first_of n) xs

-- of a batch: the words of its first revisions, the number of its sentences, and the number of sentences before it
abbrev pub first_words : ℕ → Sentence → ℕ
first_words n x = when (nat_eq x.batch n) (words_of (first_body x))

abbrev pub of_batch : ℕ → Sentence → ℕ
of_batch n x = when (nat_eq x.batch n) 1

abbrev pub before_batch : ℕ → Sentence → ℕ
before_batch n x = when (nat_lt x.batch n) 1

-- the reply to the import that made a batch, from first revisions alone
abbrev pub import_reply : Machine → ℕ → Reply
import_reply s n = imported (record {
  batch = n;
  first = weigh (before_batch n) s.sentences + 1;
  sentences = weigh (of_batch n) s.sentences;
  words = weigh (first_words n) s.sentences;
})

-- a batch has the name, and its first revisions are the body, byte for byte; the user does not matter
abbrev pub RepeatsImport : Machine → List ℕ → List ℕ → Ending → Type 0
RepeatsImport s name body e = (place : ℕ) × (b : Batch) × HasBatch s name place b
    × (body ≡ text_of (first_bodies (place + 1) s.sentences))
    × (e ≡ ending (replied (import_reply s (place + 1))) s)

-- the current revision is the one after the base, by this user, and its text is the body
abbrev pub RepeatsCorrection : Machine → ℕ → ℕ → List ℕ → List ℕ → Ending → Type 0
RepeatsCorrection s n base user body e =
    (place : ℕ) × (x : Sentence) × HasSentence s n place x × (1 ≤ base) × (rev x ≡ base + 1)
    × (x.current.who ≡ user) × (body ≡ text_of (x.current.body ∷ []))
    × (e ≡ ending (replied (corrected_to (record { sentence = n; rev = base + 1; words = words x }))) s)

-- ---- acceptance

abbrev pub Accepts : Machine → Command → Ending → Type 0
Accepts s c e = (a : Act) × Means s c a × IsAllowed s a × (e ≡ ending (replied (reply_to s a)) (after s a))
