-- The state of a desk as plain data: batches, sentences with all their revisions, and moves.
use Rattle.std.specs.Prelude.{ℕ, ◌+◌, ◌-◌, zero, suc, List, [], ◌∷◌, ◌++◌, Bool, true, false, cond}
use Rattle.std.specs.Prelude.{map, length, nat_eq, slice_index_or, unwrap_or}
use Rattle.tb_conllu.specs.Text.{BlockText}
use Rattle.tb_conllu.specs.Words.{words_of}
use Rattle.tb_conllu.specs.Shape.{IsShaped}
use Rattle.tb_rules.specs.Comments.{sent_ids, texts, only}
use Rattle.tb_rules.specs.Rules.{KeepsRules}
use Rattle.tb_core.specs.declared.kinds.State.{State}
use Rattle.tb_core.specs.declared.kinds.State.TheVariants.{Withdrawn}
use Rattle.tb_core.specs.Moves.{MoveText}

-- ---- what a sentence of a file says

-- the value of its only comment with the key `sent_id`; a sentence that keeps the rules has one
abbrev pub sent_id_of : BlockText → List ℕ
sent_id_of b = unwrap_or (only (sent_ids b)) []

-- the value of its only comment with the key `text`
abbrev pub text_value_of : BlockText → List ℕ
text_value_of b = unwrap_or (only (texts b)) []

-- it can be written and read back, and keeps rules 1 to 11
pub record IsLawful (b : BlockText) : Type 0 where
  pub shaped : IsShaped b
  pub rules : KeepsRules b

-- ---- what a desk holds

-- its name, its state, and who works on it: nobody where the name is empty
pub record Batch : Type 0 where
  pub name : List ℕ
  pub state : State
  pub worker : List ℕ

-- one text of a sentence, and the user who wrote it
pub record Revision : Type 0 where
  pub who : List ℕ
  pub body : BlockText

-- A sentence has its batch's number, from 1, its current revision, and the revisions before it, oldest first.
pub record Sentence : Type 0 where
  pub sent_id : List ℕ
  pub batch : ℕ
  pub pulled : Bool
  pub before : List Revision
  pub current : Revision

-- batches, sentences and moves are numbered from 1, in the order of the lists
pub record Machine : Type 0 where
  pub batches : List Batch
  pub sentences : List Sentence
  pub moves : List MoveText

abbrev pub empty_machine : Machine
empty_machine = record { batches = []; sentences = []; moves = [] }

abbrev pub revisions : Sentence → List Revision
revisions x = x.before ++ x.current ∷ []

abbrev pub bodies_of : Sentence → List BlockText
bodies_of x = map (λ (r : Revision). r.body) (revisions x)

-- the number of the current revision
abbrev pub rev : Sentence → ℕ
rev x = length x.before + 1

-- the words of the current revision
abbrev pub words : Sentence → ℕ
words x = words_of x.current.body

-- the batch for a number that no batch has
abbrev pub no_batch : Batch
no_batch = record { name = []; state = Withdrawn; worker = [] }

-- the batch with this number
abbrev pub batch_with : List Batch → ℕ → Batch
batch_with bs n = slice_index_or bs (n - 1) no_batch

-- A pulled sentence is withdrawn, any other is in the state of its batch.
abbrev pub state_in : List Batch → Sentence → State
state_in bs x = cond x.pulled Withdrawn (batch_with bs x.batch).state

-- ---- sums over sentences, and changes of one

-- the sum of a weight over sentences
abbrev pub weigh : (Sentence → ℕ) → List Sentence → ℕ
weigh w [] = 0
weigh w (x ∷ xs) = w x + weigh w xs

-- the weight of the sentence at a place, 0 past the end
abbrev pub weight_at : (Sentence → ℕ) → List Sentence → ℕ → ℕ
weight_at w [] i = 0
weight_at w (x ∷ xs) zero = w x
weight_at w (x ∷ xs) (suc i) = weight_at w xs i

-- the list with the element at a place changed
abbrev pub change_at : {X : Type 0} → (X → X) → List X → ℕ → List X
change_at f [] i = []
change_at f (x ∷ xs) zero = f x ∷ xs
change_at f (x ∷ xs) (suc i) = x ∷ change_at f xs i

abbrev pub when : Bool → ℕ → ℕ
when true n = n
when false n = 0

-- each sentence counts one
abbrev pub one : Sentence → ℕ
one x = 1

-- a weight that counts only the sentences of a batch that are not pulled: those that its events move
abbrev pub at_work : ℕ → (Sentence → ℕ) → Sentence → ℕ
at_work n w x = cond x.pulled 0 (when (nat_eq x.batch n) (w x))
