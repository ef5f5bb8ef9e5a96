-- What a question has as its answer in each state: a text, or why there is none.
use Rattle.std.specs.Prelude.{◌≡◌, ◌⊎◌, ℕ, List, [], ◌∷◌, map, Option, Some, None, decimal, Result, Ok, Err}
use Rattle.std.specs.Prelude.{MatchResult}
use Rattle.tb_core.specs.declared.kinds.State.{State}
use Rattle.tb_core.specs.declared.refusals.Fault.{Fault}
use Rattle.tb_core.specs.declared.refusals.Refusal.{Refusal}
use Rattle.tb_core.specs.declared.refusals.Refusal.TheVariants.{NoSuchSentence, NoSuchRevision}
use Rattle.tb_core.specs.Machine.{Machine, one, words}
use Rattle.tb_core.specs.Totals.{total}
use Rattle.tb_core.specs.Words.{state_word}
use Rattle.tb_report.specs.Csv.{csv_of, totals_head, all_states, moves_csv}
use Rattle.tb_http.specs.declared.replies.Reply.{Reply}
use Rattle.tb_http.specs.declared.replies.Reply.TheVariants as reply
use Rattle.tb_store.specs.Answers.{IsCurrent, IsRevisionText, HasNoSentence, HasNoRevision}
use Rattle.tb_answer.specs.declared.questions.Question.{Question}
use Rattle.tb_answer.specs.declared.questions.Question.TheVariants as question
use Rattle.tb_answer.specs.Commanded.{IsFailure, reply_for_fault}

-- what was read of a desk, or the reply for its fault
abbrev pub or_reply : {X : Type 0} → Result X Fault → Result X Reply
or_reply (Ok x) = Ok x
or_reply (Err fault) = Err (reply_for_fault fault)

-- What stands for what was read, or want of memory for it. Or the reply for the fault of the read.
abbrev pub IsMadeOf : {X V : Type 0} → Result X Fault → Result V Reply → (X → V → Type 0) → Type 0
IsMadeOf (Ok x) made StandsFor = MatchResult made (StandsFor x) (λ r. r ≡ reply.Memory)
IsMadeOf (Err fault) made StandsFor = made ≡ Err (reply_for_fault fault)

-- a line of the totals: the state, its sentences and their words
abbrev pub total_row : Machine → State → List (List ℕ)
total_row s st = state_word st ∷ decimal (total one s st) ∷ decimal (total words s st) ∷ []

-- the totals as CSV, a line for each state
abbrev pub totals_text : Machine → List ℕ
totals_text s = csv_of (totals_head ∷ map (total_row s) all_states)

-- The text that answers a question in a state. With the current revision comes its number.
abbrev pub IsBody : Machine → Question → Option ℕ → List ℕ → Type 0
IsBody s (question.Sentence n) rev text = (k : ℕ) × (rev ≡ Some k) × IsCurrent s n k text
IsBody s (question.Revision n k) rev text = (rev ≡ None) × IsRevisionText s n k text
IsBody s question.Totals rev text = (rev ≡ None) × (text ≡ totals_text s)
IsBody s question.Moves rev text = (rev ≡ None) × (text ≡ moves_csv s.moves)

-- The refusal of a question in a state.
abbrev pub Refuses : Machine → Question → Refusal → Type 0
Refuses s (question.Sentence n) r = (r ≡ NoSuchSentence) × HasNoSentence s n
Refuses s (question.Revision n k) r = ((r ≡ NoSuchSentence) × HasNoSentence s n) ⊎ ((r ≡ NoSuchRevision)
    × HasNoRevision s n k)
Refuses s question.Totals r = ⊥
Refuses s question.Moves r = ⊥

-- the question is for a sentence that does not exist
abbrev pub AsksForNone : Machine → Question → Type 0
AsksForNone s (question.Sentence n) = HasNoSentence s n
AsksForNone s (question.Revision n k) = HasNoSentence s n
AsksForNone s question.Totals = ⊥
AsksForNone s question.Moves = ⊥

-- The answer in place of a text: the refusal, or a failure of the call with this cause. A question for a sentence that
-- does not exist never fails.
abbrev pub IsReportedOf : (cause : Type 0) → Machine → Question → Reply → Type 0
IsReportedOf cause s q reported =
    ((r : Refusal) × (reported ≡ reply.Refused r) × Refuses s q r)
    ⊎ (IsFailure cause reported × (AsksForNone s q → ⊥))
