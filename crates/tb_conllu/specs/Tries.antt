-- Inner: no contract beyond this crate cites a definition of this module.
-- The answers of a writer that is asked to take some of a text, and when writing the text ends. Those of a reader.
use Rattle.std.specs.Prelude.{◌≡◌, ℕ, ◌+◌, ◌<◌, ◌≤◌, List, [], ◌∷◌, ◌++◌, length, replicate}
use Rattle.std.specs.Prelude.{Option, Some, None, Result, Ok, Err}
use Rattle.std.specs.Prelude.{⊤, ◌⊎◌}
use Rattle.std.specs.List.{AllByRecursion}
use Rattle.tb_conllu.specs.declared.sink.Stop.{Stop}
use Rattle.tb_conllu.specs.declared.sink.Stop.TheVariants.{Interrupted, Failed}

-- how many bytes it took; or why it took none
abbrev pub Answer : Type 0
Answer = Result ℕ Stop

-- these were added to the counted answers
abbrev pub Answers : Option (List Answer) → Option (List Answer) → List Answer → Type 0
Answers None new rs = ⊤
Answers (Some xs) None rs = ⊥
Answers (Some xs) (Some ys) rs = ys ≡ xs ++ rs

-- it took some bytes, or a signal interrupted it: writing goes on
abbrev pub GoesOn : Answer → Type 0
GoesOn (Ok n) = 0 < n
GoesOn (Err Interrupted) = ⊤
GoesOn (Err Failed) = ⊥

-- it took no byte: there was no room, a signal interrupted it, or it failed
abbrev pub TakesNone : Answer → Type 0
TakesNone (Ok n) = n ≡ 0
TakesNone (Err stop) = ⊤

-- 1 for an interruption by a signal
abbrev pub one_if_interrupted : Answer → ℕ
one_if_interrupted (Ok n) = 0
one_if_interrupted (Err Interrupted) = 1
one_if_interrupted (Err Failed) = 0

-- how often a signal interrupted it
abbrev pub interruptions : List Answer → ℕ
interruptions [] = 0
interruptions (a ∷ rs) = one_if_interrupted a + interruptions rs

-- after each answer writing goes on, and there were fewer than a thousand interruptions
pub record AreSteps (rs : List Answer) : Type 0 where
  pub steps : AllByRecursion GoesOn rs
  pub patient : interruptions rs < 1000

-- the last answer takes no byte: writing does not go on after it, or it is the thousandth interruption
pub record AreLast (rs : List Answer) : Type 0 where
  pub before : List Answer
  pub last : Answer
  pub all : rs ≡ before ++ last ∷ []
  pub steps : AreSteps before
  pub none : TakesNone last
  pub reason : (GoesOn last → ⊥) ⊎ (interruptions rs ≡ 1000)

-- a text of this many bytes was taken, in at most as many calls as it has bytes, and a thousand more
abbrev pub HasTaken : Option (List Answer) → Option (List Answer) → ℕ → Type 0
HasTaken old new bytes = (rs : List Answer) × Answers old new rs × AreSteps rs × (length rs ≤ bytes + 1000)

-- it was not, in at most as many calls, and the last answer is the reason
abbrev pub HasGivenUp : Option (List Answer) → Option (List Answer) → ℕ → Type 0
HasGivenUp old new bytes = (rs : List Answer) × Answers old new rs × AreLast rs × (length rs ≤ bytes + 1000)

-- this is known of an answer that takes no byte
abbrev pub HasStopped : (Answer → Type 0) → Type 0
HasStopped is_answer = (a : Answer) × TakesNone a × is_answer a

-- ---- a reader

-- so many signals interrupted it
abbrev pub signals : ℕ → List Answer
signals n = replicate n (Err Interrupted)

-- it gave n bytes, after fewer than a thousand interruptions
abbrev pub HasRead : Option (List Answer) → Option (List Answer) → ℕ → Type 0
HasRead old new n = (k : ℕ) × (k < 1000) × Answers old new (signals k ++ Ok n ∷ [])

-- it failed after fewer than a thousand interruptions, or there were a thousand
abbrev pub HasFailed : Option (List Answer) → Option (List Answer) → Type 0
HasFailed old new = ((k : ℕ) × (k < 1000) × Answers old new (signals k ++ Err Failed ∷ []))
    ⊎ Answers old new (signals 1000)
