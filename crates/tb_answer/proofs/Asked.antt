-- What was read of a request, and how it was answered.
use Rattle.std.proofs.Common.{◌≡◌, ◌≢◌, ℕ, List, Option, Some, None, Result, Ok, Err, IfOk, IfErr, IfSome, refl, sym, ◌∙◌, subst, inl, inr}
use Rattle.sqlite.specs.Store.{Ghosts}
use Rattle.tb_http.specs.declared.asks.AskFault.{AskFault}
use Rattle.tb_http.specs.declared.asks.AskFault.TheVariants as ask
use Rattle.tb_http.specs.declared.replies.Reply.TheVariants as reply
use Rattle.tb_http.specs.declared.status.Status.{Status}
use Rattle.tb_http.specs.Asks.{Outcome, body_limit}
use Rattle.tb_http.specs.Faults.{BeginsBody}
use Rattle.tb_store.specs.Calls.{InState}
use Rattle.tb_store.specs.Kept.{Kept}
use Rattle.tb_answer.specs.declared.answering.Broken.{Broken}
use Rattle.tb_answer.specs.declared.answering.Broken.TheVariants.{Read, Write}
use Rattle.tb_answer.specs.Served.{AsksKnown, IsReplied, IsReplySent, IsSafeFor, IsSafeOf, Serves, outcome}
use Rattle.tb_answer.proofs.Chained.{ok_is_no_read, write_is_no_read}

sent_is_no_read : (sent : Option Status) → outcome sent ≡ Err Read → ⊥
sent_is_no_read (Some code) is = ok_is_no_read code is
sent_is_no_read None is = write_is_no_read is

pub at_broken : {A : Type 0} (P : AskFault → Type 0) (read : Result A AskFault) → read ≡ Err ask.Broken → IfErr read P → P ask.Broken
at_broken P read is h = subst (λ r. IfErr r P) is h

module _ {A S Reason : Type 0} (says : A → Outcome) (g : Ghosts S) (bytes : Option (List ℕ)) (old new : Kept S) (before after : Option (List ℕ)) (is_refusal : Reason → Type 0) (result : Result Status Broken) where
  abbrev IsAnswered : Result A AskFault → Type 0
  IsAnswered read = IfOk read (λ a. (sent : Option Status) × (result ≡ outcome sent) × InState g old new (λ s. IsReplied before after is_refusal sent g old.limits s (says a) old new))

  abbrev WantsMemory : Result A AskFault → Type 0
  WantsMemory read = read ≡ Err ask.Memory → (sent : Option Status) × (result ≡ outcome sent) × IsReplySent before after is_refusal sent reply.Memory

  pub served : (read : Result A AskFault) → IfOk read (λ a. AsksKnown bytes (says a)) → IsAnswered read → IfErr read (λ _. new ≡ old) → WantsMemory read → (read ≡ Err ask.Broken → result ≡ Err Read)
      → IfErr read (λ e. e ≡ ask.Memory → IfSome bytes (BeginsBody body_limit)) → result ≢ Err Read → Serves g bytes old new before after is_refusal result
  served (Ok a) asks replied same wants broken begins other clean s stands = (replied.0, inl (says a, asks, replied.2 clean s stands), replied.1)
  served (Err ask.Memory) asks replied same wants broken begins other clean s stands = let it = wants refl in (it.0, inr (same, begins refl, it.2), it.1)
  served (Err ask.Broken) asks replied same wants broken begins other clean s stands = absurd (other (broken refl))

  -- only a failed read is told as one
  pub only_broken : (read : Result A AskFault) → IsAnswered read → WantsMemory read → result ≡ Err Read → read ≡ Err ask.Broken
  only_broken (Ok a) replied wants is = absurd (sent_is_no_read replied.0 (sym replied.1 ∙ is))
  only_broken (Err ask.Memory) replied wants is = let it = wants refl in absurd (sent_is_no_read it.0 (sym it.1 ∙ is))
  only_broken (Err ask.Broken) replied wants is = refl

  pub safe_after : (read : Result A AskFault) → IfOk read (λ a. AsksKnown bytes (says a)) → IfOk read (λ a. IsSafeFor g (says a) old new) → IfErr read (λ _. new ≡ old) → IsSafeOf g bytes old new
  safe_after (Ok a) asks safe same = inr (says a, asks, safe)
  safe_after (Err e) asks safe same = inl same
