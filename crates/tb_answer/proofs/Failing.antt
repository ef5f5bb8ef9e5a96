-- What the fault of a desk is told as.
use Rattle.std.proofs.Common.{◌≡◌, refl, ap, inl, inr, Result, Ok, Err, IfOk, IfErr, IsTrue, MatchResult, OnOk}
use Rattle.std.specs.Result.{result_err}
use Rattle.std.proofs.lemmas.Option.{same_Some}
use Rattle.sqlite.specs.Store.{Ghosts}
use Rattle.tb_core.specs.declared.refusals.Refusal.{Refusal}
use Rattle.tb_core.specs.declared.refusals.Fault.{Fault}
use Rattle.tb_core.specs.declared.refusals.Fault.TheVariants.{Refused, Memory, Device, NotADesk, Output}
use Rattle.tb_core.specs.Machine.{Machine}
use Rattle.tb_core.specs.Commands.{Command, refused, replied, Reply as AnyReply}
use Rattle.tb_http.specs.declared.replies.Reply.{Reply}
use Rattle.tb_http.specs.declared.replies.Reply.TheVariants as reply
use Rattle.tb_store.specs.Kept.{Kept}
use Rattle.tb_store.specs.Calls.{CommandEnds, IsDurable}
use Rattle.tb_tables.specs.Leaving.{IsFaultless}
use Rattle.tb_answer.specs.Commanded.{reply_for, reply_for_fault, reply_of, BlamesFor, HasRoom, IsFailure, IsForNone, IsAnswered}

-- a result that is no refusal
no_refusal : {X : Type 0} (e : Fault) → (r : Refusal) × (◌≡◌ {A = Result X Fault} (Err e) (Err (Refused r))) → (r : Refusal) × (e ≡ Refused r)
no_refusal {X} e (r, same) = (r, same_Some e (Refused r) (ap (λ (q : Result X Fault). result_err q) same))

-- the reply for how a command ended, by either of its parts
pub told_by : {X : Type 0} (tells : X → Reply) (ended : Result X Fault) (r : Reply) → MatchResult ended (λ x. r ≡ tells x) (λ e. r ≡ reply_for_fault e) → r ≡ reply_of tells ended
told_by tells (Ok x) r is = is
told_by tells (Err e) r is = is

module _ {S X : Type 0} (g : Ghosts S) (old new : Kept S) (c : Command) (accepted : X → AnyReply) (tells : X → Reply) (s : Machine) where
  answered_by_fault : (e : Fault) → CommandEnds g old new c accepted s (Err e) → (e ≡ Device → BlamesFor g old.limits s c old new) → (IsForNone s c → (r : Refusal) × (e ≡ Refused r))
      → IsAnswered g old.limits s c old new (reply_for_fault e)
  answered_by_fault (Refused r) ended why none = inl (refused r, s, ended.0, ended.1, refl)
  answered_by_fault Memory ended why none = inr (inl (refl, ended, λ it. let is : Memory ≡ Refused (none it).0 = (none it).1 in absurd cc))
  answered_by_fault Device ended why none = inr (inr (refl, ended, why refl, λ it. let is : Device ≡ Refused (none it).0 = (none it).1 in absurd cc))
  answered_by_fault NotADesk ended why none = absurd ended
  answered_by_fault Output ended why none = absurd ended

  pub answered_by : (ended : Result X Fault) → ((x : X) → tells x ≡ reply_for (replied (accepted x))) → CommandEnds g old new c accepted s ended
      → (HasRoom g old.limits s c old → IsFaultless g old.conn new.conn → IfErr ended (λ e. e ≡ Device → IsTrue new.in_doubt × IsDurable g new s))
      → (IsForNone s c → (r : Refusal) × (ended ≡ Err (Refused r))) → IsAnswered g old.limits s c old new (reply_of tells ended)
  answered_by (Ok x) same made why none = inl (replied (accepted x), made.0, made.1, made.2, same x)
  answered_by (Err e) same ended why none = answered_by_fault e ended (λ is room good. (why room good is).0) (λ it. no_refusal {X = X} e (none it))

-- for another cause
pub fails_for : {one other : Type 0} (r : Reply) → (one → other) → IsFailure one r → IsFailure other r
fails_for r f (inl wants) = inl wants
fails_for r f (inr (failed, why)) = inr (failed, f why)

pub if_ok : {T E : Type 0} {P Q : T → Type 0} (r : Result T E) → IfOk r P → ((x : T) → P x → Q x) → IfOk r Q
if_ok (Ok x) h f = f x h
if_ok (Err e) h f = tt

-- what holds of an error in each state, in one
pub at_err : {T E A : Type 0} (Stands : A → Type 0) (P : A → E → Type 0) (r : Result T E) → IfErr r (λ e. (a : A) → Stands a → P a e) → (a : A) → Stands a → IfErr r (P a)
at_err Stands P (Ok x) h a stands = tt
at_err Stands P (Err e) h a stands = h a stands

pub if_err : {T E : Type 0} {P Q : E → Type 0} (r : Result T E) → IfErr r P → ((e : E) → P e → Q e) → IfErr r Q
if_err (Ok x) h f = tt
if_err (Err e) h f = f e h

pub both_ok : {T E : Type 0} {P Q R : T → Type 0} (r : Result T E) → IfOk r P → IfOk r Q → ((x : T) → P x → Q x → R x) → IfOk r R
both_ok (Ok x) p q f = f x p q
both_ok (Err e) p q f = tt

pub and_ok : {T E : Type 0} (P Q : T → Type 0) (r : Result T E) → IfOk r P → IfOk r Q → IfOk r (λ x. P x × Q x)
and_ok P Q (Ok x) p q = (p, q)
and_ok P Q (Err e) p q = tt

pub both_err : {T E : Type 0} {P Q R : E → Type 0} (r : Result T E) → IfErr r P → IfErr r Q → ((e : E) → P e → Q e → R e) → IfErr r R
both_err (Ok x) p q f = tt
both_err (Err e) p q f = f e p q

pub on_ok : {T E : Type 0} (P : Type 0) (r : Result T E) → OnOk r P → IfOk r (λ _. P)
on_ok P (Ok x) h = h
on_ok P (Err e) h = tt

pub on_then : {T E : Type 0} (P Q : Type 0) (r : Result T E) → OnOk r P → (P → Q) → OnOk r Q
on_then P Q (Ok x) h f = f h
on_then P Q (Err e) h f = tt
