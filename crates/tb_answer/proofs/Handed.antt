-- What was asked of a desk, and what was then made of its answer. A reply is handed on.
use Rattle.std.proofs.Common.{◌≡◌, ◌∙◌, arith, sym, subst, Result, Ok, Err, IfOk, IfErr, OnOk}
use Rattle.sqlite.specs.Store.{Ghosts}
use Rattle.sqlite.specs.Held.{state}
use Rattle.sqlite.specs.State.{HasCleanDisk}
use Rattle.tb_core.specs.Machine.{Machine}
use Rattle.tb_store.specs.Calls.{KeepsState}
use Rattle.tb_store.specs.Kept.{Kept}
use Rattle.tb_store.specs.Represents.{Represents}
use Rattle.tb_tables.specs.Leaving.{CommitsNothing}
use Rattle.tb_answer.specs.Calls.{ReadsOnly}
use Rattle.tb_answer.specs.OnlyRead.{IsOnlyRead}
use Rattle.tb_answer.proofs.Failing.{if_ok, if_err}
use Rattle.tb_answer.proofs.SearchTexts.{read_then}

pub then_ok : {X V E : Type 0} {P : X → Type 0} {R : X → V → Type 0} {Q : V → Type 0} (asked : Result X E) (made : Result V E) → IfErr asked (λ e. made ≡ Err e) → IfOk asked P
    → IfOk asked (λ x. IfOk made (R x)) → ((x : X) (v : V) → P x → R x v → Q v) → IfOk made Q
then_ok (Ok x) made none p r f = if_ok made r (λ v is. f x v p is)
then_ok {Q = Q} (Err e) made none p r f = subst (λ m. IfOk m Q) (sym none) tt

pub then_err : {X V E : Type 0} {P : X → Type 0} {R : X → E → Type 0} {Q : E → Type 0} (asked : Result X E) (made : Result V E) → IfErr asked (λ e. made ≡ Err e) → IfErr asked Q → IfOk asked P
    → IfOk asked (λ x. IfErr made (R x)) → ((x : X) (e : E) → P x → R x e → Q e) → IfErr made Q
then_err (Ok x) made none q p r f = if_err made r (λ e is. f x e p is)
then_err {Q = Q} (Err e) made none q p r f = subst (λ m. IfErr m Q) (sym none) q

-- a desk that was asked, and then asked again where its answer was no reply
module _ {S X E : Type 0} (g : Ghosts S) (a b c : Kept S) where
  pub keeps_then : (asked : Result X E) → IfErr asked (λ _. c ≡ b) → (HasCleanDisk (state g b.conn) → OnOk asked ((s : Machine) → Represents g a s → Represents g b s)) → KeepsState g a b → KeepsState g b c
      → (HasCleanDisk (state g c.conn) → HasCleanDisk (state g b.conn)) → KeepsState g a c
  keeps_then (Ok x) same stays one two mid = λ clean opened s stands. two clean opened s (stays (mid clean) s stands)
  keeps_then (Err e) same stays one two mid = subst (λ d. KeepsState g a d) (sym same) one

  pub reads_then : (asked : Result X E) → IfErr asked (λ _. c ≡ b) → (HasCleanDisk (state g b.conn) → OnOk asked ((s : Machine) → Represents g a s → Represents g b s)) → ReadsOnly g a b → ReadsOnly g b c
      → CommitsNothing g a.conn b.conn → CommitsNothing g b.conn c.conn → ReadsOnly g a c
  reads_then (Ok x) same stays one two first second = read_then g a b first c stays second (two.2 ∙ one.2)
  reads_then (Err e) same stays one two first second = subst (λ d. ReadsOnly g a d) (sym same) one

  pub only_then : (asked : Result X E) → IfErr asked (λ _. c ≡ b) → (HasCleanDisk (state g b.conn) → OnOk asked ((s : Machine) → Represents g a s → Represents g b s)) → IsOnlyRead g a b → CommitsNothing g a.conn b.conn
      → IsOnlyRead g b c → CommitsNothing g b.conn c.conn → IsOnlyRead g a c
  only_then asked same stays one first two second = record {
    keeps_state = keeps_then asked same stays one.keeps_state two.keeps_state (λ clean. omega (arith, clean, second.clean));
    crash = reads_then asked same stays one.crash two.crash first second;
    limits = two.limits ∙ one.limits;
  }
