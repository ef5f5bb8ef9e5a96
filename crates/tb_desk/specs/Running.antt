-- How a command line is answered on an open desk, and what is read of the desk after the answer, to explain it.
use Rattle.std.specs.Prelude.{◌≡◌, ◌⊎◌, ℕ, List, Bool, Option, Result, Ok, Err, IsTrue}
use Rattle.sqlite.specs.Store.{Ghosts}
use Rattle.sqlite.specs.Held.{state}
use Rattle.sqlite.specs.State.{Survives}
use Rattle.tb_http.specs.declared.replies.Reply.{Reply}
use Rattle.tb_cli.specs.Lines.{Said}
use Rattle.tb_store.specs.Calls.{InState}
use Rattle.tb_store.specs.Kept.{Kept}
use Rattle.tb_store.specs.Represents.{Represents}
use Rattle.tb_answer.specs.Calls.{ForgetsNothing}
use Rattle.tb_answer.specs.Ran.{IsRanAs, IsLineSafe}
use Rattle.tb_answer.specs.declared.ending.Ending.TheVariants as ending
use Rattle.tb_answer.specs.declared.written.Ran.{Ran}
use Rattle.tb_answer.specs.declared.written.Written.{Written}
use Rattle.tb_answer.specs.declared.written.Written.TheVariants as written
use Rattle.tb_host.specs.declared.causes.Cause.{Cause}
use Rattle.tb_desk.specs.Told.{HasNoWords, WithTold}

-- What a read leaves of a desk: the same state while the store is open, and for a crash what it could leave before. A
-- disk that was doubted stays so.
abbrev pub KeepsDesk : {S : Type 0} → Ghosts S → (old new : Kept S) → Type 0
KeepsDesk g old new = ForgetsNothing g old new × InState g old new (λ s.
    Survives (state g old.conn) (state g new.conn) (λ _. ⊥)
    × (IsTrue (state g new.conn).is_open → Represents g new s))

-- the body that came, or the reply in its place
abbrev pub taken_of : {V E : Type 0} → (V → List ℕ) → Result V E → Result (List ℕ) E
taken_of items (Ok v) = Ok (items v)
taken_of items (Err e) = Err e

module _ {Reason S : Type 0} (g : Ghosts S) (held holds : Option (List ℕ)) (is_refusal : Reason → Type 0)
    (status : ℕ) (is_wanted : Bool) (is_told : Option Cause → Type 0) where
  -- A line with this body is answered as the machine answers in the state that the desk represents, and a crash leaves
  -- what it may leave of the line. After the answer the desk is only read. No words are told that are not wanted.
  pub record IsRunOn (old new : Kept S) (said : Said) (taken : Result (List ℕ) Reply) : Type 0 where
    pub answered : Kept S
    pub written : Written
    pub ran : InState g old answered
        (λ s. IsRanAs g old.limits s said taken old answered held holds is_refusal written status)
    pub safe : IsLineSafe g said taken old answered
    pub explained : KeepsDesk g answered new
    pub told : WithTold is_told (HasNoWords is_wanted)

-- The answer is whole, and has no sentence, no row or no hit.
abbrev pub FoundNothing : Ran → Type 0
FoundNothing ran = (ran.status ≡ 0) × ((ran.written ≡ written.Text 0) ⊎ (ran.written ≡ written.Table 0)
    ⊎ (ran.written ≡ written.Found (ending.Whole 0)))
