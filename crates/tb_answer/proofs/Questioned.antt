-- A question of a desk only reads it, and so does what asks nothing of it.
use Rattle.std.proofs.Common.{Result, arith, inl, refl}
use Rattle.sqlite.specs.Store.{Ghosts}
use Rattle.sqlite.specs.Held.{Held, state}
use Rattle.sqlite.specs.State.{Survives}
use Rattle.sqlite.specs.Tree.{Trees}
use Rattle.tb_core.specs.declared.refusals.Fault.{Fault}
use Rattle.tb_store.specs.Kept.{Kept}
use Rattle.tb_store.specs.Questions.{IsQuestion}
use Rattle.tb_answer.specs.OnlyRead.{IsOnlyRead}

pub only_asked : {S X : Type 0} {g : Ghosts S} {old new : Kept S} {read : Result X Fault} → IsQuestion g old new read → IsOnlyRead g old new
only_asked asked = record {
  keeps_state = asked.keeps_state;
  crash = ((asked.commits_nothing.clean, asked.commits_nothing.counts), asked.crash, asked.doubt);
  limits = asked.limits;
}

-- nothing is done
pub survives_none : {S : Type 0} (g : Ghosts S) (c : Held S) (P : Trees → Type 0) → Survives (state g c) (state g c) P
survives_none g c P = record { clean = omega arith; shield = λ h. h; counts = omega arith; limit = refl; closes = λ clean h. inl h; crash = λ clean db h. inl h }

pub unread : {S : Type 0} (g : Ghosts S) (d : Kept S) → IsOnlyRead g d d
unread g d = record {
  keeps_state = λ clean opened s stands. stands;
  crash = ((omega arith, omega arith), λ s stands. survives_none g d.conn (λ _. ⊥), refl);
  limits = refl;
}
