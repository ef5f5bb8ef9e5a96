-- A number tells its state, or its kind of move.
use Rattle.std.proofs.Common.{◌≡◌, ℕ, ◌-◌, ◌≤◌, List, [], ◌∷◌, get_or, true, Option, Some, None, refl, sym, ◌∙◌, ap, arith}
use Rattle.std.proofs.lemmas.Bool.{eqb-true}
use Rattle.tb_core.specs.declared.kinds.State.{State}
use Rattle.tb_core.specs.declared.kinds.State.TheVariants.{Opened, Assigned, Submitted, Adjudicated, Released, Withdrawn}
use Rattle.tb_core.specs.declared.kinds.Event.{Event}
use Rattle.tb_core.specs.declared.kinds.Event.TheVariants.{Assign, Unassign, Submit, SendBack, Adjudicate, Release, Withdraw, Reopen}
use Rattle.tb_core.specs.declared.kinds.Kind.{Kind}
use Rattle.tb_core.specs.declared.kinds.Kind.TheVariants.{Import, Step, Correct, Pull, Restore}
use Rattle.tb_core.specs.Events.{state_place, is_state}
use Rattle.tb_refine.specs.Numbers.{state_number, from_number, event_number, kind_number}
use Rattle.tb_refine.specs.DeskTables.{six_states}

-- ---- states

-- the state with a number
abbrev state_back : ℕ → State
state_back n = get_or six_states (n - 1) Opened

back : (st : State) → state_back (state_number st) ≡ st
back Opened = refl
back Assigned = refl
back Submitted = refl
back Adjudicated = refl
back Released = refl
back Withdrawn = refl

pub one_state : (a b : State) → state_number a ≡ state_number b → a ≡ b
one_state a b e = sym (back a) ∙ ap state_back e ∙ back b

placed : (st : State) → get_or six_states (state_place st) Opened ≡ st
placed Opened = refl
placed Assigned = refl
placed Submitted = refl
placed Adjudicated = refl
placed Released = refl
placed Withdrawn = refl

pub same_state : (a b : State) → is_state a b ≡ true → a ≡ b
same_state a b e = sym (placed a) ∙ ap (λ i. get_or six_states i Opened) (eqb-true (state_place a) (state_place b) e) ∙ placed b

pub state_within : (st : State) → (1 ≤ state_number st) × (state_number st ≤ 6)
state_within Opened = (omega arith, omega arith)
state_within Assigned = (omega arith, omega arith)
state_within Submitted = (omega arith, omega arith)
state_within Adjudicated = (omega arith, omega arith)
state_within Released = (omega arith, omega arith)
state_within Withdrawn = (omega arith, omega arith)

-- ---- the state before a move

pub one_before : (a b : Option State) → from_number a ≡ from_number b → a ≡ b
one_before None None e = refl
one_before None (Some b) e = let w = state_within b in absurd (omega (arith, e, w.0))
one_before (Some a) None e = let w = state_within a in absurd (omega (arith, e, w.0))
one_before (Some a) (Some b) e = ap Some (one_state a b e)

pub before_within : (from : Option State) → from_number from ≤ 6
before_within None = omega arith
before_within (Some st) = (state_within st).1

-- ---- kinds

abbrev twelve : List Kind
twelve = Import ∷ Step Assign ∷ Step Unassign ∷ Step Submit ∷ Step SendBack ∷ Step Adjudicate ∷ Step Release ∷ Step Withdraw ∷ Step Reopen ∷ Correct ∷ Pull ∷ Restore ∷ []

abbrev kind_back : ℕ → Kind
kind_back n = get_or twelve (n - 1) Import

step_back : (event : Event) → kind_back (event_number event) ≡ Step event
step_back Assign = refl
step_back Unassign = refl
step_back Submit = refl
step_back SendBack = refl
step_back Adjudicate = refl
step_back Release = refl
step_back Withdraw = refl
step_back Reopen = refl

again : (kind : Kind) → kind_back (kind_number kind) ≡ kind
again Import = refl
again (Step event) = step_back event
again Correct = refl
again Pull = refl
again Restore = refl

pub one_kind : (a b : Kind) → kind_number a ≡ kind_number b → a ≡ b
one_kind a b e = sym (again a) ∙ ap kind_back e ∙ again b

event_within : (event : Event) → (1 ≤ event_number event) × (event_number event ≤ 12)
event_within Assign = (omega arith, omega arith)
event_within Unassign = (omega arith, omega arith)
event_within Submit = (omega arith, omega arith)
event_within SendBack = (omega arith, omega arith)
event_within Adjudicate = (omega arith, omega arith)
event_within Release = (omega arith, omega arith)
event_within Withdraw = (omega arith, omega arith)
event_within Reopen = (omega arith, omega arith)

pub kind_within : (kind : Kind) → (1 ≤ kind_number kind) × (kind_number kind ≤ 12)
kind_within Import = (omega arith, omega arith)
kind_within (Step event) = event_within event
kind_within Correct = (omega arith, omega arith)
kind_within Pull = (omega arith, omega arith)
kind_within Restore = (omega arith, omega arith)
