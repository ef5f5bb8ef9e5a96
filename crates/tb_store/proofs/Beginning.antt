-- The desk without a batch stands for the empty machine.
use Rattle.std.proofs.Common.{◌≡◌, ◌≢◌, ◌⊎◌, inl, inr, [], ◌∷◌, false, refl, sym, lit≤}
use Rattle.sqlite.specs.Store.{Ghosts}
use Rattle.sqlite.specs.Held.{Held, state}
use Rattle.sqlite.specs.Steps.{IsEmpty}
use Rattle.tb_core.specs.declared.refusals.Fault.{Fault}
use Rattle.tb_core.specs.declared.refusals.Fault.TheVariants.{Device, Memory, NotADesk}
use Rattle.tb_core.specs.declared.kinds.State.{State as DeskState}
use Rattle.tb_core.specs.declared.kinds.State.TheVariants.{Opened, Assigned, Submitted, Adjudicated, Released, Withdrawn}
use Rattle.tb_core.specs.declared.limits.Limits.{Limits}
use Rattle.tb_core.specs.Machine.{empty_machine}
use Rattle.tb_core.specs.Totals.{at_state}
use Rattle.tb_core.specs.Reaching.{begun}
use Rattle.tb_tables.specs.Changes.{Holds}
use Rattle.tb_tables.specs.Making.{IsBlank, empty_tables}
use Rattle.tb_store.specs.Kept.{Kept}
use Rattle.tb_store.specs.Represents.{Represents, unlimited, no_totals}

no_sums : (st : DeskState) → at_state (0 ∷ 0 ∷ 0 ∷ 0 ∷ 0 ∷ 0 ∷ []) st ≡ 0
no_sums Opened = refl
no_sums Assigned = refl
no_sums Submitted = refl
no_sums Adjudicated = refl
no_sums Released = refl
no_sums Withdrawn = refl

module _ {S : Type 0} (g : Ghosts S) where
  pub still_blank : (c d : Held S) → d ≡ unlimited c → IsBlank g c → IsBlank g d
  still_blank c d is h = rw is (record { autocommit = h.autocommit; is_open = h.is_open; schema = h.schema; settled = h.settled })

  pub stands_empty : (d : Kept S) (conn : Held S) (l : Limits) → d ≡ record { conn = conn; limits = l; batches = 0; sentences = 0; moves = 0; totals = no_totals; in_doubt = false } → Holds g conn empty_tables → Represents g d empty_machine
  stands_empty d conn l is h = rw is (record {
    desk = record { reachable = record { reached = begun; sentences = lit≤ tt; moves = lit≤ tt }; holds = h };
    batches = refl;
    sentences = refl;
    moves = refl;
    totals = record { sentences = no_sums; words = no_sums };
  })

  pub empty_is_blank : (c : Held S) → IsEmpty (state g c) → IsBlank g c
  empty_is_blank c h = record { autocommit = h.0.autocommit; is_open = h.0.is_open; schema = h.2; settled = sym h.0.clean }

-- of three faults, the first and the third are not the one
pub memory_left : (fault : Fault) → fault ≢ NotADesk → fault ≢ Device → (fault ≡ NotADesk) ⊎ ((fault ≡ Memory) ⊎ (fault ≡ Device)) → fault ≡ Memory
memory_left fault desk device (inl h) = absurd (desk h)
memory_left fault desk device (inr (inl h)) = h
memory_left fault desk device (inr (inr h)) = absurd (device h)
