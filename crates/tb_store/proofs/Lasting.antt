-- What a crash leaves of a desk that stands for a state.
use Rattle.std.proofs.Common.{◌≡◌, refl, sym, ap, subst, ◌∙◌, IsTrue, Err}
use Rattle.sqlite.specs.Store.{Ghosts}
use Rattle.sqlite.specs.Effect.{Database}
use Rattle.sqlite.specs.Held.{state}
use Rattle.sqlite.specs.Tree.{Trees}
use Rattle.tb_core.specs.declared.refusals.Refusal.{Refusal}
use Rattle.tb_core.specs.declared.refusals.Fault.{Fault}
use Rattle.tb_core.specs.declared.refusals.Fault.TheVariants.{Refused, Memory, Device, NotADesk, Output}
use Rattle.tb_core.specs.Machine.{Machine}
use Rattle.tb_core.specs.Commands.{Command, Reply, refused}
use Rattle.tb_core.specs.Steps.{Steps}
use Rattle.tb_tables.specs.Records.{AreStored}
use Rattle.tb_refine.specs.DeskTables.{tables_of}
use Rattle.tb_store.specs.Kept.{Kept}
use Rattle.tb_store.specs.Represents.{Represents}
use Rattle.tb_store.specs.Calls.{CommandEnds, IsDurable, LeavesOnly}

module _ {S : Type 0} (g : Ghosts S) (settled : (it : S) (db : Trees) → IsTrue (g.view it).is_open → g.recovers it db → db ≡ (g.view it).committed) where
  pub leaves_only : (d : Kept S) (s : Machine) → Represents g d s → LeavesOnly g d s
  leaves_only d s stands db may =
      let h = stands.desk.holds in
      subst (AreStored (tables_of s)) (sym (settled d.conn.store db h.is_open may ∙ ap (λ (b : Database). b.trees) h.settled)) h.stands

  pub durable : (d : Kept S) (s : Machine) → Represents g d s → IsDurable g d s
  durable d s stands = (stands, leaves_only d s stands)

  module _ (old new : Kept S) (s : Machine) where
    -- a command that ends in this error
    pub fault_ends : {X : Type 0} (command : Command) (reply : X → Reply) (fault : Fault)
        → ((why : Refusal) → fault ≡ Refused why → Steps old.limits s command (refused why) s × Represents g new s) → (fault ≡ Memory → IsTrue (state g new.conn).is_open)
        → (IsTrue (state g new.conn).is_open → Represents g new s) → (fault ≡ NotADesk → ⊥) → (fault ≡ Output → ⊥) → CommandEnds g old new command reply s (Err fault)
    fault_ends command reply (Refused why) reported sure kept knows quiet = let it = reported why refl in (it.0, durable new s it.1)
    fault_ends command reply Memory reported sure kept knows quiet = durable new s (kept (sure refl))
    fault_ends command reply Device reported sure kept knows quiet = λ opened. durable new s (kept opened)
    fault_ends command reply NotADesk reported sure kept knows quiet = absurd (knows refl)
    fault_ends command reply Output reported sure kept knows quiet = absurd (quiet refl)
