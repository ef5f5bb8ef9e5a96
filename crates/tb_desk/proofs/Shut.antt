-- A store that is not reported shut.
use Rattle.std.proofs.Common.{◌≡◌, ◌⊎◌, inl, inr, Bool, true, false, Result, Ok, Err, IfErr, IsTrue, refl, ap}
use Rattle.sqlite.specs.Held.{Held, state}
use Rattle.sqlite.specs.State.{HasCleanDisk}
use Rattle.sqlite.specs.Store.{Ghosts}
use Rattle.tb_core.specs.declared.refusals.Fault.{Fault}
use Rattle.tb_core.specs.declared.refusals.Fault.TheVariants.{Memory}
use Rattle.tb_store.specs.Handing.{TellsOpen, TellsWant, WantsToTell}

-- it is open, or the question ran out of memory
pub still_open : {S : Type 0} (g : Ghosts S) (old new : Held S) (told : Result Bool Fault) → TellsOpen g new told → TellsWant g old new told
    → IfErr told (λ e. e ≡ Memory) → HasCleanDisk (state g new) → (told ≡ Ok false → ⊥) → IsTrue (state g new).is_open ⊎ WantsToTell (state g old) (state g new)
still_open g old new (Ok true) opens want known clean never = inl (opens clean refl)
still_open g old new (Ok false) opens want known clean never = absurd (never refl)
still_open g old new (Err e) opens want known clean never = inr (want clean (ap (λ f. Err f) known))
