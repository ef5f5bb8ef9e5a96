-- Inner: no contract beyond this crate cites a definition of this module.
-- What a walk over the sentences of a desk answers, where its early end is told as a fault.
use Rattle.std.specs.Prelude.{◌≡◌, ◌≢◌, ℕ, List, Option, Result, Ok, Err}
use Rattle.tb_core.specs.declared.refusals.Fault.{Fault}
use Rattle.tb_core.specs.declared.refusals.Fault.TheVariants.{NotADesk, Output, Refused}
use Rattle.tb_core.specs.declared.refusals.Refusal.{Refusal}
use Rattle.tb_core.specs.Machine.{Sentence}
use Rattle.tb_refine.specs.Faults.{IsNoDevice}
use Rattle.tb_search.specs.Released.{IsCutShort}
use Rattle.tb_search.specs.Searched.{IsSearchBrokenOff, Occurrence}
use Rattle.tb_search.specs.Visited.{IsFault, IsStopFault, IsStopWant}
use Rattle.tb_search.specs.declared.stopped.Stopped.{Stopped}
use Rattle.tb_search.specs.declared.stopped.Stopped.TheVariants as stops
use Rattle.tb_store.specs.Exports.{IsExportBrokenOff}
use Rattle.tb_store.specs.Found.{IsPartFound}

-- what a fault says of the early end that it tells
pub record TellsEnd (stopped : Stopped) (fault : Fault) : Type 0 where
  -- the sink has of an export, or of an answer, what it has after such a fault
  pub left : (old new : Option (List ℕ)) (xs : List Sentence) → IsCutShort stopped old new xs
      → IsExportBrokenOff fault old new xs
  pub found : (old new : Option (List ℕ)) (n : ℕ) (xs : List Occurrence) → IsSearchBrokenOff stopped old new n xs
      → IsPartFound fault old new n xs
  pub never_refuses : (r : Refusal) → fault ≢ Refused r
  pub output : fault ≡ Output → stopped ≡ stops.Output
  -- it calls no desk none, and blames the device only where the store failed
  pub fails : IsFault stopped → IsStopFault stopped → fault ≢ NotADesk
  pub cause : IsStopWant stopped → IsNoDevice fault

-- the same answer, or such a fault
abbrev pub ReportsWalk : {X : Type 0} → Result X Stopped → Result X Fault → Type 0
ReportsWalk (Ok x) result = result ≡ Ok x
ReportsWalk (Err stopped) result = (fault : Fault) × (result ≡ Err fault) × TellsEnd stopped fault
