-- What an export refuses, and what a sink has of it.
use Rattle.std.specs.Prelude.{◌≡◌, ◌⊎◌, ℕ, List, take, true, Option, Some, ⊤}
use Rattle.std.specs.Io.KnownBytes.{Appends}
use Rattle.tb_conllu.specs.Sunk.{AppendsPart}
use Rattle.tb_core.specs.declared.refusals.Fault.{Fault}
use Rattle.tb_core.specs.declared.refusals.Fault.TheVariants.{Refused, Output}
use Rattle.tb_core.specs.Names.{is_name}
use Rattle.tb_core.specs.Machine.{Machine, Sentence}
use Rattle.tb_core.specs.Tests.{IsBadName, IsNoBatch}
use Rattle.tb_search.specs.Released.{in_batch, current_text}
use Rattle.tb_search.specs.declared.stopped.Stopped.{Stopped}
use Rattle.tb_search.specs.declared.stopped.Stopped.TheVariants as stops
use Rattle.tb_refine.specs.Faults.{fault_of_read}
use Rattle.tb_refine.specs.Finding.{HasNumber}

-- What a sink has when an export ends early. After a refusal it has nothing new, and where it failed itself a first
-- part. After any other fault it has whole sentences.
abbrev pub IsExportBrokenOff : Fault → Option (List ℕ) → Option (List ℕ) → List Sentence → Type 0
IsExportBrokenOff (Refused r) old new xs = new ≡ old
IsExportBrokenOff Output old new xs = AppendsPart old new (current_text xs)
IsExportBrokenOff _ old new xs = (k : ℕ) × Appends old new (current_text (take k xs))

-- nothing new, or such a part of the sentences of the batch with this name
abbrev pub IsPartOfBatch : Machine → List ℕ → Fault → Option (List ℕ) → Option (List ℕ) → Type 0
IsPartOfBatch s name e old new = (new ≡ old) ⊎ ((n : ℕ) × HasNumber s name (Some n)
    × IsExportBrokenOff e old new (in_batch s n))

-- a refusal is the first that the state gives; any fault of the store or of the sink is possible
abbrev pub RefusesBatch : Machine → List ℕ → Fault → Type 0
RefusesBatch s name (Refused r) = IsBadName (is_name name) r ⊎ ((is_name name ≡ true) × IsNoBatch s name r)
RefusesBatch s name _ = ⊤

-- why a walk over the sentences ended early, as a fault
abbrev pub fault_of_stop : Stopped → Fault
fault_of_stop (stops.Read error) = fault_of_read error
fault_of_stop stops.Output = Output
