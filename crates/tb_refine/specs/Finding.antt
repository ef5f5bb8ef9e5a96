-- What is read from a desk before a command.
use Rattle.std.specs.Prelude.{◌≡◌, ℕ, ◌-◌, ◌<◌, List, Option, None, Some, slice_get}
use Rattle.tb_core.specs.Names.{Lacks}
use Rattle.tb_core.specs.Machine.{Machine, Batch}
use Rattle.tb_core.specs.Acts.{names_of}

-- the number of the batch with this name, or none where no batch has it
abbrev pub HasNumber : Machine → List ℕ → Option ℕ → Type 0
HasNumber s name None = Lacks (names_of s.batches) name
HasNumber s name (Some n) = (b : Batch) × (0 < n) × (slice_get s.batches (n - 1) ≡ Some b) × (b.name ≡ name)
