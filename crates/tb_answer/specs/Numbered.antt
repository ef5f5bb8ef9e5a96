-- The list of the sentences of a batch that is named by its number.
use Rattle.std.specs.Prelude.{◌≡◌, ◌⊎◌, ℕ, List, [], ◌∷◌, Option, Some, None, Err, if◌then◌else◌, nat_eq}
use Rattle.tb_core.specs.declared.refusals.Refusal.{Refusal}
use Rattle.tb_core.specs.declared.refusals.Refusal.TheVariants.{NoSuchBatch}
use Rattle.tb_core.specs.Machine.{Machine}
use Rattle.tb_lists.specs.Batches.{BatchText, batch_lines}
use Rattle.tb_answer.specs.Exported.{HasExport}
use Rattle.tb_answer.specs.Viewed.{IsSentencesText}

-- the name of the batch with this number, among these
abbrev pub name_in : ℕ → List BatchText → Option (List ℕ)
name_in n [] = None
name_in n (b ∷ bs) = if nat_eq b.no n then Some b.name else name_in n bs

-- the name of the batch with this number, from 1
abbrev pub name_of : Machine → ℕ → Option (List ℕ)
name_of s n = name_in n (batch_lines s)

-- the text of the list for the batch with this number
abbrev pub IsNumberedText : Machine → ℕ → List ℕ → Type 0
IsNumberedText s n text = (name : List ℕ) × (name_of s n ≡ Some name) × IsSentencesText s name text

-- No batch has the number. Or the list for the name of the batch is refused so.
abbrev pub RefusesNumber : Machine → ℕ → Refusal → Type 0
RefusesNumber s n r = ((name_of s n ≡ None) × (r ≡ NoSuchBatch))
    ⊎ ((name : List ℕ) × (name_of s n ≡ Some name) × HasExport s (Some name) (Err r))
