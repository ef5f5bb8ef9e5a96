-- What `deskview check` and the check of the page list: the first faults of a file, in words.
use Rattle.std.specs.Prelude.{◌≡◌, ℕ, List, [], ◌∷◌, length, map, take, nat_lt, Bool}
use Rattle.tb_check.specs.Faults.{AreFaults}
use Rattle.tb_check.specs.declared.fault.Fault.{Fault}
use Rattle.tb_report.specs.FaultList.{FaultText, faults_csv}
use Rattle.tb_words.specs.declared.faults.FirstFaults.{FirstFaults}

-- the exit status: 1 where a file has faults
abbrev pub exit_with : List Fault → ℕ
exit_with [] = 0
exit_with (fault ∷ more) = 1

-- whether the file has more faults than these
abbrev pub are_more : (most : ℕ) → List Fault → Bool
are_more most all = nat_lt most (length all)

-- the first faults of a file, at most so many
abbrev pub AreFirstFaults : List ℕ → (most : ℕ) → FirstFaults → Type 0
AreFirstFaults file most first = (all : List Fault) × AreFaults file all × (first.faults.items ≡ take most all)
    × (first.more ≡ are_more most all) × (first.status ≡ exit_with all)

-- each of the first faults of a file is listed, in order, and whether there are more
abbrev pub IsFaultList : List ℕ → (most : ℕ) → (text : List ℕ) → (status : ℕ) → Type 0
IsFaultList file most text status = (all : List Fault) × AreFaults file all × ((told : List FaultText)
    × (map (λ x. x.fault) told ≡ take most all) × (text ≡ faults_csv (are_more most all) told)) × (status ≡ exit_with all)
