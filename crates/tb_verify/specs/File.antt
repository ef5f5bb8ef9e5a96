-- Between crates: no contract of a front door cites a definition of this module.
-- The rows of a whole file, and the sentences that have them.
use Rattle.std.specs.Prelude.{◌≡◌, ℕ, List, [], ◌∷◌, map, Bool, false, cond, nat_eq, drop}
use Rattle.std.specs.List.{AllByRecursion}
use Rattle.tb_core.specs.Keeping.{IsFine}
use Rattle.tb_core.specs.Machine as machine
use Rattle.tb_core.specs.Rows.{revisions_from, pulled_from}
use Rattle.tb_refine.specs.DeskTables.{sentence_record, revision_record}
use Rattle.tb_tables.specs.Records.{Sentence, Revision}

-- The sentences, numbered from n on, have these rows, and the pulled ones have these numbers. Each is fine by itself.
pub record AreReadBack (n : ℕ) (reported : List Sentence) (flags : List ℕ) (rows : List Revision) (xs : List machine.Sentence) : Type 0 where
  pub sentences : map sentence_record xs ≡ reported
  pub revised : map revision_record (revisions_from n xs) ≡ rows
  pub pulled : pulled_from n xs ≡ flags
  pub fine : AllByRecursion IsFine xs

-- whether the next pulled sentence is this one
abbrev pub is_next : ℕ → List ℕ → Bool
is_next n [] = false
is_next n (m ∷ ms) = nat_eq m n

-- the numbers of the pulled sentences after it
abbrev pub after_next : ℕ → List ℕ → List ℕ
after_next n ms = cond (is_next n ms) (drop 1 ms) ms
