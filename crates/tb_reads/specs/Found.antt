-- Between crates: no contract of a front door cites a definition of this module.
-- Which record a read by name or number finds.
use Rattle.std.specs.Prelude.{◌≡◌, ◌≢◌, ℕ, suc, ◌-◌, ◌<◌, ◌&&◌, true, Bool, cond, nat_eq, pos, List, [], ◌∷◌, Option}
use Rattle.std.specs.Prelude.{Some, None, slice_get, Contains}
use Rattle.std.specs.List.{AllByRecursion}
use Rattle.sqlite.specs.declared.types.Value.{Value}
use Rattle.sqlite.specs.declared.types.Value.TheVariants.{Int, Text}
use Rattle.sqlite.specs.Order.{Row, column}
use Rattle.sqlite.specs.Ops.{binary, is_true}
use Rattle.sqlite_sql.specs.declared.ops.BinaryOp.TheVariants.{Compare}
use Rattle.sqlite_sql.specs.declared.ops.CompareOp.TheVariants.{Eq}
use Rattle.sqlite.specs.Collation.TheVariants.{Binary}
use Rattle.tb_tables.specs.Records.{Sentence, Revision}
use Rattle.tb_reads.specs.declared.work.BatchSentence.{BatchSentence}

-- The number of a record that has this name, or none where no record has it. Records are numbered from 1.
abbrev pub IsNumberOf : {X : Type 0} → (X → List ℕ) → List ℕ → List X → Option ℕ → Type 0
IsNumberOf {X} name_of name xs None = AllByRecursion (λ x. name_of x ≢ name) xs
IsNumberOf {X} name_of name xs (Some n) = (x : X) × (0 < n) × (slice_get xs (n - 1) ≡ Some x)
    × (name_of x ≡ name)

-- a revision of this sentence with this number, or none where it does not exist
abbrev pub IsRevisionAt : ℕ → ℕ → List Revision → Option Revision → Type 0
IsRevisionAt sent rev xs None = AllByRecursion (λ (r : Revision). ¬ ((r.sent ≡ sent) × (r.rev ≡ rev))) xs
IsRevisionAt sent rev xs (Some r) = Contains xs r × (r.sent ≡ sent) × (r.rev ≡ rev)

-- the sentences of a batch, in the order of their numbers, where the first of the list has this number
abbrev pub work_of : ℕ → ℕ → List Sentence → List BatchSentence
work_of batch n [] = []
work_of batch n (x ∷ xs) = cond (nat_eq x.batch batch) (record {
  number = n;
  rev = x.rev;
  words = x.words;
} ∷ work_of batch (suc n) xs) (work_of batch (suc n) xs)

abbrev pub work_shown : BatchSentence → Row
work_shown w = Int (pos w.number) ∷ Int (pos w.rev) ∷ Int (pos w.words) ∷ []

-- the first of the rows shows the record that is found; where none is found there is no row
abbrev pub ShowsFirst : {T : Type 0} → (T → Row) → List Row → Option T → Type 0
ShowsFirst shown rows None = rows ≡ []
ShowsFirst shown rows (Some x) = slice_get rows 0 ≡ Some (shown x)

-- one of the rows shows no such record
abbrev pub HasUnreadable : {X : Type 0} → (X → Type 0) → (X → Row) → List Row → Type 0
HasUnreadable {X} Is shown rows = (row : Row) × Contains rows row × ((x : X) → Is x → row ≢ shown x)

-- ---- the tests of WHERE on what a row shows

abbrev pub equals : Value → Value → Bool
equals a b = is_true (binary (Compare Eq Binary) a b)

abbrev pub has_number : ℕ → Row → Bool
has_number n r = equals (column r 0) (Int (pos n)) && true

abbrev pub has_name : List ℕ → Row → Bool
has_name name r = equals (column r 1) (Text name) && true

abbrev pub has_pair : ℕ → ℕ → Row → Bool
has_pair a b r = equals (column r 0) (Int (pos a)) && (equals (column r 1) (Int (pos b)) && true)

abbrev pub has_batch : ℕ → Row → Bool
has_batch n r = equals (column r 2) (Int (pos n)) && true

-- ---- the selected columns, of what all columns show

abbrev pub key_alone : Row → Row
key_alone r = column r 0 ∷ []

-- number, rev and words of a sentence
abbrev pub work_columns : Row → Row
work_columns r = column r 0 ∷ column r 3 ∷ column r 4 ∷ []
