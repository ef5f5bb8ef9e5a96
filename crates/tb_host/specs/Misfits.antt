-- Names of tables, in the words for what is wrong with their rows and in the queries that look for it. Which sentence
-- has rows that belong to none.
use Rattle.std.specs.Prelude.{◌≡◌, ◌≢◌, ◌<◌, ◌+◌, ◌++◌, decimal, ℕ, min, List, [], ◌∷◌, codes, length, get_or, pos, ⊤, Option, None, Some}
use Rattle.std.specs.Prelude.{Result, Ok, Err}
use Rattle.sqlite.specs.Order.{Row, column}
use Rattle.sqlite.specs.declared.types.Value.TheVariants.{Int}
use Rattle.tb_reads.specs.declared.error.ReadError.{ReadError}
use Rattle.tb_reads.specs.declared.error.ReadError.TheVariants.{Form, Store}
use Rattle.tb_tables.specs.declared.rows.RevisionRow.{RevisionRow}
use Rattle.tb_host.specs.declared.misfit.Misfit.{Misfit}
use Rattle.tb_host.specs.declared.misfit.Misfit.TheVariants as wrong
use Rattle.tb_host.specs.declared.misfit.Stop.{Stop}
use Rattle.tb_host.specs.declared.misfit.Stop.TheVariants.{Found, Failed}
use Rattle.tb_host.specs.declared.misfit.Table.{Table}
use Rattle.tb_host.specs.declared.misfit.Table.TheVariants as table

abbrev pub table_name : Table → List ℕ
table_name table.Batches = codes "batches"
table_name table.Sentences = codes "sentences"
table_name table.Moves = codes "moves"
table_name table.Totals = codes "totals"

-- the query for the numbers of a table's rows
abbrev pub query_of_numbers : Table → List ℕ
query_of_numbers table.Batches = codes "SELECT no FROM batches ORDER BY no"
query_of_numbers table.Sentences = codes "SELECT no FROM sentences ORDER BY no"
query_of_numbers table.Moves = codes "SELECT no FROM moves ORDER BY no"
query_of_numbers table.Totals = codes "SELECT state FROM totals ORDER BY state"

-- the words for what is wrong
abbrev pub misfit_text : Misfit → List ℕ
misfit_text wrong.Tables = codes "other tables, columns or indexes than a desk's"
misfit_text wrong.Version = codes "table meta"
misfit_text (wrong.Missing t number) = codes "table " ++ table_name t ++ codes " has no row " ++ decimal number
misfit_text (wrong.Row t number) = codes "table " ++ table_name t ++ codes ", row " ++ decimal number
misfit_text (wrong.Values name) = codes "a value in table " ++ name.now
misfit_text (wrong.Sentence number) =
    codes "sentence " ++ decimal number ++ codes " in table sentences, revisions or pulled"
misfit_text wrong.Moves = codes "the moves do not lead to the other tables"

-- the sentence of the first of these revisions
abbrev pub first_revised : List RevisionRow → Option ℕ
first_revised [] = None
first_revised (row ∷ rows) = Some row.sent

-- the first of these sentences
abbrev pub first_pulled : List ℕ → Option ℕ
first_pulled [] = None
first_pulled (number ∷ numbers) = Some number

-- the smaller number, where there are two
abbrev pub smaller : (a b : Option ℕ) → Option ℕ
smaller None b = b
smaller (Some a) None = Some a
smaller (Some a) (Some b) = Some (min a b)

-- what a look has found, if it did not fail
abbrev pub found_by : Result (Unit {0}) Stop → Option Misfit
found_by (Ok nothing) = None
found_by (Err (Found misfit)) = Some misfit
found_by (Err Failed) = None

-- why a look ends at a read that failed: at the rows, as `form` says, or because the store failed
abbrev pub stop_by : ReadError → (form : Stop) → Stop
stop_by Form form = form
stop_by (Store e) form = Failed

-- why a look ends at a table that cannot be read: a row of it is missing, its values are wrong, or the store failed
abbrev pub IsUnreadable : Table → Stop → Type 0
IsUnreadable t Failed = ⊤
IsUnreadable t (Found (wrong.Missing of number)) = of ≡ t
IsUnreadable t (Found (wrong.Values name)) = name.now ≡ table_name t
IsUnreadable t (Found _) = ⊥

abbrev pub IsStopOf : ReadError → Table → Stop → Type 0
IsStopOf Form t stop = IsUnreadable t stop
IsStopOf (Store e) t stop = stop ≡ Failed

-- ---- rows that are numbered from 1

-- each of the first rows is right, by its number
abbrev pub AreRight : {A : Type 0} → (IsRight : (number : ℕ) → A → Type 0) → List A → (count : ℕ) → Type 0
AreRight {A} IsRight rows count = (k : ℕ) → (d : A) → k < count → IsRight (k + 1) (get_or rows k d)

-- the row with this number is wrong, and those before it are right
abbrev pub IsFirstOff : {A : Type 0} → (IsRight : (number : ℕ) → A → Type 0) → List A → (number : ℕ) → Type 0
IsFirstOff {A} IsRight rows number = (k : ℕ) × (number ≡ k + 1) × (k < length rows) × AreRight IsRight rows k
    × ((d : A) → ¬ IsRight (k + 1) (get_or rows k d))

-- memory is taken for the rows, of which the first is not wrong
abbrev pub TakesMemory : {A : Type 0} → (IsRight : (number : ℕ) → A → Type 0) → List A → Type 0
TakesMemory IsRight rows = (rows ≢ []) × ¬ IsFirstOff IsRight rows 1

-- the row has this number in its first column
abbrev pub HasNumber : (number : ℕ) → Row → Type 0
HasNumber number row = column row 0 ≡ Int (pos number)
