-- Inner: no contract beyond this crate cites a definition of this module.
-- Where a look at the rows of a file ends, in the order in which it goes through the tables: at what is wrong first, as
-- they say it, or for want of memory.
use Rattle.std.specs.Prelude.{◌≡◌, ◌≢◌, ◌⊎◌, ◌<◌, ◌≤◌, ◌+◌, ◌++◌, ◌^◌, ℕ, List, [], ◌∷◌, codes, length, map, ⊤}
use Rattle.std.specs.Prelude.{Bool, true, false, IsTrue, Option, None, Some, Result, Ok, Err, slice_get, slice_index}
use Rattle.std.specs.Prelude.{string_bytes}
use Rattle.std.specs.List.{AllWithin, HoldsAt}
use Rattle.sqlite.specs.Order.{Row}
use Rattle.tb_core.specs.Machine.{Batch, Machine, Sentence, one, words}
use Rattle.tb_core.specs.Moves.{MoveText}
use Rattle.tb_core.specs.Names.{is_name}
use Rattle.tb_core.specs.Totals.{AreTotalsOf, total}
use Rattle.tb_core.specs.declared.kinds.State.{State}
use Rattle.tb_core.specs.declared.sums.Totals.{Totals}
use Rattle.tb_tables.specs.Values.{batch_of, move_of, revision_of, sentence_of}
use Rattle.tb_tables.specs.declared.rows.BatchRow.{BatchRow}
use Rattle.tb_tables.specs.declared.rows.SentenceRow.{SentenceRow}
use Rattle.tb_tables.specs.declared.rows.RevisionRow.{RevisionRow}
use Rattle.tb_tables.specs.declared.rows.MoveRow.{MoveRow}
use Rattle.tb_tables.specs.declared.rows.TotalRow.{TotalRow}
use Rattle.tb_refine.specs.DeskTables.{batch_record, move_record}
use Rattle.tb_reads.specs.declared.error.ReadError.{ReadError}
use Rattle.tb_reads.specs.declared.error.ReadError.TheVariants.{Form, Store}
use Rattle.tb_verify.specs.Course.{IsReadBack}
use Rattle.tb_verify.specs.declared.unfit.Unfit.{Unfit}
use Rattle.tb_verify.specs.declared.unfit.Unfit.TheVariants as unfit
use Rattle.tb_host.specs.Misfits.{AreRight, HasNumber, IsFirstOff, TakesMemory, first_pulled, first_revised, smaller}
use Rattle.tb_host.specs.Misfits.{table_name}
use Rattle.tb_host.specs.declared.misfit.Misfit.{Misfit}
use Rattle.tb_host.specs.declared.misfit.Misfit.TheVariants as wrong
use Rattle.tb_host.specs.declared.misfit.Stop.{Stop}
use Rattle.tb_host.specs.declared.misfit.Stop.TheVariants.{Found, Failed}
use Rattle.tb_host.specs.declared.misfit.Table.{Table}
use Rattle.tb_host.specs.declared.misfit.Table.TheVariants as table

-- the look has found this, or has failed, where it may
abbrev pub FindsOrFails : (MayFail : Type 0) → (Misfit → Type 0) → Stop → Type 0
FindsOrFails MayFail IsIt (Found misfit) = IsIt misfit
FindsOrFails MayFail IsIt Failed = MayFail

-- it ends so, or a read has failed, where it may
abbrev pub EndsIf : (MayFail : Type 0) → (Stop → Type 0) → Stop → Type 0
EndsIf MayFail IsEnd (Found misfit) = IsEnd (Found misfit)
EndsIf MayFail IsEnd Failed = MayFail ⊎ IsEnd Failed

-- where a look ended, by what it has found
abbrev pub stop_in : Option Misfit → Stop
stop_in (Some misfit) = Found misfit
stop_in None = Failed

-- why a look ends at the row of a sentence that cannot be read back
abbrev pub stop_of_unfit : Unfit → (number : ℕ) → Stop
stop_of_unfit unfit.NotADesk number = Found (wrong.Sentence number)
stop_of_unfit unfit.Memory number = Failed

-- ---- a table by itself

-- what a table cannot be read for: a row is missing, by the numbers of its rows, or a value is of another kind
abbrev pub IsUnread : Table → (numbers : List Row) → Stop → Type 0
IsUnread t numbers (Found (wrong.Missing of number)) = (of ≡ t) × IsFirstOff HasNumber numbers number
IsUnread t numbers (Found (wrong.Values name)) =
    (name.now ≡ table_name t) × AreRight HasNumber numbers (length numbers)
IsUnread t numbers _ = ⊥

-- a value of the table with this name is of another kind
abbrev pub IsValueOf : (name : List ℕ) → Stop → Type 0
IsValueOf text (Found (wrong.Values name)) = name.now ≡ text
IsValueOf text _ = ⊥

-- the first row of a table that is not right, or want of memory
abbrev pub IsRowOff : {A : Type 0} → Table → (IsRight : (number : ℕ) → A → Type 0) → List A → Stop → Type 0
IsRowOff t IsRight rows (Found (wrong.Row of number)) = (of ≡ t) × IsFirstOff IsRight rows number
IsRowOff t IsRight rows (Found _) = ⊥
IsRowOff t IsRight rows Failed = TakesMemory IsRight rows

-- the row is that of a batch with a good name
abbrev pub IsBatchRow : BatchRow → Type 0
IsBatchRow row = IsTrue (is_name (string_bytes row.name)) × (batch : Batch) × (batch_record batch ≡ batch_of row)

abbrev pub IsMoveRow : MoveRow → Type 0
IsMoveRow row = (m : MoveText) × (move_of row ≡ move_record m)

-- the row has the sums at this place
abbrev pub HasSumsAt : Totals → (at : ℕ) → TotalRow → Type 0
HasSumsAt sums at row = ((at < length sums.sentences) × (slice_index sums.sentences at ≡ row.sentences))
    × ((at < length sums.words) × (slice_index sums.words at ≡ row.words))

-- the row has the sums of the state with this number
abbrev pub HasSums : Totals → (number : ℕ) → TotalRow → Type 0
HasSums sums number row = (at : ℕ) × (number ≡ at + 1) × HasSumsAt sums at row

abbrev pub AreRightTotals : Totals → List TotalRow → Type 0
AreRightTotals sums rows = AreRight (HasSums sums) rows (length rows) × (6 ≤ length rows)

-- a row of the totals does not have its sums, or that of the next state is missing
abbrev pub IsWrongTotal : Totals → List TotalRow → Stop → Type 0
IsWrongTotal sums rows (Found (wrong.Row of number)) = (of ≡ table.Totals) × IsFirstOff (HasSums sums) rows number
IsWrongTotal sums rows (Found (wrong.Missing of number)) = (of ≡ table.Totals) × (number ≡ length rows + 1)
    × (length rows < 6) × AreRight (HasSums sums) rows (length rows)
IsWrongTotal sums rows _ = ⊥

-- ---- sentences, with their revisions and whether they are pulled

-- A sentence takes the revisions at the front that have its number, and the first pulled number if it is its own.
pub record Takes (number : ℕ) (own : List RevisionRow) (is_pulled : Bool) (revisions : List RevisionRow) (pulled : List ℕ) (later : List RevisionRow) (left : List ℕ) : Type 0 where
  pub cut : revisions ≡ own ++ later
  pub own_alone : AllWithin (λ (row : RevisionRow). row.sent ≡ number) revisions 0 (length own)
  pub all_own : length own < length revisions
      → HoldsAt (λ (row : RevisionRow). row.sent ≢ number) revisions (length own)
  pub taken : IsTrue is_pulled → pulled ≡ number ∷ left
  pub other : is_pulled ≡ false → (first_pulled pulled ≢ Some number) × (left ≡ pulled)

-- the row is of a batch that is there, and has as many revisions as these
abbrev pub HasItsRows : (batches : ℕ) → SentenceRow → (own : List RevisionRow) → Type 0
HasItsRows batches row own = (row.batch ≢ 0) × (row.batch ≤ batches) × (row.rev ≡ length own)

-- the sentence has this row, these revisions, and is pulled or not, in a desk of so many batches
abbrev pub IsSentenceRow : (batches number : ℕ) → SentenceRow → (own : List RevisionRow) → (is_pulled : Bool) → Sentence → Type 0
IsSentenceRow batches number row own is_pulled x = HasItsRows batches row own
    × IsReadBack number (sentence_of row) is_pulled (map revision_of own) x

-- The sentences of the first rows, each read back from its row and what it takes of the rest. This is left of the rest.
pub data AreRead (batches : ℕ) (rows : List SentenceRow) (revisions : List RevisionRow) (pulled : List ℕ) : List Sentence → List RevisionRow → List ℕ → Type 0 where
  none : AreRead batches rows revisions pulled [] revisions pulled
  one_more : (xs : List Sentence) (x : Sentence) (row : SentenceRow) (own : List RevisionRow) (is_pulled : Bool)
      (later after : List RevisionRow) (left over : List ℕ)
      → AreRead batches rows revisions pulled xs later left → slice_get rows (length xs) ≡ Some row
      → Takes (length xs + 1) own is_pulled later left after over
      → IsSentenceRow batches (length xs + 1) row own is_pulled x
      → AreRead batches rows revisions pulled (xs ++ x ∷ []) after over

-- all rows are those of these sentences
abbrev pub AreAllRead : (batches : ℕ) → List SentenceRow → List RevisionRow → List ℕ → List Sentence → Type 0
AreAllRead batches rows revisions pulled xs = AreRead batches rows revisions pulled xs [] [] × (length rows ≤ length xs)

-- The next sentence cannot be read back from its row and what it takes.
abbrev pub IsUnfitNext : (batches number : ℕ) → SentenceRow → List RevisionRow → List ℕ → Type 0
IsUnfitNext batches number row revisions pulled = (own : List RevisionRow) × (is_pulled : Bool)
    × (later : List RevisionRow) × (left : List ℕ) × Takes number own is_pulled revisions pulled later left
    × ((x : Sentence) → ¬ IsSentenceRow batches number row own is_pulled x)

-- After sentences that can be read back, the next one cannot, or rows of one without a row are left.
abbrev pub IsFirstUnread : (batches : ℕ) → List SentenceRow → List RevisionRow → List ℕ → (number : ℕ) → Type 0
IsFirstUnread batches rows revisions pulled number = (xs : List Sentence) × (later : List RevisionRow) × (left : List ℕ)
    × AreRead batches rows revisions pulled xs later left
    × (((row : SentenceRow) × (slice_get rows (length xs) ≡ Some row) × (number ≡ length xs + 1)
    × IsUnfitNext batches number row later left)
    ⊎ ((length rows ≤ length xs) × (smaller (first_revised later) (first_pulled left) ≡ Some number)))

-- After sentences that can be read back, memory is taken for the next one, whose row goes with its revisions.
abbrev pub TakesForNext : (batches : ℕ) → List SentenceRow → List RevisionRow → List ℕ → Type 0
TakesForNext batches rows revisions pulled = (xs : List Sentence) × (later : List RevisionRow) × (left : List ℕ)
    × AreRead batches rows revisions pulled xs later left
    × ((row : SentenceRow) × (slice_get rows (length xs) ≡ Some row) × (own : List RevisionRow) × (is_pulled : Bool)
    × (after : List RevisionRow) × (over : List ℕ) × Takes (length xs + 1) own is_pulled later left after over
    × HasItsRows batches row own)

abbrev pub IsWrongSentence : (batches : ℕ) → List SentenceRow → List RevisionRow → List ℕ → Stop → Type 0
IsWrongSentence batches rows revisions pulled (Found (wrong.Sentence number)) =
    IsFirstUnread batches rows revisions pulled number
IsWrongSentence batches rows revisions pulled (Found _) = ⊥
IsWrongSentence batches rows revisions pulled Failed = TakesForNext batches rows revisions pulled

-- ---- the tables in turn

-- What the tables of a file say. A table with a row of no record, or without one of its rows, cannot be read.
pub record Said : Type 0 where
  -- a read of them may fail, or want memory
  pub may_fail : Bool
  -- the tables, columns and indexes are those of a desk
  pub has_schema : Bool
  pub versions : Option (List ℕ)
  pub batches : Option (List BatchRow)
  pub sentences : Option (List SentenceRow)
  pub revisions : Option (List RevisionRow)
  pub pulled : Option (List ℕ)
  pub moves : Option (List MoveRow)
  pub totals : Option (List TotalRow)
  -- the numbers of a table's rows alone
  pub numbers : Table → List Row

-- a read has given what the table says, or failed, where it may
abbrev pub Tells : {A V : Type 0} → (may_fail : Bool) → (said : Option (List A)) → Result V ReadError → (items : V → List A) → Type 0
Tells may_fail said (Ok rows) items = said ≡ Some (items rows)
Tells may_fail said (Err Form) items = said ≡ None
Tells may_fail said (Err (Store e)) items = IsTrue may_fail

-- the store has failed in a read
abbrev pub HasFailed : {V : Type 0} → Result V ReadError → Type 0
HasFailed (Ok rows) = ⊥
HasFailed (Err Form) = ⊥
HasFailed (Err (Store e)) = ⊤

-- where a look ends in a table or in those after it, where it can be read and where it cannot
abbrev pub InTable : {A : Type 0} → (said : Option (List A)) → (IsUnreadable : Stop → Type 0) → (IsFirst : List A → Stop → Type 0) → Stop → Type 0
InTable None IsUnreadable IsFirst stop = IsUnreadable stop
InTable (Some rows) IsUnreadable IsFirst stop = IsFirst rows stop

-- the sums of a state with these batches and sentences
abbrev pub AreSums : List Batch → List Sentence → Totals → Type 0
AreSums batches xs sums = (s : Machine) → batches ≡ s.batches → xs ≡ s.sentences → AreTotalsOf sums s

-- some sum of such a state does not fit 64 bits
abbrev pub HaveNoSums : List Batch → List Sentence → Type 0
HaveNoSums batches xs = (s : Machine) → batches ≡ s.batches → xs ≡ s.sentences
    → ((st : State) → total one s st < 2 ^ 64) → ((st : State) → total words s st < 2 ^ 64) → ⊥

abbrev pub IsFirstInSums : List Batch → List Sentence → List TotalRow → Stop → Type 0
IsFirstInSums batches xs rows stop = ((sums : Totals) × AreSums batches xs sums
    × (IsWrongTotal sums rows stop ⊎ (AreRightTotals sums rows × (stop ≡ Found wrong.Moves))))
    ⊎ (HaveNoSums batches xs × (stop ≡ Found wrong.Moves))

abbrev pub IsFirstInTotals : Said → List Batch → List Sentence → Stop → Type 0
IsFirstInTotals said batches xs = InTable said.totals (IsUnread table.Totals (said.numbers table.Totals))
    (IsFirstInSums batches xs)

abbrev pub IsFirstInMoves : Said → List Batch → List Sentence → Stop → Type 0
IsFirstInMoves said batches xs = InTable said.moves (IsUnread table.Moves (said.numbers table.Moves)) (λ rows stop.
    IsRowOff table.Moves (λ _. IsMoveRow) rows stop
    ⊎ (AreRight (λ _. IsMoveRow) rows (length rows) × IsFirstInTotals said batches xs stop))

abbrev pub IsFirstInSentences : Said → List Batch → Stop → Type 0
IsFirstInSentences said batches = InTable said.sentences (IsUnread table.Sentences (said.numbers table.Sentences))
    (λ rows. InTable said.revisions (IsValueOf (codes "revisions")) (λ revisions.
    InTable said.pulled (IsValueOf (codes "pulled")) (λ pulled stop.
    IsWrongSentence (length batches) rows revisions pulled stop
    ⊎ ((xs : List Sentence) × AreAllRead (length batches) rows revisions pulled xs
    × IsFirstInMoves said batches xs stop))))

abbrev pub IsFirstInBatches : Said → Stop → Type 0
IsFirstInBatches said = InTable said.batches (IsUnread table.Batches (said.numbers table.Batches)) (λ rows stop.
    IsRowOff table.Batches (λ _. IsBatchRow) rows stop
    ⊎ ((batches : List Batch) × (map batch_record batches ≡ map batch_of rows)
    × AreRight (λ _. IsBatchRow) rows (length rows) × IsFirstInSentences said batches stop))

-- where a look ends: at the schema, at the version, or in the tables, in this order
abbrev pub IsFirstStop : Said → Stop → Type 0
IsFirstStop said stop = ((said.has_schema ≡ false) × (stop ≡ Found wrong.Tables))
    ⊎ ((said.has_schema ≡ true) × InTable said.versions (IsValueOf (codes "meta")) (λ rows s.
    ((rows ≢ 2 ∷ []) × (s ≡ Found wrong.Version)) ⊎ ((rows ≡ 2 ∷ []) × IsFirstInBatches said s)) stop)
