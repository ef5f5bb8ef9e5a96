-- Tables as CSV (RFC 4180): a head line and a line for each row, each with LF at its end. A field is quoted only where
-- it must be.
use Rattle.std.specs.Prelude.{◌≡◌, ℕ, false, List, [], ◌∷◌, map, codes, Option, Some, None}
use Rattle.std.specs.Fmt.{decimal}
use Rattle.std.specs.Io.KnownBytes.{Appends}
use Rattle.std.specs.List.{flat_map}
use Rattle.csv.specs.Writing.{default_writer, row_text, writer_setup, fields_written, has_written, text_written}
use Rattle.csv.specs.declared.writer.Writer.{Writer}
use Rattle.tb_core.specs.declared.kinds.State.{State}
use Rattle.tb_core.specs.declared.kinds.State.TheVariants.{Opened, Assigned, Submitted, Adjudicated, Released}
use Rattle.tb_core.specs.declared.kinds.State.TheVariants.{Withdrawn}
use Rattle.tb_core.specs.declared.sums.Totals.{Totals}
use Rattle.tb_core.specs.Moves.{MoveText}
use Rattle.tb_core.specs.Totals.{at_state}
use Rattle.tb_core.specs.Words.{state_word, kind_word}
use Rattle.tb_report.specs.Tables.{Row}

-- rows of fields, as the library csv writes a row by its defaults: commas between fields, LF at the end, quotes where
-- needed
abbrev pub csv_of : List (List (List ℕ)) → List ℕ
csv_of rows = flat_map (row_text default_writer) rows

-- ---- frequency tables

abbrev pub freq_head : List (List ℕ)
freq_head = codes "key" ∷ codes "count" ∷ []

abbrev pub freq_fields : Row → List (List ℕ)
freq_fields row = row.0 ∷ decimal row.1 ∷ []

-- a line for each row, in this order
abbrev pub freq_csv : List Row → List ℕ
freq_csv rows = csv_of (freq_head ∷ map freq_fields rows)

-- ---- totals

abbrev pub totals_head : List (List ℕ)
totals_head = codes "state" ∷ codes "sentences" ∷ codes "words" ∷ []

abbrev pub all_states : List State
all_states = Opened ∷ Assigned ∷ Submitted ∷ Adjudicated ∷ Released ∷ Withdrawn ∷ []

abbrev pub totals_fields : Totals → State → List (List ℕ)
totals_fields t state = state_word state ∷ decimal (at_state t.sentences state)
    ∷ decimal (at_state t.words state) ∷ []

-- a line for each state
abbrev pub totals_csv : Totals → List ℕ
totals_csv t = csv_of (totals_head ∷ map (totals_fields t) all_states)

-- ---- moves

abbrev pub moves_head : List (List ℕ)
moves_head =
    codes "no" ∷ codes "kind" ∷ codes "batch" ∷ codes "sentence" ∷ codes "from" ∷ codes "to"
    ∷ codes "sentences" ∷ codes "words_out" ∷ codes "words_in" ∷ codes "who" ∷ []

-- the word for a state, or for none
abbrev pub from_word : Option State → List ℕ
from_word None = codes "none"
from_word (Some state) = state_word state

abbrev pub move_fields : MoveText → List (List ℕ)
move_fields m =
    decimal m.no ∷ kind_word m.kind ∷ decimal m.batch ∷ decimal m.sent ∷ from_word m.from ∷ state_word m.to
    ∷ decimal m.sentences ∷ decimal m.words_out ∷ decimal m.words_in ∷ m.who ∷ []

-- a line for each move
abbrev pub moves_csv : List MoveText → List ℕ
moves_csv moves = csv_of (moves_head ∷ map move_fields moves)

-- ---- the writer of the library csv

-- no row is begun
abbrev pub IsBetweenRows : {W : Type 0} → Writer W → Type 0
IsBetweenRows w = (writer_setup w ≡ default_writer) × (fields_written w ≡ 0) × (has_written w ≡ false)

-- these rows were written, and no further row is begun
abbrev pub PutsRows : {W : Type 0} → (W → Option (List ℕ)) → Writer W → Writer W → List (List (List ℕ))
    → Type 0
PutsRows contents old new rows = IsBetweenRows old → IsBetweenRows new
    × Appends (text_written contents old) (text_written contents new) (csv_of rows)

-- ---- the sink of a whole table

-- the sink refused a piece, for a reason with this property
abbrev pub IsRefused : {S Refusal : Type 0} → (S → Refusal → Type 0) → S → Type 0
IsRefused {S} {Refusal} is_refusal sink = (refusal : Refusal) × is_refusal sink refusal
