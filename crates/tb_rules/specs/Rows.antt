-- Rules that each row of a sentence keeps by itself, and the first row that breaks one.
use Rattle.std.specs.Prelude.{◌≡◌, ℕ, ◌<◌, ◌+◌, List, length, take, slice_index_or, Bool, true, false}
use Rattle.tb_conllu.specs.Text.{RowText}

-- a test of a row, which also sees the rows before it
abbrev pub RowTest : Type 0
RowTest = List RowText → RowText → Bool

-- each of the first n rows passes
abbrev pub FirstRowsPass : RowTest → List RowText → ℕ → Type 0
FirstRowsPass test rs n = (k : ℕ) (d : RowText) → k < n → test (take k rs) (slice_index_or rs k d) ≡ true

-- each row passes
abbrev pub EachRowPasses : RowTest → List RowText → Type 0
EachRowPasses test rs = FirstRowsPass test rs (length rs)

-- The first row that fails, counted from 1.
pub record IsFirstFault (test : RowTest) (rs : List RowText) (row : ℕ) : Type 0 where
  pub place : ℕ
  pub counted : row ≡ place + 1
  pub within : place < length rs
  pub fails : (d : RowText) → test (take place rs) (slice_index_or rs place d) ≡ false
  pub before : FirstRowsPass test rs place
