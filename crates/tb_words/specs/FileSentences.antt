-- Between crates: no contract of a front door cites a definition of this module.
-- The sentences of a file one after another, and the lines at which each is.
use Rattle.std.specs.Prelude.{◌≡◌, ℕ, zero, suc, ◌+◌, ◌-◌, ◌<◌, ◌^◌, List, length, min, Option, Some, None, position}
use Rattle.tb_conllu.specs.Left.{BeginsNoSentence, IsNext, Left}
use Rattle.tb_conllu.specs.Text.{BlockText, RowText}
use Rattle.tb_rules.specs.Named.{is_word_numbered}
use Rattle.tb_words.specs.declared.places.Placed.{Placed}
use Rattle.tb_words.specs.declared.places.Places.{Places}

-- a number of lines as it is kept, in 64 bits
abbrev pub kept : ℕ → ℕ
kept lines = min lines (2 ^ 64 - 1)

-- the line after so many others, by its number
abbrev pub line_after : ℕ → ℕ
line_after lines = kept (lines + 1)

-- the line of a comment, counted from 0
abbrev pub comment_line_of : Placed → ℕ → ℕ
comment_line_of placed at = line_after (placed.before + at)

-- the line of a row, counted from 0: the comments come before it
abbrev pub row_line_of : Placed → ℕ → ℕ
row_line_of placed at = line_after (placed.before + (length placed.block.comments + at))

-- the first row that is the word with this number
abbrev pub row_of_word : ℕ → List RowText → Option ℕ
row_of_word word rows = position (λ row. is_word_numbered word row.id) rows

abbrev pub line_of_found : Placed → Option ℕ → ℕ
line_of_found placed None = comment_line_of placed 0
line_of_found placed (Some at) = row_line_of placed at

-- the line of a word; the first line of the sentence where it has no such word
abbrev pub line_of_word : Placed → ℕ → ℕ
line_of_word placed word = line_of_found placed (row_of_word word placed.block.rows)

-- ---- reading

-- a file of which nothing was read
abbrev pub start_of : List ℕ → Left
start_of file = record { rest = file; line = 0 }

-- so many sentences were read, one after another
abbrev pub AreReadTo : ℕ → Left → Left → Type 0
AreReadTo zero old new = old ≡ new
AreReadTo (suc count) old new = (mid : Left) × (block : BlockText) × AreReadTo count old mid × IsNext mid new block

-- So many sentences of the file were read, and the reader knows how many lines they have.
pub record HasRead (file : List ℕ) (count : ℕ) (places : Places) : Type 0 where
  pub left : AreReadTo count (start_of file) places.unread
  pub lines : places.before ≡ kept places.unread.line

-- The sentence that comes after so many others of the file, and the number of lines that precede it.
pub record IsSentenceAfter (file : List ℕ) (count : ℕ) (placed : Placed) : Type 0 where
  pub start : Left
  pub rest : Left
  pub read : AreReadTo count (start_of file) start
  pub next : IsNext start rest placed.block
  pub lines : placed.before ≡ kept start.line

-- No sentence comes next, and the reader stays where it is.
pub record IsAtEnd (old new : Places) : Type 0 where
  pub stays : new.unread ≡ old.unread
  pub counted : new.before ≡ old.before
  pub ended : BeginsNoSentence old.unread.rest

-- The file has no sentence with this number, counted from 1: before it comes what is none.
pub record IsMissing (file : List ℕ) (number : ℕ) : Type 0 where
  pub count : ℕ
  pub few : count < number
  pub left : Left
  pub read : AreReadTo count (start_of file) left
  pub ended : BeginsNoSentence left.rest
