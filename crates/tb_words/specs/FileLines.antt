-- Between crates: no contract of a front door cites a definition of this module.
-- The lines of a file by their numbers, and a reader of them.
use Rattle.std.specs.Prelude.{◌≡◌, ℕ, ◌-◌, List, [], ◌∷◌, Option, Some, None, Bool, ◌==◌, drop, option_map}
use Rattle.std.specs.Prelude.{slice_index_or}
use Rattle.std.specs.List.{slice_split}
use Rattle.tb_words.specs.declared.places.Lines.{Lines}

abbrev pub is_line_feed : ℕ → Bool
is_line_feed b = b == 10

-- the lines of bytes; the last one is what follows the last line feed
abbrev pub lines_in : List ℕ → List (List ℕ)
lines_in bytes = slice_split is_line_feed bytes

-- the lines of the bytes that are left, if any are
abbrev pub lines_left : Option (List ℕ) → List (List ℕ)
lines_left None = []
lines_left (Some bytes) = lines_in bytes

-- The line with this number, counted from 1; empty where there is none.
abbrev pub line_at : ℕ → List ℕ → List ℕ
line_at number file = slice_index_or ([] ∷ lines_in file) number []

-- The reader stands at a line of the file: it has this line and the one before, and those after it are left.
pub record IsAtLine (file : List ℕ) (lines : Lines) : Type 0 where
  pub here : lines.here.bytes.now ≡ line_at lines.here.number file
  pub before : lines.here.before.now ≡ line_at (lines.here.number - 1) file
  pub left : lines_left (option_map (λ rest. rest.now) lines.unread) ≡ drop lines.here.number (lines_in file)
