-- Inner: no contract beyond this crate cites a definition of this module.
-- Where a text of rows is split: at tabs and line feeds.
-- CoNLL-U format page, "CoNLL-U Format": single tabs separate the fields of a word line, and a line feed ends it.
use Rattle.std.specs.Prelude.{◌≡◌, ◌↔◌, ℕ, ◌+◌, ◌<◌, ◌≤◌, List, length, Bool, true, false}
use Rattle.std.specs.Prelude.{◌||◌, ◌==◌, slice_index}
use Rattle.std.specs.Int.{bit_at}
use Rattle.std.specs.List.{slice_split}
use Rattle.std.specs.Str.{IsUtf8}

-- a byte at which a row is split: a tab or a line feed
abbrev pub is_mark : ℕ → Bool
is_mark b = b == 9 || b == 10

-- the texts between the marks of a text
abbrev pub parts : List ℕ → List (List ℕ)
parts text = slice_split is_mark text

-- in a text from `start` on there is no mark before `base`, and each bit of `marks` is that of one of the 64 bytes from
-- there
pub record AreMarks (text : List ℕ) (start base marks : ℕ) : Type 0 where
  pub within : base ≤ length text
  pub near : start ≤ base + 64
  pub passed : (k : ℕ) → start ≤ k → k < base → is_mark (slice_index text k) ≡ false
  pub bits : (k : ℕ) → (bit_at marks k ≡ 1) ↔ ((k < 64) × (start ≤ base + k)
      × (is_mark (slice_index text (base + k)) ≡ true))

-- the rest begins in the text, and with a character
pub record IsCutAt (text : List ℕ) (start : ℕ) : Type 0 where
  pub utf8 : IsUtf8 text
  pub within : start ≤ length text
  pub whole : 0 < start → start < length text → 128 ≤ slice_index text start → 192 ≤ slice_index text start
