-- Which expressions hold of which words of a sentence.
use Rattle.std.specs.Prelude.{◌≡◌, ℕ, ◌+◌, ◌-◌, ◌*◌, ◌≤◌, List, Bool, true, false, slice_index_or}

-- a table of truths: the cells of expression 0, word by word, then those of expression 1, and so on
pub record Facts : Type 0 where
  pub words : ℕ
  pub exprs : ℕ
  pub cells : List Bool

-- expression e, counted from 0, holds of word w, counted from 1
abbrev pub Holds : Facts → ℕ → ℕ → Type 0
Holds t e w = (1 ≤ w) × (w ≤ t.words) × (slice_index_or t.cells (e * t.words + (w - 1)) false ≡ true)
