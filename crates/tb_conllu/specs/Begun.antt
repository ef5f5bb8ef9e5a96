-- Between crates: no contract of a front door cites a definition of this module.
-- What was read of a file so far: whole sentences, and a part of the next.
use Rattle.std.specs.Prelude.{ℕ, List, [], ◌∷◌, ◌++◌, map, Bool, true, false}
use Rattle.std.specs.List.{AllByRecursion}
use Rattle.tb_conllu.specs.Text.{RowText, BlockText, lines_of, row_line}
use Rattle.tb_conllu.specs.Shape.{IsRowShaped, IsCommentText, AllShaped}

pub record BegunText : Type 0 where
  pub done : List BlockText
  pub comments : List (List ℕ)
  pub rows : List RowText

-- the lines that were read
abbrev pub lines_so_far : BegunText → List (List ℕ)
lines_so_far b = lines_of b.done ++ (b.comments ++ map row_line b.rows)

-- whether the sentence has a word line so far
abbrev pub has_rows : List RowText → Bool
has_rows [] = false
has_rows (r ∷ rs) = true

pub record IsSound (b : BegunText) : Type 0 where
  pub done : AllShaped b.done
  pub comments : AllByRecursion IsCommentText b.comments
  pub rows : AllByRecursion IsRowShaped b.rows
