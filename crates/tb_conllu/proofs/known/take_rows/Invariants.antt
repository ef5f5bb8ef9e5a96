use Rattle.std.proofs.Common.{◌≡◌, List, [], ◌∷◌, ◌++◌, map, length}
use Rattle.std.specs.List.{AllByRecursion}
use Rattle.tb_conllu.specs.Marks.{parts}
use Rattle.tb_conllu.specs.Shape.{IsRowShaped}
use Rattle.tb_conllu.specs.Text.{RowText, ended, row_line}
use Rattle.tb_conllu.proofs.Marked.{parts_of_rows}
use Rattle.tb_conllu.proofs.known.take_rows.Given as goal

-- the rows taken and those to come are all, and what is left has the parts of those to come
abbrev pub invariant-loop-id : goal.invariant-loop-id
invariant-loop-id l = (rs : List RowText) → AllByRecursion IsRowShaped rs → l.initial.text ≡ ended (map row_line rs ++ [] ∷ [])
    → (more : List RowText) × AllByRecursion IsRowShaped more × (l.initial.block.rows ++ rs ≡ l.block.rows ++ more) × (l.block.comments ≡ l.initial.block.comments) × (parts l.cutter ≡ parts_of_rows more)

abbrev pub decreases-loop-id : goal.decreases-loop-id
decreases-loop-id l = length (parts l.cutter)
