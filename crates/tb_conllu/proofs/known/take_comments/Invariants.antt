use Rattle.std.proofs.Common.{◌≡◌, ℕ, List, ◌++◌, false, length}
use Rattle.std.specs.List.{AllByRecursion}
use Rattle.std.specs.Str.{IsUtf8}
use Rattle.tb_conllu.specs.Lines.{is_comment}
use Rattle.tb_conllu.specs.Shape.{IsCommentText}
use Rattle.tb_conllu.specs.Text.{ended}
use Rattle.tb_conllu.proofs.known.take_comments.Given as goal

-- the comments taken and those to come are all, and what is left begins with those to come
abbrev pub invariant-loop-left : goal.invariant-loop-left
invariant-loop-left l = IsUtf8 l.left × ((cs : List (List ℕ)) (rest : List ℕ) → AllByRecursion IsCommentText cs → is_comment rest ≡ false → l.initial.text ≡ ended cs ++ rest
    → (more : List (List ℕ)) × AllByRecursion IsCommentText more × (l.initial.block.comments ++ cs ≡ l.block.comments ++ more) × (l.block.rows ≡ l.initial.block.rows) × (l.left ≡ ended more ++ rest))
    × (is_comment l.initial.text ≡ false → l.left ≡ l.initial.text)

abbrev pub decreases-loop-left : goal.decreases-loop-left
decreases-loop-left l = length l.left
