-- Inner: no contract beyond this crate cites a definition of this module.
-- Revisions as the moves alone tell them.
use Rattle.std.specs.Prelude.{ℕ, ◌+◌, List, [], ◌∷◌}
use Rattle.tb_core.specs.Moves.{MoveText}
use Rattle.tb_lists.specs.Revisions.{RevisionText}

-- the revision with this number, which a move made; the user who made the move wrote it
abbrev pub line_by : ℕ → MoveText → RevisionText
line_by k m = record { rev = k; who = m.who; kind = m.kind; move_no = m.no }

-- the revisions that these moves made, the first of which has the number k
abbrev pub lines_by : ℕ → List MoveText → List RevisionText
lines_by k [] = []
lines_by k (m ∷ ms) = line_by k m ∷ lines_by (k + 1) ms
