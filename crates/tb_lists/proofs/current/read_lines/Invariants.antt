use Rattle.std.proofs.Common.{◌≡◌}
use Rattle.tb_lists.proofs.ShownLines.{IsSoFar}
use Rattle.tb_lists.proofs.current.read_lines.Given as goal

abbrev pub invariant-loop-row : goal.invariant-loop-row
invariant-loop-row g l = (l.no ≡ l.row-index) × IsSoFar g.S.Store l.fn.conn l.conn l.pulled.items l.rows l.batch l.row-index l.lines.items
