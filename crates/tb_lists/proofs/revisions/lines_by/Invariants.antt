use Rattle.std.proofs.Common.{◌≡◌, ◌≤◌, ◌+◌, ◌++◌, drop}
use Rattle.tb_lists.specs.Made.{lines_by}
use Rattle.tb_lists.specs.Revisions.{makers}
use Rattle.tb_lists.proofs.revisions.lines_by.Given as goal

abbrev pub invariant-loop-step : goal.invariant-loop-step
invariant-loop-step l = (l.rev ≤ l.step-index)
    × (l.lines.items ++ lines_by (l.rev + 1) (makers l.sentence l.batch (drop l.step-index l.steps)) ≡ lines_by 1 (makers l.sentence l.batch l.steps))
