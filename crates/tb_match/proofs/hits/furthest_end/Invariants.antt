use Rattle.std.proofs.Common.{ℕ, ◌+◌, ◌-◌, ◌<◌, ◌≤◌}
use Rattle.tb_match.specs.Bits.{Forward}
use Rattle.tb_match.proofs.hits.furthest_end.Given as goal

abbrev pub invariant-loop-end : goal.invariant-loop-end
invariant-loop-end l = record {
  order : l.furthest < l.end;
  upto : l.end ≤ l.shape.last + 1;
  limit : l.furthest ≤ l.shape.last;
  beyond : l.reached ≤ l.furthest;
  there : l.reached < l.furthest → Forward l.table l.shape.width l.shape.last l.place l.furthest;
  next : l.end ≤ l.shape.last → Forward l.table l.shape.width l.shape.last l.place l.end;
  passed : (j : ℕ) → Forward l.table l.shape.width l.shape.last l.place j → j < l.end → j ≤ l.furthest;
}

abbrev pub decreases-loop-end : goal.decreases-loop-end
decreases-loop-end l = l.shape.last + 1 - l.end
