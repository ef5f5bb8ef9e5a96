use Rattle.std.proofs.Common.{◌≡◌, ◌+◌, ◌<◌, drop}
use Rattle.std.specs.List.{AllByRecursion}
use Rattle.sqlite_trees.specs.Tree.{IsAscending}
use Rattle.tb_lists.specs.Counted.{IsOfSoMany, count_all}
use Rattle.tb_lists.proofs.counting.put_all.Given as goal

abbrev pub invariant-loop-row : goal.invariant-loop-row
invariant-loop-row l = (l.seen ≡ l.row-index) × AllByRecursion (IsOfSoMany l.row-index) l.counts.items
    × (IsAscending (λ a b. a < b) l.pulled → count_all l.pulled (l.row-index + 1) (drop l.row-index l.rows) l.counts.items ≡ count_all l.pulled 1 l.rows l.initial.counts.items)
