use Rattle.std.proofs.Common.{◌≡◌, ◌<◌, ◌≤◌, ℕ, sum_by, take}
use Rattle.sqlite_trees.specs.Tree.{IsAscending}
use Rattle.tb_commands.specs.Working.{unless_pulled, each_one, its_words}
use Rattle.tb_commands.proofs.working.sums_of.Given as goal

abbrev pub invariant-loop-item : goal.invariant-loop-item
invariant-loop-item l =
    (IsAscending (λ (a b : ℕ). a < b) l.pulled → (l.sums.sentences ≡ sum_by (unless_pulled l.pulled each_one) (take l.item-index l.work)) × (l.sums.words ≡ sum_by (unless_pulled l.pulled its_words) (take l.item-index l.work)))
    × (l.sums.sentences ≤ l.item-index) × (l.sums.words ≤ sum_by its_words (take l.item-index l.work))
