use Rattle.std.proofs.Common.{◌≡◌, ◌==◌, length, take, true}
use Rattle.std.specs.List.{list_all}
use Rattle.tb_words.specs.Circles.{steps_from}
use Rattle.tb_words.proofs.circles.on_circle.Given as goal

abbrev pub invariant-loop-head : goal.invariant-loop-head
invariant-loop-head l = list_all (λ head. steps_from l.heads (length l.heads) head == 0) (take l.head-index l.heads) ≡ true
