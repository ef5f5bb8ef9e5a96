-- The totals of a state are the net of its moves.
use Rattle.std.proofs.Common.{◌+◌, ap, ◌∙◌}
use Rattle.tb_core.specs.declared.kinds.State.{State}
use Rattle.tb_core.specs.declared.sums.Totals.{Totals}
use Rattle.tb_core.specs.Machine.{Machine}
use Rattle.tb_core.specs.Moves.{MoveText}
use Rattle.tb_core.specs.Totals.{IsNet, AreTotalsOf, sum_moves, out_of}
use Rattle.tb_store.specs.Answers.{AreNet}

pub net_of : (t : Totals) (s : Machine) → AreTotalsOf t s → ((st : State) → IsNet s st) → AreNet t s.moves
net_of t s sums nets = record {
  sentences = λ st. ap (λ n. n + sum_moves (out_of st (λ (m : MoveText). m.sentences)) s.moves) (sums.sentences st) ∙ (nets st).sentences;
  words = λ st. ap (λ n. n + sum_moves (out_of st (λ (m : MoveText). m.words_out)) s.moves) (sums.words st) ∙ (nets st).words;
}
