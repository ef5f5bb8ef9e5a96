use Rattle.tb_core.specs.Machine.{empty_machine}
use Rattle.tb_core.specs.Reaching.{begun}
use Rattle.tb_replay.proofs.Course.{sound, complete}
use Rattle.tb_replay.proofs.laws.replay_is_exact.Goals as goal

pub returns : goal.returns
returns c = λ f. (complete f, λ p. sound f f.moves empty_machine p begun)
