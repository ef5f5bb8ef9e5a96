use Rattle.std.proofs.Common.{arith}
use Rattle.tb_replay.proofs.Loops.{finish}
use Rattle.tb_replay.proofs.replaying.replays.Goals as goal

pub returns-clause-reached : goal.returns-clause-reached
returns-clause-reached c = λ f p q r fine. finish c.plays_out.result f c.args.batches.now c.args.entries.now c.args.moves.now c.plays_out.ensures.answer (omega arith) (omega arith) p q r fine
