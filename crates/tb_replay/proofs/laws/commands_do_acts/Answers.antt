use Rattle.tb_replay.proofs.Accepting.{command_did}
use Rattle.tb_replay.proofs.laws.commands_do_acts.Goals as goal

pub returns : goal.returns
returns c = command_did
