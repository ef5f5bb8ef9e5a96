use Rattle.tb_host.proofs.Awaited.{waited_so}
use Rattle.tb_host.proofs.turns.wait.Goals as goal

pub returns-clause-called : goal.returns-clause-called
returns-clause-called g c =
    waited_so _ _ _ _ c.in_ok-waited.waited c.in_ok-pause.pause c.in_ok-waited.ensures.called c.tell.ensures.called c.in_ok-pause.ensures c.pause.ensures.called
