use Rattle.tb_host.proofs.Firsts.{ReadSoFar}
use Rattle.tb_host.proofs.misfit.sentences_in.Given as goal

abbrev pub invariant-loop-at : goal.invariant-loop-at
invariant-loop-at l = ReadSoFar l.batches l.rows l.revisions l.pulled l.at l.rest.revisions.now l.rest.pulled.now l.sentences.items
