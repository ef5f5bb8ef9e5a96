use Rattle.std.proofs.Common.{◌≡◌, drop}
use Rattle.tb_answer.specs.Numbered.{name_in}
use Rattle.tb_answer.proofs.numbered.name_in.Given as goal

abbrev pub invariant-loop-batch : goal.invariant-loop-batch
invariant-loop-batch l = name_in l.no (drop l.batch-index l.batches) ≡ name_in l.no l.batches
