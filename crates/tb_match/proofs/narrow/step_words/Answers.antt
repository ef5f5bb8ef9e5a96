use Rattle.std.proofs.Common.{arith}
use Rattle.tb_match.specs.Stays.{MayStay}
use Rattle.tb_match.proofs.Masks.{stepped_row}
use Rattle.tb_match.proofs.narrow.step_words.Goals as goal

pub returns : goal.returns
returns c = record {
  rows = λ i j inside h. stepped_row c.args.table.now c.loop-row.table c.args.ends i j h (MayStay c.args.stay) (c.loop-row.invariant.done i j (omega arith) h);
}
