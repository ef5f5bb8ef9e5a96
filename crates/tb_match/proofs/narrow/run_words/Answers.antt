use Rattle.std.proofs.Common.{arith}
use Rattle.tb_match.proofs.Masks.{run_row_of_word}
use Rattle.tb_match.proofs.narrow.run_words.Goals as goal

pub returns : goal.returns
returns c = record {
  rows = λ i j inside h. run_row_of_word c.args.table.now c.loop-row.table c.args.ends i j h (c.loop-row.invariant.done i j (omega arith) h);
}
