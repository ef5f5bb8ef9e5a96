use Rattle.std.proofs.Common.{◌≡◌, ◌^◌, arith}
use Rattle.tb_replay.specs.Playing.{first_counts}
use Rattle.std.proofs.lemmas.Bool.{lt-ltb}
use Rattle.tb_replay.proofs.Loops.{counts_end}
use Rattle.tb_replay.proofs.allowing.count_words.Goals as goal

pub returns : goal.returns
returns c =
    let none = counts_end c.args.new.now c.loop-entry.entry-index (omega arith) in
    let all = c.loop-entry.invariant.1 in
    let sum : c.loop-entry.sum ≡ first_counts c.args.new.now = omega (arith, none, all) in
    (lt-ltb (first_counts c.args.new.now) (2 ^ 64) (omega (arith, sum, c.loop-entry.invariant.0)), sum)
