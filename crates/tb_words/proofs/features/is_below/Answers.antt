use Rattle.std.proofs.Common.{sym, ◌∙◌, arith}
use Rattle.tb_fields.proofs.Ascents.{below_shorter, below_ended}
use Rattle.tb_words.proofs.features.is_below.Goals as goal

pub returns-then-i-second : goal.returns-then-i-second
returns-then-i-second c = sym (below_shorter c.args.first.now c.args.second.now c.loop-i.i (omega arith) (omega arith)) ∙ c.loop-i.invariant

pub returns : goal.returns
returns c = sym (below_ended c.args.first.now c.args.second.now c.loop-i.i (omega arith)) ∙ c.loop-i.invariant
