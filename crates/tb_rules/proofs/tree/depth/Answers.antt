use Rattle.std.proofs.Common.{◌+◌, arith}
use Rattle.tb_rules.proofs.Walks.{after, too_far}
use Rattle.tb_rules.proofs.tree.depth.Goals as goal

pub returns-then-rest-heads : goal.returns-then-rest-heads
returns-then-rest-heads c =
    let heads = c.args.heads.now in
    let steps = c.loop-steps.steps in
    too_far heads c.args.word (steps + c.in-Some.rest) (after heads steps c.in-Some.rest c.args.word c.loop-steps.at c.loop-steps.invariant.led c.loop-steps.invariant.not_yet c.in-Some.ensures.depth) (omega arith)

pub returns-in-Some : goal.returns-in-Some
returns-in-Some c =
    let heads = c.args.heads.now in
    let steps = c.loop-steps.steps in
    (after heads steps c.in-Some.rest c.args.word c.loop-steps.at c.loop-steps.invariant.led c.loop-steps.invariant.not_yet c.in-Some.ensures.depth, omega arith)
