use Rattle.tb_verify.proofs.Seen.{not_good, all_named_if, reported_false}
use Rattle.tb_verify.proofs.apart.are_batches_apart.Goals as goal

pub returns-then-not-are_good-clause-named : goal.returns-then-not-are_good-clause-named
returns-then-not-are_good-clause-named c = reported_false (not_good c.args.rows.now c.are_good.result c.are_good.ensures c.if-not-are_good.true)

pub returns-clause-named : goal.returns-clause-named
returns-clause-named c = all_named_if c.args.rows.now c.are_good.result c.are_apart.result c.are_good.ensures c.if-not-are_good.false c.are_apart.ensures.apart
