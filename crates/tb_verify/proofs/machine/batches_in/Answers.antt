use Rattle.std.proofs.Common.{[], map, ap, sym, refl}
use Rattle.tb_tables.specs.Values.{batch_of}
use Rattle.tb_verify.proofs.machine.batches_in.Goals as goal

pub returns-then-not-are_batches-clause-unfit : goal.returns-then-not-are_batches-clause-unfit
returns-then-not-are_batches-clause-unfit c _ = c.if-not-are_batches.ensures.no refl

pub returns-then-not-are_batches-clause-sure : goal.returns-then-not-are_batches-clause-sure
returns-then-not-are_batches-clause-sure c none = absurd (c.if-not-are_batches.ensures.no refl [] (ap (map batch_of) (sym none)))

pub returns-clause-wrong : goal.returns-clause-wrong
returns-clause-wrong c none = absurd (c.if-not-are_batches.ensures.yes refl none)
