use Rattle.std.proofs.Common.{[], map, ap, refl}
use Rattle.tb_tables.specs.Values.{move_of}
use Rattle.tb_refine.proofs.moving.read_moves.Goals as goal

pub returns-then-not-are_moves-clause-known : goal.returns-then-not-are_moves-clause-known
returns-then-not-are_moves-clause-known c _ = c.if-not-are_moves.ensures.no refl

pub returns-then-not-are_moves-clause-sure : goal.returns-then-not-are_moves-clause-sure
returns-then-not-are_moves-clause-sure c none = absurd (c.if-not-are_moves.ensures.no refl [] (ap (map move_of) none))

pub returns-clause-wrong : goal.returns-clause-wrong
returns-clause-wrong c none = absurd (c.if-not-are_moves.ensures.yes refl none)
