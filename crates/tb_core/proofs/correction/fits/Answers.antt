use Rattle.std.proofs.lemmas.Bool.{iff_false}
use Rattle.tb_core.specs.Taking.{other_name, other_text, nothing_new}
use Rattle.tb_core.proofs.correction.fits.Goals as goal

pub returns-then-not-same_name-clause-unfit : goal.returns-then-not-same_name-clause-unfit
returns-then-not-same_name-clause-unfit g c = other_name (iff_false c.same_name.ensures c.if-not-same_name.true)

pub returns-then-not-same_value-clause-unfit : goal.returns-then-not-same_value-clause-unfit
returns-then-not-same_value-clause-unfit g c = other_text (c.same_name.ensures.0 c.if-not-same_name.false) (iff_false c.same_value.ensures c.if-not-same_value.true)

pub returns-then-same_block-clause-unfit : goal.returns-then-same_block-clause-unfit
returns-then-same_block-clause-unfit g c = nothing_new (c.same_block.ensures.0 c.if-same_block.true)
