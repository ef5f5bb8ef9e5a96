use Rattle.std.proofs.Common.{◌-◌, sym, ◌∙◌, arith}
use Rattle.tb_verify.proofs.Turns.{new_end}
use Rattle.tb_verify.proofs.course.are_all_new.Goals as goal

pub returns : goal.returns
returns c = sym (new_end c.args.rows.now (c.loop-i.i - 1) (omega (arith, c.loop-i-test.false, c.loop-i.auto.i))) ∙ c.loop-i.invariant
