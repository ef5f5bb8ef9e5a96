use Rattle.std.proofs.Common.{inl, inr, refl, subst, sym}
use Rattle.tb_desk.specs.Drawing.{IsDrawn}
use Rattle.tb_desk.proofs.Telling.{checked_so}
use Rattle.tb_desk.proofs.drawing.answer_input.Goals as goal

pub returns-in-Ok : goal.returns-in-Ok
returns-in-Ok g c = inl (c.as_slice.result.now, subst (IsDrawn c.args.input.now) (sym c.as_slice.ensures.value) c.in-Ok.ensures.drawn, c.put_body.ensures, refl)

pub returns-in-Err : goal.returns-in-Err
returns-in-Err g c = inr (c.in-Err.reply, c.in-Err.ensures.undrawn, c.put_check.ensures, checked_so c.args.is_wanted c.in-Err.reply c.reported_of_check.result c.reported_of_check.ensures)
