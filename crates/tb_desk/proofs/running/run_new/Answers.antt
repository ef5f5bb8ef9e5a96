use Rattle.std.proofs.Common.{inl, inr}
use Rattle.tb_desk.proofs.running.run_new.Goals as goal

pub returns-in-Ok : goal.returns-in-Ok
returns-in-Ok g c = inr record { made = c.in-Ok.made; is = c.in-Ok.ensures.desk; written = c.put_opened.ensures }

pub returns-in-Err : goal.returns-in-Err
returns-in-Err g c = inl (c.in-Err.cause, c.put_file_cause.ensures.written, c.put_file_cause.ensures.reported)
