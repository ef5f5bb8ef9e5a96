use Rattle.std.proofs.Common.{ℕ, List, Result, inl, inr, refl}
use Rattle.tb_check.specs.Check.{file_limit}
use Rattle.tb_http.specs.declared.replies.Reply.{Reply}
use Rattle.tb_cli.specs.Lines.{said_by}
use Rattle.tb_answer.specs.Taken.{IsTaken}
use Rattle.tb_desk.specs.Running.{taken_of}
use Rattle.tb_desk.proofs.Ran.{body_asked, input_left, taken_so}
use Rattle.tb_desk.proofs.running.run_in_memory.Goals as goal

pub returns-in-Err-clause-ended : goal.returns-in-Err-clause-ended
returns-in-Err-clause-ended g c = inl ((c.put_memory.ensures.written, c.put_memory.ensures.reported), refl)

pub returns-in-Ok-clause-ended : goal.returns-in-Ok-clause-ended
returns-in-Ok-clause-ended g c =
    let taken : Result (List ℕ) Reply → Type 0 = λ t. IsTaken g.R.Source.IsFailure g.R.Source.left file_limit (said_by c.args.line.now) c.args.reader.now c.read_body-body.new.reader t in
    elim c.run_on_desk_in_memory.ensures [
      | inl served ↦ inr (inl served)
      | inr ran ↦ inr (inr record {
        unserved = ran.0;
        opened = c.in-Ok.desk;
        ended = c.run_on_desk_in_memory.new.desk;
        is = c.in-Ok.ensures;
        ran = (taken_of (λ v. v.items) c.read_body-body.result, taken_so (λ v. v.items) c.read_body-body.result taken c.read_body-body.ensures.taken, ran.1);
      })
    ]

pub returns-in-Ok-clause-input : goal.returns-in-Ok-clause-input
returns-in-Ok-clause-input g c =
    input_left g.R.Source.IsFailure g.R.Source.left file_limit (said_by c.args.line.now) c.args.reader.now c.read_body-body.new.reader (λ v. v.items) c.read_body-body.result c.read_body-body.ensures.taken

pub returns-in-Ok-clause-asked : goal.returns-in-Ok-clause-asked
returns-in-Ok-clause-asked g c =
    body_asked g.R.Source.IsFailure g.R.Source.left g.R.Source.pieces (said_by c.args.line.now) c.args.reader.now c.read_body-body.new.reader (λ v. v.items) c.read_body-body.result c.read_body-body.ensures.taken c.read_body-body.ensures.asked
