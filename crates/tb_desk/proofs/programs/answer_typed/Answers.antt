use Rattle.tb_desk.proofs.programs.answer_typed.Goals as goal

pub returns : goal.returns
returns g c =
    let run = c.answer_words.ensures in
    record {
      is_wanted = c.args.is_wanted;
      before = c.args.input.now;
      after = c.answer_words.new.input;
      held = g.W.Write.contents c.args.out.now;
      holds = g.W.Write.contents c.answer_words.new.out;
      ended = record {
        written = g.W.Write.contents run.written;
        answered = run.answered;
        done = run.done;
        flushed = run.flushed;
        ends = run.ends;
      };
    }
