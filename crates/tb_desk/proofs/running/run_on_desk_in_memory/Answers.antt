use Rattle.std.proofs.Common.{inr, rules}
use Rattle.tb_desk.proofs.Telling.{no_words_of, no_words_so}
use Rattle.tb_desk.proofs.running.run_on_desk_in_memory.Goals as goal

pub returns-in-None : goal.returns-in-None
returns-in-None g c =
    let ran = c.run_reported-status.ensures in
    inr (
      search rules,
      record {
        answered = ran.answered;
        written = ran.written;
        ran = ran.ran;
        safe = ran.safe;
        explained = ran.explained;
        told = no_words_so c.args.is_wanted c.reported_in_memory.result (λ unwanted. c.reported_in_memory.ensures.own (no_words_of c.args.is_wanted c.run_reported-status.result.reported ran.told unwanted));
      },
    )
