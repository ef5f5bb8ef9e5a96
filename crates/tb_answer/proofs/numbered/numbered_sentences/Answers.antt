use Rattle.std.proofs.Common.{arith, inr, subst, sym}
use Rattle.sqlite.specs.Held.{state}
use Rattle.sqlite.specs.State.{HasCleanDisk}
use Rattle.tb_tables.proofs.Causes.{faultless_next}
use Rattle.tb_answer.specs.Asked.{or_reply}
use Rattle.tb_answer.specs.Commanded.{HasFailed, IsFailure}
use Rattle.tb_answer.proofs.Failing.{and_ok, both_err, if_err, if_ok, on_ok}
use Rattle.tb_answer.proofs.Handed.{only_then, then_err, then_ok}
use Rattle.tb_answer.proofs.Numbering.{reported_later}
use Rattle.tb_answer.proofs.OrReply.{err_each, failure_told, handed, or_reply_ok}
use Rattle.tb_answer.proofs.Questioned.{only_asked}
use Rattle.tb_answer.proofs.numbered.numbered_sentences.Goals as goal

pub returns : goal.returns
returns g c = record {
  answered = λ clean.
      let mid : HasCleanDisk (state g.S.Store c.batches.new.self.conn) = omega (arith, clean, c.sentences_in.ensures.commits_nothing.clean) in
      let unread = handed _ c.batches.result c.sentences_in.result c.sentences_in.ensures.unread in
      then_ok (or_reply c.batches.result) c.sentences_in.result (if_err (or_reply c.batches.result) unread (λ r it. it.0))
      (or_reply_ok _ c.batches.result (and_ok _ _ c.batches.result (c.batches.ensures.answered mid) (on_ok _ c.batches.result (c.batches.ensures.question.stays mid))))
      (or_reply_ok _ c.batches.result (if_ok c.batches.result c.sentences_in.ensures.read (λ all h. h.answered clean)))
      (λ all v known is s stands. is s (known.1 s stands) (known.0 s stands));
  reported = λ clean.
      let one = c.batches.ensures.question.commits_nothing in
      let two = c.sentences_in.ensures.commits_nothing in
      let mid : HasCleanDisk (state g.S.Store c.batches.new.self.conn) = omega (arith, clean, two.clean) in
      let later : HasFailed g.S.Store c.batches.new.self c.sentences_in.new.desk → HasFailed g.S.Store c.args.desk.now c.sentences_in.new.desk = λ bad good. bad (faultless_next (state g.S.Store c.args.desk.now.conn) (state g.S.Store c.batches.new.self.conn) (state g.S.Store c.sentences_in.new.desk.conn) good one mid two.counts) in
      let unread = handed _ c.batches.result c.sentences_in.result c.sentences_in.ensures.unread in
      err_each _ _ c.sentences_in.result (λ s stands.
      then_err (or_reply c.batches.result) c.sentences_in.result (if_err (or_reply c.batches.result) unread (λ r it. it.0))
      (both_err (or_reply c.batches.result) (failure_told c.batches.result c.batches.ensures.never_refuses (c.batches.ensures.question.fails mid s stands) (c.batches.ensures.question.cause mid s stands) c.batches.ensures.output) unread
      (λ r failed it. inr (subst (λ d. IsFailure (HasFailed g.S.Store c.args.desk.now d) r) (sym it.1) failed)))
      (or_reply_ok _ c.batches.result (and_ok _ _ c.batches.result (c.batches.ensures.answered mid) (on_ok _ c.batches.result (c.batches.ensures.question.stays mid))))
      (or_reply_ok _ c.batches.result (if_ok c.batches.result c.sentences_in.ensures.read (λ all h. h.reported clean)))
      (λ all r known why. reported_later s c.args.no r later (why s (known.1 s stands) (known.0 s stands))));
  read_only =
      only_then g.S.Store c.args.desk.now c.batches.new.self c.sentences_in.new.desk c.batches.result (if_err c.batches.result c.sentences_in.ensures.unread (λ e it. it.1))
      c.batches.ensures.question.stays (only_asked c.batches.ensures.question) c.batches.ensures.question.commits_nothing c.sentences_in.ensures.read_only c.sentences_in.ensures.commits_nothing;
}
