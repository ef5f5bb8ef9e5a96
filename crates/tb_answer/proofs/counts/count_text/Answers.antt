use Rattle.std.proofs.Common.{arith, inr, subst, sym}
use Rattle.sqlite.specs.Held.{state}
use Rattle.sqlite.specs.State.{HasCleanDisk}
use Rattle.tb_tables.proofs.Causes.{faultless_next}
use Rattle.tb_answer.specs.Commanded.{HasFailed}
use Rattle.tb_answer.specs.Found.{IsReportedOfQuery}
use Rattle.tb_answer.proofs.Failing.{and_ok, at_err, both_err, fails_for, if_err, if_ok, on_ok}
use Rattle.tb_answer.proofs.Handed.{only_then, then_err, then_ok}
use Rattle.tb_answer.proofs.OrReply.{err_each}
use Rattle.tb_answer.proofs.counts.count_text.Goals as goal

pub returns : goal.returns
returns g c = record {
  answered = λ clean.
      let mid : HasCleanDisk (state g.S.Store c.accepted.new.desk.conn) = omega (arith, clean, c.counted_if.ensures.commits_nothing.clean) in
      then_ok c.accepted.result c.counted_if.result (if_err c.accepted.result c.counted_if.ensures.refused (λ r it. it.0))
      (and_ok _ _ c.accepted.result (c.accepted.ensures.read.answered mid) (on_ok _ c.accepted.result (c.accepted.ensures.stays mid)))
      (if_ok c.accepted.result c.counted_if.ensures.counted (λ q h. h clean))
      (λ q v asked is s stands.
      let it = is s (asked.1 s stands) in
      (q, asked.0 s stands, it.0, it.1, it.2, it.3, it.4, it.5, it.6, it.7));
  reported = λ clean.
      let mid : HasCleanDisk (state g.S.Store c.accepted.new.desk.conn) = omega (arith, clean, c.counted_if.ensures.commits_nothing.clean) in
      let one = c.accepted.ensures.commits_nothing in
      let two = c.counted_if.ensures.commits_nothing in
      let later : HasFailed g.S.Store c.accepted.new.desk c.counted_if.new.desk → HasFailed g.S.Store c.args.desk.now c.counted_if.new.desk = λ bad good. bad (faultless_next (state g.S.Store c.args.desk.now.conn) (state g.S.Store c.accepted.new.desk.conn) (state g.S.Store c.counted_if.new.desk.conn) good one mid two.counts) in
      err_each _ _ c.counted_if.result (λ s stands.
      then_err c.accepted.result c.counted_if.result (if_err c.accepted.result c.counted_if.ensures.refused (λ r it. it.0))
      (both_err c.accepted.result (at_err _ _ c.accepted.result (c.accepted.ensures.read.reported mid) s stands) c.counted_if.ensures.refused (λ r why it.
      subst (λ d. IsReportedOfQuery (HasFailed g.S.Store c.args.desk.now d) c.args.desk.now.limits s c.args.count.query.now c.args.count.strategy r) (sym it.1) why))
      (and_ok _ _ c.accepted.result (c.accepted.ensures.read.answered mid) (on_ok _ c.accepted.result (c.accepted.ensures.stays mid)))
      (if_ok c.accepted.result c.counted_if.ensures.failed (λ q h. h clean))
      (λ q r asked failed. inr (q, (asked.0 s stands).0, inr (fails_for r later (failed s (asked.1 s stands))))));
  read_only =
      only_then g.S.Store c.args.desk.now c.accepted.new.desk c.counted_if.new.desk c.accepted.result (if_err c.accepted.result c.counted_if.ensures.refused (λ r it. it.1))
      c.accepted.ensures.stays c.accepted.ensures.read.read_only c.accepted.ensures.commits_nothing c.counted_if.ensures.read_only c.counted_if.ensures.commits_nothing;
}
