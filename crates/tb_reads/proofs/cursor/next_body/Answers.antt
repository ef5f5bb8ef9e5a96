use Rattle.std.proofs.Common.{refl, sym, subst}
use Rattle.std.proofs.lemmas.Result.{err_from_is_err_and}
use Rattle.sqlite.specs.Held.{state}
use Rattle.sqlite.specs.Given.{row_if}
use Rattle.tb_reads.specs.Failing.{IsReadFault, IsReadWant}
use Rattle.tb_reads.proofs.Lent.{stands_at, goes_on, always_readable, advance_fails}
use Rattle.tb_reads.proofs.Shown.{if_ok, on_ok}
use Rattle.tb_reads.proofs.Staying.{unchanged_holds, stopped_stays}
use Rattle.tb_reads.proofs.Failing.{if_err, fault_of}
use Rattle.tb_tables.proofs.Causes.{failed_wants}
use Rattle.tb_reads.proofs.cursor.next_body.Goals as goal

pub returns : goal.returns
returns g c =
    let old = c.args.rows.now.conn.now in
    let now = c.advance.new.self in
    let row = row_if now.has_row now.conn.now in
    let moved = c.in_ok-advance.ensures in
    let found = c.body_at.result in (
      (
        refl,
        (λ _. tt),
        record {
          same_reference = moved.same_reference;
          ok = λ clean. if_ok found c.body_at.ensures.ok (λ body reported xs left. goes_on g.S.Store now.conn.now row body xs (stands_at g.S.Store old now.conn.now (moved.same clean) row xs left (moved.ok clean)) reported);
          form = λ clean failed xs left.
              let none = c.body_at.ensures.form failed in
              always_readable g.S.Store old now.conn.now row xs left (stands_at g.S.Store old now.conn.now (moved.same clean) row xs left (moved.ok clean)) none.0 none.1;
          fails = λ clean unlimited. if_err found c.body_at.ensures.fault (λ e form xs left. subst IsReadFault (sym form) tt);
          cause = λ good clean unlimited. if_err found c.body_at.ensures.fault (λ e form xs left. subst IsReadWant (sym form) tt);
          same = λ clean. on_ok found (moved.same clean);
          mode = moved.mode;
          kept = λ clean opened d holds. unchanged_holds g.S.Store old now.conn.now d holds (moved.same clean);
          survives = moved.survives;
        },
      ),
      record { ends = tt },
    )

pub returns-in_err-advance : goal.returns-in_err-advance
returns-in_err-advance g c =
    let old = c.args.rows.now.conn.now in
    let new = c.advance.new.self.conn.now in
    let reported = err_from_is_err_and c.from_residual.result c.from_residual.ensures.1 in
    let moved = c.in_err-advance.ensures in (
      (
        refl,
        (λ _. tt),
        rw reported.1 (record {
          same_reference = moved.same_reference;
          ok = λ clean. tt;
          form = λ clean failed xs left. let from_it = reported.2 in absurd cc;
          fails = λ clean unlimited xs left. subst IsReadFault (sym reported.2) (fault_of (advance_fails g.S.Store old new _ (moved.err clean) unlimited xs left));
          cause = λ good clean unlimited xs left. subst IsReadWant (sym reported.2) (failed_wants (state g.S.Store old) (state g.S.Store new) good _ (advance_fails g.S.Store old new _ (moved.err clean) unlimited xs left));
          same = λ clean. tt;
          mode = moved.mode;
          kept = λ clean opened d holds. stopped_stays g.S.Store old new d _ holds opened (moved.kept clean);
          survives = moved.survives;
        }),
      ),
      record { ends = tt },
    )
