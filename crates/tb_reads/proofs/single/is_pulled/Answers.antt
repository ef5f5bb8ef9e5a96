use Rattle.std.proofs.Common.{arith, rules, [], ◌∷◌, pos}
use Rattle.sqlite.specs.declared.types.Value.TheVariants.{Int}
use Rattle.sqlite.specs.Held.{state}
use Rattle.sqlite.specs.Values.{bound_value}
use Rattle.sqlite_value.specs.Value.{owned}
use Rattle.tb_reads.proofs.Queries.{select_one_pulled}
use Rattle.tb_reads.proofs.Failing.{reads_at, one_pulled_reads}
use Rattle.tb_reads.proofs.Picked.{is_among, is_some_row}
use Rattle.tb_reads.proofs.Picks.{one_pulled_shows}
use Rattle.tb_reads.proofs.Shown.{shown_at}
use Rattle.tb_reads.proofs.ReadOnly.{read_failed}
use Rattle.tb_reads.proofs.single.is_pulled.Goals as goal

pub fetch_rows-requires : goal.fetch_rows-requires
fetch_rows-requires g c = reads_at select_one_pulled (Int (pos c.args.sent) ∷ []) (bound_value (owned c.params-to_sql.result) ∷ []) (one_pulled_reads c.args.sent) (search rules)

pub returns-clause-ok : goal.returns-clause-ok
returns-clause-ok g c clean has xs holds =
    let rows = c.in_ok-rows.rows in
    let old = state g.S.Store c.args.conn.now in
    let new = state g.S.Store c.fetch_rows.new.conn in
    let shown = shown_at select_one_pulled old new rows.items (Int (pos c.args.sent) ∷ []) _ (c.in_ok-rows.ensures.shown clean) (search rules) in
    let reported = is_among c.args.sent xs rows.items (one_pulled_shows old new has rows.items c.args.sent shown xs holds) in
    let full = is_some_row c.is_empty.result rows.len c.is_empty.ensures in
    ((λ some. reported.0 (omega (arith, rows.ok.0, full.0 some))), λ within. full.1 (omega (arith, rows.ok.0, reported.1 within)))

pub returns-in_err-rows-clause-read_only : goal.returns-in_err-rows-clause-read_only
returns-in_err-rows-clause-read_only g c = read_failed c.from_residual.result _ c.from_residual.ensures.1 c.fetch_rows.ensures.read_only
