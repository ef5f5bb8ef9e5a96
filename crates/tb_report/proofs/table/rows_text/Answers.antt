use Rattle.std.proofs.Common.{[], ◌∷◌, Some, map}
use Rattle.std.proofs.lemmas.Result.{IfOk-weaker}
use Rattle.tb_report.proofs.CsvRows.{puts_both, whole_table}
use Rattle.tb_report.proofs.table.rows_text.Goals as goal

pub returns : goal.returns
returns g c =
    let fresh = c.new_rows-table in
    let head = g.R.TableRow.head in
    let rows = map g.R.TableRow.fields c.args.rows.now in
    let all = puts_both (λ w. Some w.items) fresh.result c.put_head.new.rows c.put_rows.new.rows (head ∷ []) rows c.in_ok-put_head.ensures c.in_ok-put_rows.ensures.put in
    IfOk-weaker c.finish.result _ _ (λ v kept. whole_table (λ w. Some w.items) fresh.result c.put_rows.new.rows (head ∷ rows) v.items fresh.ensures.between fresh.ensures.empty all kept) c.finish.ensures
