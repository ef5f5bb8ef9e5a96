use Rattle.std.proofs.Common.{[], ◌∷◌, ◌++◌, Some, map}
use Rattle.std.proofs.lemmas.Result.{IfOk-weaker}
use Rattle.tb_report.specs.FaultList.{fault_fields, faults_head, last_rows}
use Rattle.tb_report.proofs.CsvRows.{puts_both, whole_table}
use Rattle.tb_report.proofs.faults.faults_text.Goals as goal

pub returns : goal.returns
returns c =
    let fresh = c.new_rows-rows in
    let faults = map fault_fields c.args.faults.now in
    let last = last_rows c.args.more in
    let ends = puts_both (λ w. Some w.items) c.put_head.new.rows c.put_rows.new.rows c.put_last.new.rows faults last c.in_ok-put_rows.ensures.put c.in_ok-put_last.ensures.put in
    let all = puts_both (λ w. Some w.items) fresh.result c.put_head.new.rows c.put_last.new.rows (faults_head ∷ []) (faults ++ last) c.in_ok-put_head.ensures ends in
    IfOk-weaker c.finish.result _ _ (λ v kept. whole_table (λ w. Some w.items) fresh.result c.put_last.new.rows (faults_head ∷ (faults ++ last)) v.items fresh.ensures.between fresh.ensures.empty all kept) c.finish.ensures
