use Rattle.std.proofs.Common.{◌≡◌, [], ◌∷◌, ℕ, List, Some, map, subst}
use Rattle.std.proofs.lemmas.Result.{IfOk-weaker}
use Rattle.tb_report.specs.Csv.{PutsRows, all_states, totals_fields, totals_head}
use Rattle.tb_report.proofs.CsvRows.{puts_both, whole_table}
use Rattle.tb_report.proofs.csvs.TotalsTable.csv_text.Goals as goal

pub returns : goal.returns
returns c =
    let fresh = c.new_rows-rows in
    let head : c.as_bytes.result.now ∷ c.as_bytes-2.result.now ∷ c.as_bytes-3.result.now ∷ [] ≡ totals_head =
    λ i. c.as_bytes.ensures.value i ∷ c.as_bytes-2.ensures.value i ∷ c.as_bytes-3.ensures.value i ∷ [] in
    let first = subst (λ (fields : List (List ℕ)). PutsRows (λ w. Some w.items) fresh.result c.put_row.new.rows (fields ∷ [])) head c.in_ok-put_row.ensures in
    let all = puts_both (λ w. Some w.items) fresh.result c.put_row.new.rows c.put_states.new.rows (totals_head ∷ []) (map (totals_fields c.args.self.now) all_states) first c.in_ok-put_states.ensures.put in
    IfOk-weaker c.finish.result _ _ (λ v kept. whole_table (λ w. Some w.items) fresh.result c.put_states.new.rows (totals_head ∷ map (totals_fields c.args.self.now) all_states) v.items fresh.ensures.between fresh.ensures.empty all kept) c.finish.ensures
