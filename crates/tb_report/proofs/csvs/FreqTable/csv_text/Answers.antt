use Rattle.std.proofs.Common.{◌≡◌, ◌∷◌, map, ap, ◌∙◌}
use Rattle.std.proofs.lemmas.Result.{IfOk-weaker}
use Rattle.tb_report.specs.Csv.{csv_of, freq_fields, freq_head}
use Rattle.tb_report.specs.Kept.{ranked_row}
use Rattle.tb_report.proofs.CsvRows.{composed}
use Rattle.tb_report.proofs.csvs.FreqTable.csv_text.Goals as goal

pub returns : goal.returns
returns c =
    let ranks = c.in_ok-ranks.ranks.items in
    let rows : map (λ rank. freq_fields (ranked_row rank)) c.deref.result.now ≡ map freq_fields (map ranked_row ranks) =
    ap (map (λ rank. freq_fields (ranked_row rank))) c.deref.ensures.value ∙ composed ranks in
    IfOk-weaker c.rows_text.result _ _ (λ v is. (map ranked_row ranks, c.in_ok-ranks.ensures.ranking, is ∙ ap (λ lines. csv_of (freq_head ∷ lines)) rows)) c.rows_text.ensures
