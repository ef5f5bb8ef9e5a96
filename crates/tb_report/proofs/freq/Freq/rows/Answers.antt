use Rattle.std.proofs.Common.{◌∙◌, ap, map}
use Rattle.std.proofs.lemmas.Result.{IfOk-weaker}
use Rattle.tb_report.specs.Tables.{total_of}
use Rattle.tb_report.specs.Kept.{ranked_row}
use Rattle.tb_report.proofs.NoRows.{no_rows}
use Rattle.tb_report.proofs.Ranking.{same_total}
use Rattle.tb_report.proofs.freq.Freq.rows.Goals as goal

pub returns-clause-sum : goal.returns-clause-sum
returns-clause-sum c =
    let ranks = c.in_ok-ranks.ranks.items in
    IfOk-weaker c.owned_rows.result _ _
    (λ v same. ap total_of (same ∙ ap (map ranked_row) c.deref.ensures.value) ∙ same_total c.args.self.now (map ranked_row ranks) c.in_ok-ranks.ensures.ranking)
    c.owned_rows.ensures.rows

pub returns-clause-sure : goal.returns-clause-sure
returns-clause-sure c none =
    let ranks = c.in_ok-ranks.ranks.items in
    c.owned_rows.ensures.sure (c.deref.ensures.value ∙ no_rows ranked_row ranks c.args.self.now c.in_ok-ranks.ensures.ranking.same_rows none)
