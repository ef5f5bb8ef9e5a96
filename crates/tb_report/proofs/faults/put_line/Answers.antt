use Rattle.std.proofs.Common.{◌≡◌, [], ◌∷◌, ℕ, List, ◌∙◌, ap, subst}
use Rattle.std.specs.Result.{OnOk}
use Rattle.tb_report.specs.Csv.{PutsRows}
use Rattle.tb_report.specs.FaultList.{line_fields}
use Rattle.tb_report.specs.FaultList.{FaultText}
use Rattle.tb_report.proofs.faults.put_line.Goals as goal

pub returns : goal.returns
returns g c =
    let view = c.listed.view_is in
    let line = c.as_bytes.ensures.value ∙ c.format.ensures.text in
    let code = c.as_bytes-2.ensures.value ∙ c.format-2.ensures.text in
    let id = c.as_bytes-6.ensures.value ∙ ap (λ (m : FaultText). m.id) view in
    let column = c.as_bytes-7.ensures.value ∙ c.column_of.ensures in
    let value = c.as_bytes-8.ensures.value ∙ ap (λ (m : FaultText). m.value) view in
    let message = c.as_bytes-9.ensures.value ∙ ap (λ (m : FaultText). m.message) view in
    let fields : c.as_bytes.result.now ∷ c.as_bytes-2.result.now ∷ c.as_bytes-3.result.now ∷ c.as_bytes-4.result.now ∷ c.as_bytes-5.result.now ∷ c.as_bytes-6.result.now ∷ c.as_bytes-7.result.now
    ∷ c.as_bytes-8.result.now ∷ c.as_bytes-9.result.now ∷ [] ≡ line_fields c.args.line c.args.code c.args.listed.now =
    λ i. line i ∷ code i ∷ c.as_bytes-3.ensures.value i ∷ c.as_bytes-4.ensures.value i ∷ c.as_bytes-5.ensures.value i ∷ id i ∷ column i ∷ value i ∷ message i ∷ [] in
    subst (λ (row : List (List ℕ)). OnOk c.put_row.result (PutsRows g.W.Write.contents c.args.rows.now c.put_row.new.rows (row ∷ []))) fields c.put_row.ensures
