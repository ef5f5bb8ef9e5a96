use Rattle.std.proofs.Common.{◌≡◌, [], ◌∷◌, ℕ, List, ◌∙◌, ap, subst}
use Rattle.std.specs.Fmt.{decimal}
use Rattle.std.specs.Result.{OnOk}
use Rattle.tb_report.specs.Csv.{PutsRows}
use Rattle.tb_lists.specs.Revisions.{RevisionText}
use Rattle.tb_lists.specs.Csv.{revision_fields}
use Rattle.tb_lists.proofs.csvs.RevisionLineTableRow.put.Goals as goal

pub returns : goal.returns
returns g c =
    let view = c.self.view_is in
    let rev = c.as_bytes.ensures.value ∙ c.format.ensures.text ∙ ap (λ (m : RevisionText). decimal m.rev) view in
    let who = c.as_bytes-2.ensures.value ∙ ap (λ (m : RevisionText). m.who) view in
    let kind = c.as_bytes-3.ensures.value ∙ c.word_of_kind.ensures in
    let move_no = c.as_bytes-4.ensures.value ∙ c.format-2.ensures.text ∙ ap (λ (m : RevisionText). decimal m.move_no) view in
    let fields : c.as_bytes.result.now ∷ c.as_bytes-2.result.now ∷ c.as_bytes-3.result.now ∷ c.as_bytes-4.result.now ∷ [] ≡ revision_fields c.args.self.now =
    λ i. rev i ∷ who i ∷ kind i ∷ move_no i ∷ [] in
    subst (λ (row : List (List ℕ)). OnOk c.put_row.result (PutsRows g.W.Write.contents c.args.rows.now c.put_row.new.rows (row ∷ []))) fields c.put_row.ensures
