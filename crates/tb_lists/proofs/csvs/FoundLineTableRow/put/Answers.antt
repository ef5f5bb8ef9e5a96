use Rattle.std.proofs.Common.{◌≡◌, [], ◌∷◌, ℕ, List, ◌∙◌, ap, subst}
use Rattle.std.specs.Fmt.{decimal}
use Rattle.std.specs.Result.{OnOk}
use Rattle.tb_report.specs.Csv.{PutsRows}
use Rattle.tb_lists.specs.Found.{FoundText}
use Rattle.tb_lists.specs.Csv.{found_fields, yes_or_no}
use Rattle.tb_lists.proofs.csvs.FoundLineTableRow.put.Goals as goal

pub returns : goal.returns
returns g c =
    let view = c.self.view_is in
    let no = c.as_bytes.ensures.value ∙ c.format.ensures.text ∙ ap (λ (m : FoundText). decimal m.no) view in
    let batch = c.as_bytes-2.ensures.value ∙ ap (λ (m : FoundText). m.batch) view in
    let rev = c.as_bytes-3.ensures.value ∙ c.format-2.ensures.text ∙ ap (λ (m : FoundText). decimal m.rev) view in
    let words = c.as_bytes-4.ensures.value ∙ c.format-3.ensures.text ∙ ap (λ (m : FoundText). decimal m.words) view in
    let pulled = c.as_bytes-5.ensures.value ∙ c.word_of_pulled.ensures ∙ ap (λ (m : FoundText). yes_or_no m.pulled) view in
    let fields : c.as_bytes.result.now ∷ c.as_bytes-2.result.now ∷ c.as_bytes-3.result.now ∷ c.as_bytes-4.result.now ∷ c.as_bytes-5.result.now ∷ [] ≡ found_fields c.args.self.now =
    λ i. no i ∷ batch i ∷ rev i ∷ words i ∷ pulled i ∷ [] in
    subst (λ (row : List (List ℕ)). OnOk c.put_row.result (PutsRows g.W.Write.contents c.args.rows.now c.put_row.new.rows (row ∷ []))) fields c.put_row.ensures
