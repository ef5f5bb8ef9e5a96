use Rattle.std.proofs.Common.{◌≡◌, [], ◌∷◌, ℕ, List, ◌∙◌, ap, subst}
use Rattle.std.specs.Fmt.{decimal}
use Rattle.std.specs.Result.{OnOk}
use Rattle.tb_report.specs.Csv.{PutsRows}
use Rattle.tb_lists.specs.Batches.{BatchText}
use Rattle.tb_lists.specs.Csv.{batch_fields}
use Rattle.tb_lists.proofs.csvs.BatchLineTableRow.put.Goals as goal

pub returns : goal.returns
returns g c =
    let view = c.self.view_is in
    let no = c.as_bytes.ensures.value ∙ c.format.ensures.text ∙ ap (λ (m : BatchText). decimal m.no) view in
    let name = c.as_bytes-2.ensures.value ∙ ap (λ (m : BatchText). m.name) view in
    let state = c.as_bytes-3.ensures.value ∙ c.word_of_state.ensures in
    let worker = c.as_bytes-4.ensures.value ∙ ap (λ (m : BatchText). m.worker) view in
    let first = c.as_bytes-5.ensures.value ∙ c.format-2.ensures.text ∙ ap (λ (m : BatchText). decimal m.first) view in
    let sentences = c.as_bytes-6.ensures.value ∙ c.format-3.ensures.text ∙ ap (λ (m : BatchText). decimal m.sentences) view in
    let words = c.as_bytes-7.ensures.value ∙ c.format-4.ensures.text ∙ ap (λ (m : BatchText). decimal m.words) view in
    let pulled = c.as_bytes-8.ensures.value ∙ c.format-5.ensures.text ∙ ap (λ (m : BatchText). decimal m.pulled) view in
    let pulled_words = c.as_bytes-9.ensures.value ∙ c.format-6.ensures.text ∙ ap (λ (m : BatchText). decimal m.pulled_words) view in
    let fields : c.as_bytes.result.now ∷ c.as_bytes-2.result.now ∷ c.as_bytes-3.result.now ∷ c.as_bytes-4.result.now ∷ c.as_bytes-5.result.now ∷ c.as_bytes-6.result.now ∷ c.as_bytes-7.result.now
    ∷ c.as_bytes-8.result.now ∷ c.as_bytes-9.result.now ∷ [] ≡ batch_fields c.args.self.now =
    λ i. no i ∷ name i ∷ state i ∷ worker i ∷ first i ∷ sentences i ∷ words i ∷ pulled i ∷ pulled_words i ∷ [] in
    subst (λ (row : List (List ℕ)). OnOk c.put_row.result (PutsRows g.W.Write.contents c.args.rows.now c.put_row.new.rows (row ∷ []))) fields c.put_row.ensures
