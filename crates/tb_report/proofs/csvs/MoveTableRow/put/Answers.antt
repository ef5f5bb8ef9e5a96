use Rattle.std.proofs.Common.{◌≡◌, [], ◌∷◌, ℕ, List, ◌∙◌, ap, subst}
use Rattle.std.specs.Fmt.{decimal}
use Rattle.std.specs.Result.{OnOk}
use Rattle.tb_core.specs.Moves.{MoveText}
use Rattle.tb_report.specs.Csv.{PutsRows, move_fields}
use Rattle.tb_report.proofs.csvs.MoveTableRow.put.Goals as goal

pub returns : goal.returns
returns g c =
    let view = c.self.view_is in
    let no = c.as_bytes.ensures.value ∙ c.format.ensures.text ∙ ap (λ (m : MoveText). decimal m.no) view in
    let kind = c.as_bytes-2.ensures.value ∙ c.word_of_kind.ensures in
    let batch = c.as_bytes-3.ensures.value ∙ c.format-2.ensures.text ∙ ap (λ (m : MoveText). decimal m.batch) view in
    let sent = c.as_bytes-4.ensures.value ∙ c.format-3.ensures.text ∙ ap (λ (m : MoveText). decimal m.sent) view in
    let from = c.as_bytes-5.ensures.value ∙ c.word_from.ensures in
    let to = c.as_bytes-6.ensures.value ∙ c.word_to.ensures in
    let sentences = c.as_bytes-7.ensures.value ∙ c.format-4.ensures.text ∙ ap (λ (m : MoveText). decimal m.sentences) view in
    let words_out = c.as_bytes-8.ensures.value ∙ c.format-5.ensures.text ∙ ap (λ (m : MoveText). decimal m.words_out) view in
    let words_in = c.as_bytes-9.ensures.value ∙ c.format-6.ensures.text ∙ ap (λ (m : MoveText). decimal m.words_in) view in
    let who = c.as_bytes-10.ensures.value ∙ ap (λ (m : MoveText). m.who) view in
    let fields : c.as_bytes.result.now ∷ c.as_bytes-2.result.now ∷ c.as_bytes-3.result.now ∷ c.as_bytes-4.result.now ∷ c.as_bytes-5.result.now ∷ c.as_bytes-6.result.now ∷ c.as_bytes-7.result.now
    ∷ c.as_bytes-8.result.now ∷ c.as_bytes-9.result.now ∷ c.as_bytes-10.result.now ∷ [] ≡ move_fields c.args.self.now =
    λ i. no i ∷ kind i ∷ batch i ∷ sent i ∷ from i ∷ to i ∷ sentences i ∷ words_out i ∷ words_in i ∷ who i ∷ [] in
    subst (λ (row : List (List ℕ)). OnOk c.put_row.result (PutsRows g.W.Write.contents c.args.rows.now c.put_row.new.rows (row ∷ []))) fields c.put_row.ensures
