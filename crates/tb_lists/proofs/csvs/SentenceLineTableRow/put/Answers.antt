use Rattle.std.proofs.Common.{◌≡◌, [], ◌∷◌, ℕ, List, ◌∙◌, ap, subst}
use Rattle.std.specs.Fmt.{decimal}
use Rattle.std.specs.Result.{OnOk}
use Rattle.tb_report.specs.Csv.{PutsRows}
use Rattle.tb_lists.specs.Sentences.{SentenceText}
use Rattle.tb_lists.specs.Csv.{sentence_fields, yes_or_no}
use Rattle.tb_lists.proofs.csvs.SentenceLineTableRow.put.Goals as goal

pub returns : goal.returns
returns g c =
    let view = c.self.view_is in
    let no = c.as_bytes.ensures.value ∙ c.format.ensures.text ∙ ap (λ (m : SentenceText). decimal m.no) view in
    let sent_id = c.as_bytes-2.ensures.value ∙ ap (λ (m : SentenceText). m.sent_id) view in
    let rev = c.as_bytes-3.ensures.value ∙ c.format-2.ensures.text ∙ ap (λ (m : SentenceText). decimal m.rev) view in
    let who = c.as_bytes-4.ensures.value ∙ ap (λ (m : SentenceText). m.who) view in
    let words = c.as_bytes-5.ensures.value ∙ c.format-3.ensures.text ∙ ap (λ (m : SentenceText). decimal m.words) view in
    let pulled = c.as_bytes-6.ensures.value ∙ c.word_of_pulled.ensures ∙ ap (λ (m : SentenceText). yes_or_no m.pulled) view in
    let text = c.as_bytes-7.ensures.value ∙ ap (λ (m : SentenceText). m.text) view in
    let fields : c.as_bytes.result.now ∷ c.as_bytes-2.result.now ∷ c.as_bytes-3.result.now ∷ c.as_bytes-4.result.now ∷ c.as_bytes-5.result.now ∷ c.as_bytes-6.result.now ∷ c.as_bytes-7.result.now ∷ [] ≡ sentence_fields c.args.self.now =
    λ i. no i ∷ sent_id i ∷ rev i ∷ who i ∷ words i ∷ pulled i ∷ text i ∷ [] in
    subst (λ (row : List (List ℕ)). OnOk c.put_row.result (PutsRows g.W.Write.contents c.args.rows.now c.put_row.new.rows (row ∷ []))) fields c.put_row.ensures
