use Rattle.std.proofs.Common.{◌≡◌, ◌∙◌, List, None, Some, Ok, Err, ap, inl, inr, map, sym}
use Rattle.std.proofs.lemmas.Result.{err_from_is_err_and}
use Rattle.tb_refine.specs.DeskTables.{batch_record}
use Rattle.std.specs.Prelude.{IsTrue}
use Rattle.tb_host.proofs.Firsts.{at_said, ended_so, ends_so, rows_first, rows_so, stopped_so, unread_first}
use Rattle.tb_host.specs.Looked.{IsBatchRow, IsFirstInBatches, IsFirstInSentences, IsRowOff, IsUnread, Said, Tells}
use Rattle.tb_host.specs.declared.misfit.Table.TheVariants.{Batches}
use Rattle.tb_tables.specs.declared.rows.BatchRow.{BatchRow}
use Rattle.tb_host.proofs.misfit.look_from_batches.Goals as goal

pub returns-in_err-rows : goal.returns-in_err-rows
returns-in_err-rows g c said is =
    let p = err_from_is_err_and c.from_residual.result c.from_residual.ensures.1 in
    let told = at_said _ said (λ (s : Said). Tells s.may_fail s.batches c.batches-read.result (λ rows. rows.items)) is c.batches-read.ensures.told in
    stopped_so (IsTrue said.may_fail) (λ z. (said.batches ≡ None) × IsUnread Batches (said.numbers Batches) z) (IsFirstInBatches said) c.from_residual.result p.0 c.in_err-rows.field-0.0 p.1 p.2
    (rows_so said.may_fail c.batches-read.result (Err c.in_err-rows.field-0.0) Batches said.batches (λ rows. rows.items) (IsUnread Batches (said.numbers Batches)) c.in_err-rows.ensures.rows (c.in_err-rows.ensures.first said (c.batches-read.ensures.still ∙ is)) told)
    (λ z h. unread_first said.batches _ _ z h)

pub returns-in_err-batches : goal.returns-in_err-batches
returns-in_err-batches g c said is =
    let p = err_from_is_err_and c.from_residual-in_err-batches.result c.from_residual-in_err-batches.ensures.1 in
    let told = at_said _ said (λ (s : Said). Tells s.may_fail s.batches c.batches-read.result (λ rows. rows.items)) is c.batches-read.ensures.told in
    let kept : said.batches ≡ Some c.as_slice.result.now = rows_so said.may_fail c.batches-read.result (Ok c.in_ok-rows.rows) Batches said.batches (λ rows. rows.items) (IsUnread Batches (said.numbers Batches)) c.in_ok-rows.ensures.rows (c.in_ok-rows.ensures.first said (c.batches-read.ensures.still ∙ is)) told
    ∙ ap (λ (z : List BatchRow). Some z) (sym c.as_slice.ensures.value) in
    stopped_so (IsTrue said.may_fail) (IsRowOff Batches (λ _. IsBatchRow) c.as_slice.result.now) (IsFirstInBatches said) c.from_residual-in_err-batches.result p.0 c.in_err-batches.field-0.0 p.1 p.2
    (ends_so (IsTrue said.may_fail) (IsRowOff Batches (λ _. IsBatchRow) c.as_slice.result.now) c.in_err-batches.field-0.0 c.in_err-batches.ensures.wrong)
    (λ z h. rows_first said.batches _ _ z c.as_slice.result.now kept (inl h))

pub returns : goal.returns
returns g c said is =
    let told = at_said _ said (λ (s : Said). Tells s.may_fail s.batches c.batches-read.result (λ rows. rows.items)) is c.batches-read.ensures.told in
    let kept : said.batches ≡ Some c.as_slice.result.now = rows_so said.may_fail c.batches-read.result (Ok c.in_ok-rows.rows) Batches said.batches (λ rows. rows.items) (IsUnread Batches (said.numbers Batches)) c.in_ok-rows.ensures.rows (c.in_ok-rows.ensures.first said (c.batches-read.ensures.still ∙ is)) told
    ∙ ap (λ (z : List BatchRow). Some z) (sym c.as_slice.ensures.value) in
    ended_so (IsTrue said.may_fail) (IsFirstInSentences said c.as_slice-2.result.now) (IsFirstInBatches said) c.look_from_sentences.result (c.look_from_sentences.ensures said (c.in_ok-rows.ensures.still ∙ c.batches-read.ensures.still ∙ is))
    (λ z h. rows_first said.batches _ _ z c.as_slice.result.now kept (inr (c.as_slice-2.result.now, ap (map batch_record) c.as_slice-2.ensures.value ∙ c.in_ok-batches.ensures.right.0, c.in_ok-batches.ensures.right.1, h)))
