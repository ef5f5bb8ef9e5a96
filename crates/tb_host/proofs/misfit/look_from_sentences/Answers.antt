use Rattle.std.proofs.Common.{◌≡◌, ◌∙◌, List, ℕ, None, Some, Ok, Err, ap, inl, inr, length, refl, sym}
use Rattle.std.proofs.lemmas.Result.{err_from_is_err_and}
use Rattle.std.specs.Prelude.{IsTrue, codes}
use Rattle.tb_host.proofs.Firsts.{at_said, ended_so, ends_so, keyed_so, rows_first, rows_so, stopped_so, unread_first}
use Rattle.tb_host.specs.Looked.{IsFirstInMoves, IsFirstInSentences, IsUnread, IsValueOf, IsWrongSentence, Said, Tells}
use Rattle.tb_host.specs.declared.misfit.Table.TheVariants.{Sentences}
use Rattle.tb_tables.specs.declared.rows.RevisionRow.{RevisionRow}
use Rattle.tb_tables.specs.declared.rows.SentenceRow.{SentenceRow}
use Rattle.tb_host.proofs.misfit.look_from_sentences.Goals as goal

pub returns-in_err-rows : goal.returns-in_err-rows
returns-in_err-rows g c said is =
    let p = err_from_is_err_and c.from_residual.result c.from_residual.ensures.1 in
    let told = at_said _ said (λ (s : Said). Tells s.may_fail s.sentences c.sentences-read.result (λ rows. rows.items)) is c.sentences-read.ensures.told in
    stopped_so (IsTrue said.may_fail) (λ z. (said.sentences ≡ None) × IsUnread Sentences (said.numbers Sentences) z) (IsFirstInSentences said c.args.batches.now) c.from_residual.result p.0 c.in_err-rows.field-0.0 p.1 p.2
    (rows_so said.may_fail c.sentences-read.result (Err c.in_err-rows.field-0.0) Sentences said.sentences (λ rows. rows.items) (IsUnread Sentences (said.numbers Sentences)) c.in_err-rows.ensures.rows (c.in_err-rows.ensures.first said (c.sentences-read.ensures.still ∙ is)) told)
    (λ z h. unread_first said.sentences _ _ z h)

pub returns-in_err-revisions : goal.returns-in_err-revisions
returns-in_err-revisions g c said is =
    let p = err_from_is_err_and c.from_residual-in_err-revisions.result c.from_residual-in_err-revisions.ensures.1 in
    let told = at_said _ said (λ (s : Said). Tells s.may_fail s.sentences c.sentences-read.result (λ rows. rows.items)) is c.sentences-read.ensures.told in
    let kept = rows_so said.may_fail c.sentences-read.result (Ok c.in_ok-rows.rows) Sentences said.sentences (λ rows. rows.items) (IsUnread Sentences (said.numbers Sentences)) c.in_ok-rows.ensures.rows (c.in_ok-rows.ensures.first said (c.sentences-read.ensures.still ∙ is)) told in
    let on = c.in_ok-rows.ensures.still ∙ c.sentences-read.ensures.still ∙ is in
    let later = at_said _ said (λ (s : Said). Tells s.may_fail s.revisions c.revisions-read.result (λ rows. rows.items)) on c.revisions-read.ensures.told in
    stopped_so (IsTrue said.may_fail) (λ z. (said.revisions ≡ None) × IsValueOf (codes "revisions") z) (IsFirstInSentences said c.args.batches.now) c.from_residual-in_err-revisions.result p.0 c.in_err-revisions.field-0.0 p.1 p.2
    (keyed_so said.may_fail c.revisions-read.result (Err c.in_err-revisions.field-0.0) said.revisions (λ rows. rows.items) _ (codes "revisions") c.in_err-revisions.ensures refl later)
    (λ z h. rows_first said.sentences _ _ z c.in_ok-rows.rows.items kept (unread_first said.revisions _ _ z h))

pub returns-in_err-pulled : goal.returns-in_err-pulled
returns-in_err-pulled g c said is =
    let p = err_from_is_err_and c.from_residual-in_err-pulled.result c.from_residual-in_err-pulled.ensures.1 in
    let told = at_said _ said (λ (s : Said). Tells s.may_fail s.sentences c.sentences-read.result (λ rows. rows.items)) is c.sentences-read.ensures.told in
    let kept = rows_so said.may_fail c.sentences-read.result (Ok c.in_ok-rows.rows) Sentences said.sentences (λ rows. rows.items) (IsUnread Sentences (said.numbers Sentences)) c.in_ok-rows.ensures.rows (c.in_ok-rows.ensures.first said (c.sentences-read.ensures.still ∙ is)) told in
    let on = c.in_ok-rows.ensures.still ∙ c.sentences-read.ensures.still ∙ is in
    let later = at_said _ said (λ (s : Said). Tells s.may_fail s.revisions c.revisions-read.result (λ rows. rows.items)) on c.revisions-read.ensures.told in
    let revised = keyed_so said.may_fail c.revisions-read.result (Ok c.in_ok-revisions.revisions) said.revisions (λ rows. rows.items) _ (codes "revisions") c.in_ok-revisions.ensures refl later in
    let last = at_said _ said (λ (s : Said). Tells s.may_fail s.pulled c.pulled-read.result (λ rows. rows.items)) (c.revisions-read.ensures.still ∙ on) c.pulled-read.ensures.told in
    stopped_so (IsTrue said.may_fail) (λ z. (said.pulled ≡ None) × IsValueOf (codes "pulled") z) (IsFirstInSentences said c.args.batches.now) c.from_residual-in_err-pulled.result p.0 c.in_err-pulled.field-0.0 p.1 p.2
    (keyed_so said.may_fail c.pulled-read.result (Err c.in_err-pulled.field-0.0) said.pulled (λ rows. rows.items) _ (codes "pulled") c.in_err-pulled.ensures refl last)
    (λ z h. rows_first said.sentences _ _ z c.in_ok-rows.rows.items kept (rows_first said.revisions _ _ z c.in_ok-revisions.revisions.items revised (unread_first said.pulled _ _ z h)))

pub returns-in_err-sentences : goal.returns-in_err-sentences
returns-in_err-sentences g c said is =
    let p = err_from_is_err_and c.from_residual-in_err-sentences.result c.from_residual-in_err-sentences.ensures.1 in
    let told = at_said _ said (λ (s : Said). Tells s.may_fail s.sentences c.sentences-read.result (λ rows. rows.items)) is c.sentences-read.ensures.told in
    let kept = rows_so said.may_fail c.sentences-read.result (Ok c.in_ok-rows.rows) Sentences said.sentences (λ rows. rows.items) (IsUnread Sentences (said.numbers Sentences)) c.in_ok-rows.ensures.rows (c.in_ok-rows.ensures.first said (c.sentences-read.ensures.still ∙ is)) told in
    let on = c.in_ok-rows.ensures.still ∙ c.sentences-read.ensures.still ∙ is in
    let later = at_said _ said (λ (s : Said). Tells s.may_fail s.revisions c.revisions-read.result (λ rows. rows.items)) on c.revisions-read.ensures.told in
    let revised = keyed_so said.may_fail c.revisions-read.result (Ok c.in_ok-revisions.revisions) said.revisions (λ rows. rows.items) _ (codes "revisions") c.in_ok-revisions.ensures refl later in
    let last = at_said _ said (λ (s : Said). Tells s.may_fail s.pulled c.pulled-read.result (λ rows. rows.items)) (c.revisions-read.ensures.still ∙ on) c.pulled-read.ensures.told in
    let pulled = keyed_so said.may_fail c.pulled-read.result (Ok c.in_ok-pulled.pulled) said.pulled (λ rows. rows.items) _ (codes "pulled") c.in_ok-pulled.ensures refl last in
    let wrong = IsWrongSentence (length c.args.batches.now) c.as_slice.result.now c.as_slice-2.result.now c.as_slice-3.result.now in
    stopped_so (IsTrue said.may_fail) wrong (IsFirstInSentences said c.args.batches.now) c.from_residual-in_err-sentences.result p.0 c.in_err-sentences.field-0.0 p.1 p.2
    (ends_so (IsTrue said.may_fail) wrong c.in_err-sentences.field-0.0 c.in_err-sentences.ensures.wrong)
    (λ z h. rows_first said.sentences _ _ z c.as_slice.result.now (kept ∙ ap (λ (z : List SentenceRow). Some z) (sym c.as_slice.ensures.value))
    (rows_first said.revisions _ _ z c.as_slice-2.result.now (revised ∙ ap (λ (z : List RevisionRow). Some z) (sym c.as_slice-2.ensures.value))
    (rows_first said.pulled _ _ z c.as_slice-3.result.now (pulled ∙ ap (λ (z : List ℕ). Some z) (sym c.as_slice-3.ensures.value)) (inl h))))

pub returns : goal.returns
returns g c said is =
    let told = at_said _ said (λ (s : Said). Tells s.may_fail s.sentences c.sentences-read.result (λ rows. rows.items)) is c.sentences-read.ensures.told in
    let kept = rows_so said.may_fail c.sentences-read.result (Ok c.in_ok-rows.rows) Sentences said.sentences (λ rows. rows.items) (IsUnread Sentences (said.numbers Sentences)) c.in_ok-rows.ensures.rows (c.in_ok-rows.ensures.first said (c.sentences-read.ensures.still ∙ is)) told in
    let on = c.in_ok-rows.ensures.still ∙ c.sentences-read.ensures.still ∙ is in
    let later = at_said _ said (λ (s : Said). Tells s.may_fail s.revisions c.revisions-read.result (λ rows. rows.items)) on c.revisions-read.ensures.told in
    let revised = keyed_so said.may_fail c.revisions-read.result (Ok c.in_ok-revisions.revisions) said.revisions (λ rows. rows.items) _ (codes "revisions") c.in_ok-revisions.ensures refl later in
    let last = at_said _ said (λ (s : Said). Tells s.may_fail s.pulled c.pulled-read.result (λ rows. rows.items)) (c.revisions-read.ensures.still ∙ on) c.pulled-read.ensures.told in
    let pulled = keyed_so said.may_fail c.pulled-read.result (Ok c.in_ok-pulled.pulled) said.pulled (λ rows. rows.items) _ (codes "pulled") c.in_ok-pulled.ensures refl last in
    let read = c.in_ok-sentences.ensures.right in
    ended_so (IsTrue said.may_fail) (IsFirstInMoves said c.args.batches.now read.0) (IsFirstInSentences said c.args.batches.now) c.look_from_moves.result (c.look_from_moves.ensures said (c.pulled-read.ensures.still ∙ c.revisions-read.ensures.still ∙ on) read.0 (c.as_slice-4.ensures.value ∙ read.2))
    (λ z h. rows_first said.sentences _ _ z c.as_slice.result.now (kept ∙ ap (λ (z : List SentenceRow). Some z) (sym c.as_slice.ensures.value))
    (rows_first said.revisions _ _ z c.as_slice-2.result.now (revised ∙ ap (λ (z : List RevisionRow). Some z) (sym c.as_slice-2.ensures.value))
    (rows_first said.pulled _ _ z c.as_slice-3.result.now (pulled ∙ ap (λ (z : List ℕ). Some z) (sym c.as_slice-3.ensures.value)) (inr (read.0, read.1, h)))))
