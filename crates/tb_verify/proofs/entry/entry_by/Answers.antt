use Rattle.std.proofs.Common.{◌≡◌, false, true, map, sym, ◌∙◌, ap}
use Rattle.std.proofs.lemmas.Result.{err_from_is_err_and}
use Rattle.tb_core.specs.Machine.{bodies_of}
use Rattle.tb_replay.specs.Summaries.{row_of}
use Rattle.tb_tables.specs.Values.{sentence_of, revision_of}
use Rattle.tb_verify.specs.Course.{is_course, rows_reported}
use Rattle.tb_verify.proofs.Rereading.{texts_back, course_of, read_back, reported_joined, entry_is}
use Rattle.tb_verify.proofs.Turns.{bodies_reported}
use Rattle.tb_verify.proofs.Uncounted.{no_course}
use Rattle.tb_verify.proofs.Unreported.{passed_on_as, unfit_as}
use Rattle.tb_verify.proofs.entry.entry_by.Goals as goal

pub returns-in_err-blocks-clause-unfit : goal.returns-in_err-blocks-clause-unfit
returns-in_err-blocks-clause-unfit c = λ q x h.
    let p = err_from_is_err_and c.from_residual.result c.from_residual.ensures.1 in
    c.in_err-blocks.ensures.unfit (passed_on_as c.from_residual.result p.0 c.in_err-blocks.field-0.0 p.1 p.2 q) (bodies_of x) h.fine.lawful
    (texts_back c.args.number (sentence_of c.args.row.now) c.args.pulled (map revision_of c.args.revisions.now) x h ∙ bodies_reported c.args.revisions.now)

pub returns-in_err-fit-clause-unfit : goal.returns-in_err-fit-clause-unfit
returns-in_err-fit-clause-unfit c = λ q x h.
    let met = course_of c.one_list_has_a_text.ensures c.args.number (sentence_of c.args.row.now) c.args.pulled (map revision_of c.args.revisions.now) x h
    c.in_ok-blocks.blocks.items c.in_ok-blocks.ensures.lawful (c.in_ok-blocks.ensures.texts ∙ sym (bodies_reported c.args.revisions.now)) in
    let t : false ≡ true = sym c.in_err-fit.ensures.wrong.1 ∙ c.is_course_right.ensures ∙ ap (is_course c.args.number (sentence_of c.args.row.now) (map revision_of c.args.revisions.now)) c.deref.ensures.value ∙ met in cc

pub returns-clause-fine : goal.returns-clause-fine
returns-clause-fine c =
    let texts = c.in_ok-blocks.ensures.texts ∙ sym (bodies_reported c.args.revisions.now) in
    let course = ap (is_course c.args.number (sentence_of c.args.row.now) (map revision_of c.args.revisions.now)) (sym c.deref.ensures.value) ∙ sym c.is_course_right.ensures ∙ c.in_ok-fit.ensures.right in
    let back = read_back c.args.number (sentence_of c.args.row.now) c.args.pulled (map revision_of c.args.revisions.now) c.in_ok-blocks.blocks.items c.in_ok-blocks.ensures.lawful texts course in
    let reported = c.in_ok-reported.ensures ∙ ap (rows_reported (map revision_of c.args.revisions.now)) c.deref-2.ensures.value ∙ reported_joined (map revision_of c.args.revisions.now) c.in_ok-blocks.blocks.items ∙ ap (map row_of) (sym back.3) in
    (back.0, back.1, entry_is back.0 c.args.row.now.batch c.args.pulled c.in_ok-reported.reported.items back.2 back.1.pulled reported)

pub returns-in_err-blocks-clause-none : goal.returns-in_err-blocks-clause-none
returns-in_err-blocks-clause-none c = λ none. absurd (let t : false ≡ true = c.in_err-blocks.ensures.sure none in cc)

pub returns-in_err-fit-clause-none : goal.returns-in_err-fit-clause-none
returns-in_err-fit-clause-none c = λ none.
    let p = err_from_is_err_and c.from_residual-in_err-fit.result c.from_residual-in_err-fit.ensures.1 in
    unfit_as c.from_residual-in_err-fit.result p.0 c.in_err-fit.field-0.0 p.1 p.2 c.in_err-fit.ensures.wrong.0

pub returns-in_err-reported-clause-none : goal.returns-in_err-reported-clause-none
returns-in_err-reported-clause-none c = λ none. absurd
    (no_course c.args.number (sentence_of c.args.row.now) c.args.revisions.now c.in_ok-blocks.blocks.items none c.in_ok-blocks.ensures.texts
    (ap (is_course c.args.number (sentence_of c.args.row.now) (map revision_of c.args.revisions.now)) (sym c.deref.ensures.value) ∙ sym c.is_course_right.ensures ∙ c.in_ok-fit.ensures.right))

pub returns-clause-none : goal.returns-clause-none
returns-clause-none c = λ none. absurd
    (no_course c.args.number (sentence_of c.args.row.now) c.args.revisions.now c.in_ok-blocks.blocks.items none c.in_ok-blocks.ensures.texts
    (ap (is_course c.args.number (sentence_of c.args.row.now) (map revision_of c.args.revisions.now)) (sym c.deref.ensures.value) ∙ sym c.is_course_right.ensures ∙ c.in_ok-fit.ensures.right))
