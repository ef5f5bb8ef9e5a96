use Rattle.std.proofs.Common.{sym, ◌∙◌}
use Rattle.std.proofs.lemmas.Result.{err_from_is_err_and}
use Rattle.tb_core.proofs.Bodies.{Laws}
use Rattle.tb_core.proofs.BodyTests.{taking_then}
use Rattle.tb_core.proofs.Imports.{import_stops, import_taken, import_goes}
use Rattle.tb_core.proofs.importing.judge_import_body.Goals as goal

pub returns-in_err-taken-clause-refused : goal.returns-in_err-taken-clause-refused
returns-in_err-taken-clause-refused c =
    let reported = err_from_is_err_and c.from_residual.result c.from_residual.ensures.1 in
    let laws : Laws = record { one_list = c.one_list_has_a_text.ensures; no_file = c.reported_bytes_are_no_file.ensures; not_valid = c.faulty_sentences_are_not_valid.ensures } in
    rw (reported.1, reported.2) (taking_then _ _ c.in_err-taken.field-0.0
    (λ r h l s name user named found. import_stops laws l s name user c.args.body.now r named h)
    c.in_err-taken.ensures.refused)

pub returns-then-not-no_batch_has-clause-refused : goal.returns-then-not-no_batch_has-clause-refused
returns-then-not-no_batch_has-clause-refused c =
    let laws : Laws = record { one_list = c.one_list_has_a_text.ensures; no_file = c.reported_bytes_are_no_file.ensures; not_valid = c.faulty_sentences_are_not_valid.ensures } in
    rw c.from.ensures (λ l s name user named h.
    import_taken laws l s name user c.args.body.now c.in_ok-taken.ensures.taken.0 c.args.found named h (sym c.no_batch_has.ensures ∙ c.if-not-no_batch_has.true) c.in_ok-taken.ensures.taken.1)

pub returns-clause-goes : goal.returns-clause-goes
returns-clause-goes c = λ s name user bs named h good.
    import_goes s name user c.args.body.now bs c.args.found (sym c.no_batch_has.ensures ∙ c.if-not-no_batch_has.false) named h good
