use Rattle.std.proofs.Common.{Ok}
use Rattle.std.proofs.lemmas.Result.{err_from_is_err_and}
use Rattle.tb_core.specs.Taking.{unfit}
use Rattle.tb_core.proofs.Bodies.{only_this}
use Rattle.tb_core.proofs.correction.take_one_ref.Goals as goal

pub returns-in_err-passage-clause-refused : goal.returns-in_err-passage-clause-refused
returns-in_err-passage-clause-refused g c =
    let p = err_from_is_err_and c.from_residual.result c.from_residual.ensures.1 in
    rw (p.1, p.2) (c.in_err-passage.ensures.refused c.args.current.now)

pub returns-in_err-passage-clause-only : goal.returns-in_err-passage-clause-only
returns-in_err-passage-clause-only g c =
    let p = err_from_is_err_and c.from_residual.result c.from_residual.ensures.1 in
    only_this (record {
      one_list = c.one_list_has_a_text.ensures;
      no_file = c.reported_bytes_are_no_file.ensures;
      not_valid = c.faulty_sentences_are_not_valid.ensures;
    }) (λ p. p.block) c.args.body.now c.args.current.now c.from_residual.result (rw p.1 tt) (returns-in_err-passage-clause-refused g c)

pub returns-in_err-fits-clause-refused : goal.returns-in_err-fits-clause-refused
returns-in_err-fits-clause-refused g c =
    let p = err_from_is_err_and c.from_residual-in_err-fits.result c.from_residual-in_err-fits.ensures.1 in
    rw (p.1, p.2) (unfit c.in_ok-passage.passage.block c.in_ok-passage.ensures.taken c.in_err-fits.ensures.unfit)

pub returns-in_err-fits-clause-only : goal.returns-in_err-fits-clause-only
returns-in_err-fits-clause-only g c =
    let p = err_from_is_err_and c.from_residual-in_err-fits.result c.from_residual-in_err-fits.ensures.1 in
    only_this (record {
      one_list = c.one_list_has_a_text.ensures;
      no_file = c.reported_bytes_are_no_file.ensures;
      not_valid = c.faulty_sentences_are_not_valid.ensures;
    }) (λ p. p.block) c.args.body.now c.args.current.now c.from_residual-in_err-fits.result (rw p.1 tt) (returns-in_err-fits-clause-refused g c)

pub returns-clause-only : goal.returns-clause-only
returns-clause-only g c =
    only_this (record {
      one_list = c.one_list_has_a_text.ensures;
      no_file = c.reported_bytes_are_no_file.ensures;
      not_valid = c.faulty_sentences_are_not_valid.ensures;
    }) (λ p. p.block) c.args.body.now c.args.current.now (Ok c.in_ok-passage.passage) (record {
      taken = c.in_ok-passage.ensures.taken;
      named = c.in_ok-fits.ensures.named;
      spelled = c.in_ok-fits.ensures.spelled;
      new = c.in_ok-fits.ensures.new;
    }) tt
