use Rattle.tb_import.proofs.Bounds.{one_body, one_small}
use Rattle.std.proofs.Common.{◌∙◌, ◌∷◌, []}
use Rattle.tb_reads.proofs.Shown.{if_ok}
use Rattle.tb_import.proofs.Firstly.{read_words}
use Rattle.tb_import.proofs.Looks.{look_made, look_stopped}
use Rattle.tb_import.proofs.again.read_words.Goals as goal

pub returns-clause-answered : goal.returns-clause-answered
returns-clause-answered g c clean = if_ok c.words_of_text.result c.words_of_text.ensures.value (λ n value s b desk first.
    let text = c.as_bytes.ensures.value ∙ c.in_ok-row.ensures.answered clean s b desk first in
    read_words c.one_list_has_a_text.ensures c.reached_states_are_well.ensures s c.args.number n b c.as_bytes.result.now value.0 desk.reachable.reached first text value.1 value.2)

pub returns-in_err-row-clause-look : goal.returns-in_err-row-clause-look
returns-in_err-row-clause-look g c =
    look_stopped c.from_residual.result c.in_err-row.field-0.0 c.from_residual.ensures.1 c.in_err-row.ensures.look (λ clean s desk fails on b first. on (fails b first))

pub returns-clause-look : goal.returns-clause-look
returns-clause-look g c =
    look_made c.words_of_text.result c.in_ok-row.ensures.look.left c.in_ok-row.ensures.look.stays c.words_of_text.ensures.never_refuses c.words_of_text.ensures.output c.words_of_text.ensures.cause (λ clean unlimited s desk b first bad.
    let text = c.as_bytes.ensures.value ∙ c.in_ok-row.ensures.answered clean s b desk first in
    let body = one_body s c.args.number b first c.as_bytes.result.now (c.revisions_read_back.ensures s desk.reachable.reached) text in
    c.words_of_text.ensures.fails (b ∷ []) body (one_small s c.args.number b first desk.reachable) bad)
