use Rattle.std.proofs.Common.{[], arith, inr, refl, rules, sym}
use Rattle.std.proofs.lemmas.Result.{err_from_is_err_and}
use Rattle.tb_host.proofs.Firsts.{all_read, none_over, read_on, stopped_by, taken_next, wrong_next}
use Rattle.tb_host.specs.Looked.{IsWrongSentence, none}
use Rattle.tb_host.specs.declared.misfit.Stop.TheVariants.{Failed}
use Rattle.tb_host.proofs.misfit.sentences_in.Goals as goal

pub loop-at-init : goal.loop-at-init
loop-at-init c = ([], none, refl, search rules)

pub loop-at-preserved : goal.loop-at-preserved
loop-at-preserved c = read_on c.args.batches c.args.rows.now c.args.revisions.now c.args.pulled.now c.loop-at.at _ _ _ _ c.loop-at.sentences.items c.index-rows-at.result c.loop-at.invariant (omega (arith, c.loop-at-test.true)) c.index-rows-at.is
    c.in_ok-sentence.sentence c.push.new.self.items c.in_ok-sentence.ensures c.in_ok-push.ensures.items

pub returns-in_err-sentence-clause-wrong : goal.returns-in_err-sentence-clause-wrong
returns-in_err-sentence-clause-wrong c =
    let p = err_from_is_err_and c.from_residual.result c.from_residual.ensures.1 in
    let turn = c.in_err-sentence.ensures in
    stopped_by (IsWrongSentence c.args.batches c.args.rows.now c.args.revisions.now c.args.pulled.now) c.from_residual.result p.0 c.in_err-sentence.field-0.0 p.1 p.2
    (wrong_next c.args.batches c.args.rows.now c.args.revisions.now c.args.pulled.now c.loop-at.at _ _ _ _ c.loop-at.sentences.items c.index-rows-at.result c.loop-at.invariant (omega (arith, c.loop-at-test.true)) c.index-rows-at.is turn.0 turn.1 turn.2 c.in_err-sentence.field-0.0 turn.3)

pub returns-in_err-push-clause-wrong : goal.returns-in_err-push-clause-wrong
returns-in_err-push-clause-wrong c =
    let p = err_from_is_err_and c.from_residual-in_err-push.result c.from_residual-in_err-push.ensures.1 in
    let turn = c.in_ok-sentence.ensures in
    stopped_by (IsWrongSentence c.args.batches c.args.rows.now c.args.revisions.now c.args.pulled.now) c.from_residual-in_err-push.result p.0 Failed p.1 p.2
    (taken_next c.args.batches c.args.rows.now c.args.revisions.now c.args.pulled.now c.loop-at.at _ _ _ _ c.loop-at.sentences.items c.index-rows-at.result c.loop-at.invariant (omega (arith, c.loop-at-test.true)) c.index-rows-at.is turn.0 turn.1 turn.2 turn.3.1.0)

pub returns-in-Some-clause-wrong : goal.returns-in-Some-clause-wrong
returns-in-Some-clause-wrong c =
    let read = c.loop-at.invariant in
    (read.0, c.loop-at.rest.revisions.now, c.loop-at.rest.pulled.now, read.1, inr (omega (arith, c.loop-at-test.false, read.2), sym c.in-Some.ensures))

pub returns-clause-right : goal.returns-clause-right
returns-clause-right c =
    let read = c.loop-at.invariant in
    let over = none_over c.loop-at.rest.revisions.now c.loop-at.rest.pulled.now (sym c.in-None.ensures) in
    (read.0, (all_read c.args.batches c.args.rows.now c.args.revisions.now c.loop-at.rest.revisions.now c.args.pulled.now c.loop-at.rest.pulled.now read.0 read.1 over, omega (arith, c.loop-at-test.false, read.2)), read.3)
