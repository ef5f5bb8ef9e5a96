use Rattle.std.proofs.Common.{refl, ◌∙◌, ap, arith}
use Rattle.tb_core.specs.Totals.{at_state}
use Rattle.tb_replay.specs.Summaries.{SummaryRow}
use Rattle.tb_replay.specs.Sums.{last_count, one_each, words_each, entry_total}
use Rattle.tb_replay.proofs.Summed.{ones_limit, words_limit, ones_total, words_total, stand, total_end, turned, not_past}
use Rattle.tb_replay.proofs.totals.totals_of.Goals as goal

pub loop-entry-preserved : goal.loop-entry-preserved
loop-entry-preserved c = λ st.
    let bs = c.args.batches.now in
    let es = c.args.entries.now in
    let i = c.loop-entry.entry-index in
    let e = c.entry-item.result in
    let own = c.state_of-state.result in
    let old = c.loop-entry.invariant st in
    let count = c.last_words.ensures ∙ (ap last_count c.deref.ensures.value ∙ ap (λ (x : SummaryRow). last_count x.revisions) c.entry.view_is) in (
      turned one_each bs st es i e own (at_state c.loop-entry.totals.sentences st) (at_state c.add.new.sums st) 1 c.loop-entry-test.true c.entry-item.is c.state_of-state.ensures refl (c.if-not-add.ensures.added refl st) old.0,
      turned words_each bs st es i e own (at_state c.loop-entry.totals.words st) (at_state c.add-in-loop-entry.new.sums st) c.last_words.result c.loop-entry-test.true c.entry-item.is c.state_of-state.ensures count (c.if-not-add-2.ensures.added refl st) old.1,
    )

pub returns-then-not-add-clause-reported : goal.returns-then-not-add-clause-reported
returns-then-not-add-clause-reported c = λ f p q fine few.
    let own = c.state_of-state.result in
    let sum = at_state c.loop-entry.totals.sentences own in
    let below = not_past one_each c.args.batches.now c.args.entries.now c.loop-entry.entry-index c.entry-item.result own sum 1 1000000 c.loop-entry-test.true c.entry-item.is c.state_of-state.ensures refl
    (c.loop-entry.invariant own).0 (ones_limit f c.args.batches.now own c.args.entries.now q few) in
    c.if-not-add.ensures.fits.1 (omega (arith, below))

pub returns-then-not-add-2-clause-reported : goal.returns-then-not-add-2-clause-reported
returns-then-not-add-2-clause-reported c = λ f p q fine few.
    let own = c.state_of-state.result in
    let sum = at_state c.loop-entry.totals.words own in
    let count = c.last_words.ensures ∙ (ap last_count c.deref.ensures.value ∙ ap (λ (x : SummaryRow). last_count x.revisions) c.entry.view_is) in
    let below = not_past words_each c.args.batches.now c.args.entries.now c.loop-entry.entry-index c.entry-item.result own sum c.last_words.result 1000000000 c.loop-entry-test.true c.entry-item.is c.state_of-state.ensures count
    (c.loop-entry.invariant own).1 (words_limit f c.args.batches.now own c.args.entries.now q fine few) in
    c.if-not-add-2.ensures.fits.1 (omega (arith, below))

pub returns-then-not-add-clause-fits : goal.returns-then-not-add-clause-fits
returns-then-not-add-clause-fits c = λ f p q ones words.
    let bs = c.args.batches.now in
    let es = c.args.entries.now in
    let own = c.state_of-state.result in
    let sum = at_state c.loop-entry.totals.sentences own in
    let all = ones_total f bs es own p q in
    let below = not_past one_each bs es c.loop-entry.entry-index c.entry-item.result own sum 1 (entry_total one_each bs own es) c.loop-entry-test.true c.entry-item.is c.state_of-state.ensures refl
    (c.loop-entry.invariant own).0 (omega arith) in
    let room = ones own in
    c.if-not-add.ensures.fits.1 (omega (arith, below, all, room))

pub returns-then-not-add-2-clause-fits : goal.returns-then-not-add-2-clause-fits
returns-then-not-add-2-clause-fits c = λ f p q ones words.
    let bs = c.args.batches.now in
    let es = c.args.entries.now in
    let own = c.state_of-state.result in
    let sum = at_state c.loop-entry.totals.words own in
    let count = c.last_words.ensures ∙ (ap last_count c.deref.ensures.value ∙ ap (λ (x : SummaryRow). last_count x.revisions) c.entry.view_is) in
    let all = words_total f bs es own p q in
    let below = not_past words_each bs es c.loop-entry.entry-index c.entry-item.result own sum c.last_words.result (entry_total words_each bs own es) c.loop-entry-test.true c.entry-item.is c.state_of-state.ensures count
    (c.loop-entry.invariant own).1 (omega arith) in
    let room = words own in
    c.if-not-add-2.ensures.fits.1 (omega (arith, below, all, room))

pub returns-clause-sums : goal.returns-clause-sums
returns-clause-sums c = λ f p q.
    let bs = c.args.batches.now in
    let es = c.args.entries.now in
    let i = c.loop-entry.entry-index in
    stand f bs es c.loop-entry.totals p q (λ st.
    let old = c.loop-entry.invariant st in
    let a = total_end one_each bs st es i (omega arith) in
    let b = total_end words_each bs st es i (omega arith) in
    (omega (arith, a, old.0), omega (arith, b, old.1)))
