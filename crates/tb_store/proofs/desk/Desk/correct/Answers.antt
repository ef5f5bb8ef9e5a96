use Rattle.std.proofs.Common.{◌∙◌, refl, sym, ap, subst, arith, IsTrue, inl, inr, Err}
use Rattle.sqlite.specs.Held.{state}
use Rattle.sqlite.specs.State.{HasCleanDisk}
use Rattle.tb_refine.specs.DeskTables.{IsDeskOf}
use Rattle.sqlite.proofs.StateLemmas.{survives_then, survives_weaker}
use Rattle.tb_core.specs.Commands.{replied, refused, correct, corrected_to}
use Rattle.tb_refine.specs.declared.counters.Counters.{Counters}
use Rattle.tb_store.specs.Kept.{Kept}
use Rattle.tb_store.specs.Represents.{Represents}
use Rattle.tb_refine.specs.Counted.{IsCounted}
use Rattle.tb_refine.proofs.There.{sentence_there}
use Rattle.tb_refine.proofs.Unchanged.{desk_kept}
use Rattle.tb_refine.specs.Room.{HasRoomIfWritten}
use Rattle.tb_tables.specs.Changes.{HasRevisionRowids}
use Rattle.tb_tables.specs.Leaving.{IsFaultless}
use Rattle.tb_store.proofs.Blamed.{command_calm, stays_open, doubted, as_before, only_refused}
use Rattle.tb_store.proofs.Lasting.{durable, fault_ends}
use Rattle.tb_store.proofs.Represented.{still_stands, stands_in_doubt, sentence_within, same_numbered}
use Rattle.tb_store.proofs.desk.Desk.correct.Goals as goal

pub returns-in-Ok-default-Some-clause-ends : goal.returns-in-Ok-default-Some-clause-ends
returns-in-Ok-default-Some-clause-ends g c clean s stands =
    let here = subst (λ k. Represents g.S.Store k s) (sym c.self.view_is) stands in
    let fits = c.in-Some.ensures.stands in
    let counted : IsCounted c.counts-counts.result s = subst (λ (k : Counters). IsCounted k s) (sym c.counts-counts.ensures) (record { moves = stands.moves; totals = stands.totals }) in
    let limits = ap (λ (k : Counters). k.limits) c.counts-counts.ensures in
    let made = (rw c.in-Ok-default-Some.field-0-1-is at c.in-Ok-default-Some.ensures.answered) clean s here.desk counted (omega (arith, fits.2, stands.sentences, here.sentences)) in (
      made.next,
      same_numbered (λ n. correct n c.args.base c.args.user.now c.args.body.now) _ _ s _ _ (replied (corrected_to c.in-Ok-default-Some.reply)) made.next limits fits.0 made.steps,
      durable g.S.Store g.met.S.Store.settled _ made.next (record {
        desk = made.desk;
        batches = here.batches ∙ sym made.batches;
        sentences = here.sentences ∙ sym made.sentences;
        moves = (let was = here.moves in let now = made.moves in omega (arith, was, now));
        totals = made.totals;
      }),
    )

pub returns-in-Ok-default-Some-clause-crash : goal.returns-in-Ok-default-Some-clause-crash
returns-in-Ok-default-Some-clause-crash g c =
    let same = ap (λ (k : Kept _). state g.S.Store k.conn) c.self.view_is in
    rw (sym same) (survives_weaker (state g.S.Store c.self.inside.conn) (state g.S.Store c.correct.new.conn) _ _ (λ _ db whole s stands.
    let here = subst (λ k. Represents g.S.Store k s) (sym c.self.view_is) stands in
    let fits = c.in-Some.ensures.stands in
    let counted : IsCounted c.counts-counts.result s = subst (λ (k : Counters). IsCounted k s) (sym c.counts-counts.ensures) (record { moves = stands.moves; totals = stands.totals }) in
    let limits = ap (λ (k : Counters). k.limits) c.counts-counts.ensures in
    let left = whole s here.desk counted (omega (arith, fits.2, stands.sentences, here.sentences)) in
    (left.0, left.1, same_numbered (λ n. correct n c.args.base c.args.user.now c.args.body.now) _ _ s _ _ left.0 left.1 limits fits.0 left.2, left.3)) c.correct.ensures.crash)

pub returns-in-Ok-default-None-clause-ends : goal.returns-in-Ok-default-None-clause-ends
returns-in-Ok-default-None-clause-ends g c clean s stands =
    let here = subst (λ k. Represents g.S.Store k s) (sym c.self.view_is) stands in
    let fits = c.in-Some.ensures.stands in
    let counted : IsCounted c.counts-counts.result s = subst (λ (k : Counters). IsCounted k s) (sym c.counts-counts.ensures) (record { moves = stands.moves; totals = stands.totals }) in
    let limits = ap (λ (k : Counters). k.limits) c.counts-counts.ensures in
    let both = (rw c.in-Ok-default-None.field-0-1-is at c.in-Ok-default-None.ensures.answered) clean s here.desk counted (omega (arith, fits.2, stands.sentences, here.sentences)) in
    let stays = still_stands g.S.Store _ c.correct.new.conn s both.1 here in
    (s, same_numbered (λ n. correct n c.args.base c.args.user.now c.args.body.now) _ _ s _ _ (replied (corrected_to c.in-Ok-default-None.reply)) s limits fits.0 both.0, durable g.S.Store g.met.S.Store.settled _ s stays)

pub returns-in-Err-clause-crash : goal.returns-in-Err-clause-crash
returns-in-Err-clause-crash g c =
    let same = ap (λ (k : Kept _). state g.S.Store k.conn) c.self.view_is in
    rw (sym same) (survives_then (state g.S.Store c.self.inside.conn) (state g.S.Store c.correct.new.conn) (state g.S.Store c.certain.new.conn) _ _ _ (λ _ db whole s stands.
    let here = subst (λ k. Represents g.S.Store k s) (sym c.self.view_is) stands in
    let fits = c.in-Some.ensures.stands in
    let counted : IsCounted c.counts-counts.result s = subst (λ (k : Counters). IsCounted k s) (sym c.counts-counts.ensures) (record { moves = stands.moves; totals = stands.totals }) in
    let limits = ap (λ (k : Counters). k.limits) c.counts-counts.ensures in
    let left = whole s here.desk counted (omega (arith, fits.2, stands.sentences, here.sentences)) in
    (left.0, left.1, same_numbered (λ n. correct n c.args.base c.args.user.now c.args.body.now) _ _ s _ _ left.0 left.1 limits fits.0 left.2, left.3)) (λ _ db none. absurd none) c.correct.ensures.crash c.certain.ensures.crash)

pub returns-in-Err-clause-ends : goal.returns-in-Err-clause-ends
returns-in-Err-clause-ends g c clean s stands =
    let here = subst (λ k. Represents g.S.Store k s) (sym c.self.view_is) stands in
    let before : HasCleanDisk (state g.S.Store c.correct.new.conn) = omega (arith, clean, c.certain.ensures.crash.clean) in
    let fits = c.in-Some.ensures.stands in
    let counted : IsCounted c.counts-counts.result s = subst (λ (k : Counters). IsCounted k s) (sym c.counts-counts.ensures) (record { moves = stands.moves; totals = stands.totals }) in
    let limits = ap (λ (k : Counters). k.limits) c.counts-counts.ensures in
    fault_ends g.S.Store g.met.S.Store.settled c.args.self.now _ s (correct c.args.number c.args.base c.args.user.now c.args.body.now) corrected_to c.certain.result
    (λ r is.
    let reported = c.certain.ensures.refused r is in
    let refusal = c.correct.ensures.refused before r (c.in-Err.is ∙ ap Err reported.0) s here.desk counted (omega (arith, fits.2, stands.sentences, here.sentences)) in
    (same_numbered (λ n. correct n c.args.base c.args.user.now c.args.body.now) _ _ s _ _ (refused r) s limits fits.0 refusal.0, stands_in_doubt g.S.Store _ c.certain.new.conn c.certain.new.in_doubt s (subst (λ h. IsDeskOf g.S.Store h s) (sym reported.1) refusal.1) here))
    (c.certain.ensures.open clean)
    (λ opened.
    let mid = desk_kept g.S.Store c.self.inside.conn c.correct.new.conn (c.in-Err.ensures.keeps_records before (c.certain.ensures.was_open clean opened)) s here.desk in
    stands_in_doubt g.S.Store _ c.certain.new.conn c.certain.new.in_doubt s (desk_kept g.S.Store c.correct.new.conn c.certain.new.conn (c.certain.ensures.keeps_records clean opened) s mid) here)
    (λ none. c.correct.ensures.fails before c.self.invariant.unlimited s here.desk counted (omega (arith, fits.2, stands.sentences, here.sentences)) (c.in-Err.is ∙ ap Err (c.certain.ensures.desk none)))
    (λ none. c.correct.ensures.output (c.in-Err.is ∙ ap Err (c.certain.ensures.output none)))

pub returns-in_default-clause-ends : goal.returns-in_default-clause-ends
returns-in_default-clause-ends g c clean s stands =
    fault_ends g.S.Store g.met.S.Store.settled c.args.self.now c.args.self.now s (correct c.args.number c.args.base c.args.user.now c.args.body.now) corrected_to c.no_correction.result
    (λ r is.
    let here = subst (λ k. Represents g.S.Store k s) (sym c.self.view_is) stands in (
      c.no_correction.ensures.refused r is c.args.self.now.limits s (λ place x has.
          let low = sentence_within s c.args.number place x has in
          c.in_default.ensures.lacks refl low.0 (omega (arith, low.1, stands.sentences, here.sentences))),
      stands,
    ))
    (λ _. stands.desk.holds.is_open)
    (λ _. stands)
    (λ bad.
    c.no_correction.ensures.fails bad)
    c.no_correction.ensures.output

pub returns-in-Err-clause-cause : goal.returns-in-Err-clause-cause
returns-in-Err-clause-cause g c clean s stands good room is =
    let here = subst (λ k. Represents g.S.Store k s) (sym c.self.view_is) stands in
    let before : HasCleanDisk (state g.S.Store c.correct.new.conn) = omega (arith, clean, c.certain.ensures.crash.clean) in
    let calm = subst (λ (k : Kept _). IsFaultless g.S.Store k.conn c.certain.new.conn) (sym c.self.view_is) good in
    let fits = c.in-Some.ensures.stands in
    let counted : IsCounted c.counts-counts.result s = subst (λ (k : Counters). IsCounted k s) (sym c.counts-counts.ensures) (record { moves = stands.moves; totals = stands.totals }) in
    let limits = ap (λ (k : Counters). k.limits) c.counts-counts.ensures in
    let there : HasRoomIfWritten c.counts-counts.result.limits s (correct c.in-Some.at c.args.base c.args.user.now c.args.body.now) c.args.body.now 1 (state g.S.Store c.self.inside.conn) = λ reply t steps more.
    let has = room reply t (same_numbered (λ n. correct n c.args.base c.args.user.now c.args.body.now) _ _ s _ _ (replied reply) t limits fits.0 steps) more in
    (has.0, subst (λ (k : Kept _). HasRevisionRowids (state g.S.Store k.conn) 1) (sym c.self.view_is) has.1) in
    let one = c.correct.ensures.crash in
    let two = c.certain.ensures.crash in
    let fine = c.correct.ensures.cause (command_calm g.S.Store c.self.inside.conn c.correct.new.conn c.certain.new.conn one two calm clean) before c.self.invariant.unlimited s here.desk counted (omega (arith, fits.2, stands.sentences, here.sentences)) there in (
      doubted g.S.Store c.self.inside.conn c.correct.new.conn c.certain.new.conn one two calm clean c.correct.result _ c.certain.result c.certain.new.in_doubt c.in-Err.is fine c.certain.ensures.cause is,
      as_before g.S.Store c.args.self.now _ (correct c.args.number c.args.base c.args.user.now c.args.body.now) corrected_to s c.certain.result (returns-in-Err-clause-ends g c clean s stands) is (stays_open g.S.Store c.self.inside.conn c.correct.new.conn c.certain.new.conn one two calm clean),
    )

pub returns-in_default-clause-cause : goal.returns-in_default-clause-cause
returns-in_default-clause-cause g c clean s stands good room is = absurd (c.no_correction.ensures.cause is)

pub returns-in-Ok-default-Some-clause-missing : goal.returns-in-Ok-default-Some-clause-missing
returns-in-Ok-default-Some-clause-missing g c s stands none =
    let at = c.in-Some.ensures.stands in
    let here = subst (λ k. Represents g.S.Store k s) (sym c.self.view_is) stands in
    let it = sentence_there s c.args.number c.in-Some.at at.0 at.1 (omega (arith, at.2, stands.sentences, here.sentences)) in
    absurd (none _ it.0 it.2)

pub returns-in-Ok-default-None-clause-missing : goal.returns-in-Ok-default-None-clause-missing
returns-in-Ok-default-None-clause-missing g c s stands none =
    let at = c.in-Some.ensures.stands in
    let here = subst (λ k. Represents g.S.Store k s) (sym c.self.view_is) stands in
    let it = sentence_there s c.args.number c.in-Some.at at.0 at.1 (omega (arith, at.2, stands.sentences, here.sentences)) in
    absurd (none _ it.0 it.2)

pub returns-in-Err-clause-missing : goal.returns-in-Err-clause-missing
returns-in-Err-clause-missing g c s stands none =
    let at = c.in-Some.ensures.stands in
    let here = subst (λ k. Represents g.S.Store k s) (sym c.self.view_is) stands in
    let it = sentence_there s c.args.number c.in-Some.at at.0 at.1 (omega (arith, at.2, stands.sentences, here.sentences)) in
    absurd (none _ it.0 it.2)

pub returns-in_default-clause-missing : goal.returns-in_default-clause-missing
returns-in_default-clause-missing g c s stands none =
    let it = only_refused c.no_correction.result c.no_correction.ensures.memory c.no_correction.ensures.cause c.no_correction.ensures.fails c.no_correction.ensures.output in
    (it.0, ap Err it.1)

pub returns-in-Err-clause-doubt : goal.returns-in-Err-clause-doubt
returns-in-Err-clause-doubt g c so = elim (c.certain.ensures.doubt so) [ inl was ↦ inl (subst (λ (k : Kept _). IsTrue k.in_doubt) c.self.view_is was) | inr it ↦ inr (ap Err it.0) ]
