use Rattle.std.proofs.Common.{◌∙◌, refl, sym, ap, subst, arith, IsTrue, inl, inr, Err}
use Rattle.sqlite.specs.Held.{state}
use Rattle.sqlite.specs.State.{HasCleanDisk}
use Rattle.tb_refine.specs.DeskTables.{IsDeskOf}
use Rattle.sqlite.proofs.StateLemmas.{survives_then, survives_weaker}
use Rattle.tb_core.specs.Commands.{pull, replied, refused, pulled_out}
use Rattle.tb_refine.specs.declared.counters.Counters.{Counters}
use Rattle.tb_store.specs.Kept.{Kept}
use Rattle.tb_store.specs.Represents.{Represents}
use Rattle.tb_refine.specs.Counted.{IsCounted}
use Rattle.tb_refine.proofs.There.{sentence_there}
use Rattle.tb_refine.proofs.Unchanged.{desk_kept}
use Rattle.tb_tables.specs.Leaving.{IsFaultless}
use Rattle.tb_store.proofs.Blamed.{command_calm, stays_open, doubted, as_before, only_refused}
use Rattle.tb_store.proofs.Lasting.{durable, fault_ends}
use Rattle.tb_store.proofs.Represented.{stands_in_doubt, sentence_within, same_numbered}
use Rattle.tb_store.proofs.desk.Desk.pull.Goals as goal

pub returns-in-Ok-clause-ends : goal.returns-in-Ok-clause-ends
returns-in-Ok-clause-ends g c clean s stands =
    let here = subst (λ k. Represents g.S.Store k s) (sym c.self.view_is) stands in
    let fits = c.in-Some.ensures.stands in
    let counted : IsCounted c.counts-counts.result s = subst (λ (k : Counters). IsCounted k s) (sym c.counts-counts.ensures) (record { moves = stands.moves; totals = stands.totals }) in
    let limits = ap (λ (k : Counters). k.limits) c.counts-counts.ensures in
    let made = c.in-Ok.ensures.answered clean s here.desk counted (omega (arith, fits.2, stands.sentences, here.sentences)) in (
      made.next,
      same_numbered (λ n. pull n c.args.user.now) _ _ s _ _ (replied (pulled_out c.in-Ok.reply)) made.next limits fits.0 made.steps,
      durable g.S.Store g.met.S.Store.settled _ made.next (record {
        desk = made.desk;
        batches = here.batches ∙ sym made.batches;
        sentences = here.sentences ∙ sym made.sentences;
        moves = (let was = here.moves in let now = made.moves in omega (arith, was, now));
        totals = made.totals;
      }),
    )

pub returns-in-Ok-clause-crash : goal.returns-in-Ok-clause-crash
returns-in-Ok-clause-crash g c =
    let same = ap (λ (k : Kept _). state g.S.Store k.conn) c.self.view_is in
    rw (sym same) (survives_weaker (state g.S.Store c.self.inside.conn) (state g.S.Store c.pull.new.conn) _ _ (λ _ db whole s stands.
    let here = subst (λ k. Represents g.S.Store k s) (sym c.self.view_is) stands in
    let fits = c.in-Some.ensures.stands in
    let counted : IsCounted c.counts-counts.result s = subst (λ (k : Counters). IsCounted k s) (sym c.counts-counts.ensures) (record { moves = stands.moves; totals = stands.totals }) in
    let limits = ap (λ (k : Counters). k.limits) c.counts-counts.ensures in
    let left = whole s here.desk counted (omega (arith, fits.2, stands.sentences, here.sentences)) in
    (left.0, left.1, same_numbered (λ n. pull n c.args.user.now) _ _ s _ _ left.0 left.1 limits fits.0 left.2, left.3)) c.pull.ensures.crash)

pub returns-in-Err-clause-crash : goal.returns-in-Err-clause-crash
returns-in-Err-clause-crash g c =
    let same = ap (λ (k : Kept _). state g.S.Store k.conn) c.self.view_is in
    rw (sym same) (survives_then (state g.S.Store c.self.inside.conn) (state g.S.Store c.pull.new.conn) (state g.S.Store c.certain.new.conn) _ _ _ (λ _ db whole s stands.
    let here = subst (λ k. Represents g.S.Store k s) (sym c.self.view_is) stands in
    let fits = c.in-Some.ensures.stands in
    let counted : IsCounted c.counts-counts.result s = subst (λ (k : Counters). IsCounted k s) (sym c.counts-counts.ensures) (record { moves = stands.moves; totals = stands.totals }) in
    let limits = ap (λ (k : Counters). k.limits) c.counts-counts.ensures in
    let left = whole s here.desk counted (omega (arith, fits.2, stands.sentences, here.sentences)) in
    (left.0, left.1, same_numbered (λ n. pull n c.args.user.now) _ _ s _ _ left.0 left.1 limits fits.0 left.2, left.3)) (λ _ db none. absurd none) c.pull.ensures.crash c.certain.ensures.crash)

pub returns-in-Err-clause-ends : goal.returns-in-Err-clause-ends
returns-in-Err-clause-ends g c clean s stands =
    let here = subst (λ k. Represents g.S.Store k s) (sym c.self.view_is) stands in
    let before : HasCleanDisk (state g.S.Store c.pull.new.conn) = omega (arith, clean, c.certain.ensures.crash.clean) in
    let fits = c.in-Some.ensures.stands in
    let counted : IsCounted c.counts-counts.result s = subst (λ (k : Counters). IsCounted k s) (sym c.counts-counts.ensures) (record { moves = stands.moves; totals = stands.totals }) in
    let limits = ap (λ (k : Counters). k.limits) c.counts-counts.ensures in
    fault_ends g.S.Store g.met.S.Store.settled c.args.self.now _ s (pull c.args.number c.args.user.now) pulled_out c.certain.result
    (λ r is.
    let reported = c.certain.ensures.refused r is in
    let refusal = c.pull.ensures.refused before r (c.in-Err.is ∙ ap Err reported.0) s here.desk counted (omega (arith, fits.2, stands.sentences, here.sentences)) in
    (same_numbered (λ n. pull n c.args.user.now) _ _ s _ _ (refused r) s limits fits.0 refusal.0, stands_in_doubt g.S.Store _ c.certain.new.conn c.certain.new.in_doubt s (subst (λ h. IsDeskOf g.S.Store h s) (sym reported.1) refusal.1) here))
    (c.certain.ensures.open clean)
    (λ opened.
    let mid = desk_kept g.S.Store c.self.inside.conn c.pull.new.conn (c.in-Err.ensures.keeps_records before (c.certain.ensures.was_open clean opened)) s here.desk in
    stands_in_doubt g.S.Store _ c.certain.new.conn c.certain.new.in_doubt s (desk_kept g.S.Store c.pull.new.conn c.certain.new.conn (c.certain.ensures.keeps_records clean opened) s mid) here)
    (λ none. c.pull.ensures.fails before c.self.invariant.unlimited s here.desk counted (omega (arith, fits.2, stands.sentences, here.sentences)) (c.in-Err.is ∙ ap Err (c.certain.ensures.desk none)))
    (λ none. c.pull.ensures.output (c.in-Err.is ∙ ap Err (c.certain.ensures.output none)))

pub returns-in_default-clause-ends : goal.returns-in_default-clause-ends
returns-in_default-clause-ends g c clean s stands =
    fault_ends g.S.Store g.met.S.Store.settled c.args.self.now c.args.self.now s (pull c.args.number c.args.user.now) pulled_out c.no_pull.result
    (λ r is.
    let here = subst (λ k. Represents g.S.Store k s) (sym c.self.view_is) stands in
    let counted : IsCounted c.counts-counts.result s = subst (λ (k : Counters). IsCounted k s) (sym c.counts-counts.ensures) (record { moves = stands.moves; totals = stands.totals }) in
    let limits = ap (λ (k : Counters). k.limits) c.counts-counts.ensures in
    let refusal = c.no_pull.ensures.refused r is s (λ place x has.
    let low = sentence_within s c.args.number place x has in
    c.in_default.ensures.lacks refl low.0 (omega (arith, low.1, stands.sentences, here.sentences))) counted.moves in
    (same_numbered (λ n. pull n c.args.user.now) _ _ s _ _ (refused r) s limits refl refusal, stands))
    (λ _. stands.desk.holds.is_open)
    (λ _. stands)
    (λ bad.
    let here = subst (λ k. Represents g.S.Store k s) (sym c.self.view_is) stands in
    let counted : IsCounted c.counts-counts.result s = subst (λ (k : Counters). IsCounted k s) (sym c.counts-counts.ensures) (record { moves = stands.moves; totals = stands.totals }) in
    c.no_pull.ensures.fails s (λ place x has.
    let low = sentence_within s c.args.number place x has in
    c.in_default.ensures.lacks refl low.0 (omega (arith, low.1, stands.sentences, here.sentences))) counted.moves bad)
    c.no_pull.ensures.output

pub returns-in-Err-clause-cause : goal.returns-in-Err-clause-cause
returns-in-Err-clause-cause g c clean s stands good is =
    let here = subst (λ k. Represents g.S.Store k s) (sym c.self.view_is) stands in
    let before : HasCleanDisk (state g.S.Store c.pull.new.conn) = omega (arith, clean, c.certain.ensures.crash.clean) in
    let calm = subst (λ (k : Kept _). IsFaultless g.S.Store k.conn c.certain.new.conn) (sym c.self.view_is) good in
    let fits = c.in-Some.ensures.stands in
    let counted : IsCounted c.counts-counts.result s = subst (λ (k : Counters). IsCounted k s) (sym c.counts-counts.ensures) (record { moves = stands.moves; totals = stands.totals }) in
    let one = c.pull.ensures.crash in
    let two = c.certain.ensures.crash in
    let fine = c.pull.ensures.cause (command_calm g.S.Store c.self.inside.conn c.pull.new.conn c.certain.new.conn one two calm clean) before c.self.invariant.unlimited s here.desk counted (omega (arith, fits.2, stands.sentences, here.sentences)) in (
      doubted g.S.Store c.self.inside.conn c.pull.new.conn c.certain.new.conn one two calm clean c.pull.result _ c.certain.result c.certain.new.in_doubt c.in-Err.is fine c.certain.ensures.cause is,
      as_before g.S.Store c.args.self.now _ (pull c.args.number c.args.user.now) pulled_out s c.certain.result (returns-in-Err-clause-ends g c clean s stands) is (stays_open g.S.Store c.self.inside.conn c.pull.new.conn c.certain.new.conn one two calm clean),
    )

pub returns-in_default-clause-cause : goal.returns-in_default-clause-cause
returns-in_default-clause-cause g c clean s stands good is = absurd (c.no_pull.ensures.cause is)

pub returns-in-Ok-clause-missing : goal.returns-in-Ok-clause-missing
returns-in-Ok-clause-missing g c s stands none =
    let at = c.in-Some.ensures.stands in
    let here = subst (λ k. Represents g.S.Store k s) (sym c.self.view_is) stands in
    let it = sentence_there s c.args.number c.in-Some.at at.0 at.1 (omega (arith, at.2, stands.sentences, here.sentences)) in
    absurd (none _ it.0 it.2)

pub returns-in-Err-clause-missing : goal.returns-in-Err-clause-missing
returns-in-Err-clause-missing g c s stands none =
    let at = c.in-Some.ensures.stands in
    let here = subst (λ k. Represents g.S.Store k s) (sym c.self.view_is) stands in
    let it = sentence_there s c.args.number c.in-Some.at at.0 at.1 (omega (arith, at.2, stands.sentences, here.sentences)) in
    absurd (none _ it.0 it.2)

pub returns-in_default-clause-missing : goal.returns-in_default-clause-missing
returns-in_default-clause-missing g c s stands none =
    let here = subst (λ k. Represents g.S.Store k s) (sym c.self.view_is) stands in
    let counted : IsCounted c.counts-counts.result s = subst (λ (k : Counters). IsCounted k s) (sym c.counts-counts.ensures) (record { moves = stands.moves; totals = stands.totals }) in
    let fails = c.no_pull.ensures.fails s (λ place x has.
    let low = sentence_within s c.args.number place x has in
    c.in_default.ensures.lacks refl low.0 (omega (arith, low.1, stands.sentences, here.sentences))) counted.moves in
    let it = only_refused c.no_pull.result c.no_pull.ensures.memory c.no_pull.ensures.cause fails c.no_pull.ensures.output in
    (it.0, ap Err it.1)

pub returns-in-Err-clause-doubt : goal.returns-in-Err-clause-doubt
returns-in-Err-clause-doubt g c so = elim (c.certain.ensures.doubt so) [ inl was ↦ inl (subst (λ (k : Kept _). IsTrue k.in_doubt) c.self.view_is was) | inr it ↦ inr (ap Err it.0) ]
