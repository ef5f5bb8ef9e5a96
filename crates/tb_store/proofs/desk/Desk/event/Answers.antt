use Rattle.std.proofs.Common.{◌≡◌, ◌+◌, arith, sym, ap, subst, ◌∙◌, IsTrue, inl, inr, Err, rules}
use Rattle.sqlite.specs.Held.{Held, state}
use Rattle.sqlite.specs.State.{HasCleanDisk, Survives}
use Rattle.sqlite.proofs.StateLemmas.{survives_then, survives_weaker}
use Rattle.tb_core.specs.Machine.{Machine}
use Rattle.tb_core.specs.Commands.{Answer, event_on, replied, refused, moved_on}
use Rattle.tb_core.specs.Steps.{Steps}
use Rattle.tb_tables.specs.Records.{AreStored}
use Rattle.tb_refine.specs.DeskTables.{tables_of, IsDeskOf}
use Rattle.tb_refine.specs.declared.counters.Counters.{Counters}
use Rattle.tb_store.specs.Kept.{Kept, counts_of}
use Rattle.tb_store.specs.Represents.{Represents}
use Rattle.tb_refine.specs.Counted.{IsCounted}
use Rattle.tb_refine.proofs.Unchanged.{desk_kept}
use Rattle.tb_tables.specs.Leaving.{IsFaultless}
use Rattle.tb_store.proofs.Blamed.{command_calm, stays_open, doubted, as_before}
use Rattle.tb_store.proofs.Lasting.{durable, fault_ends}
use Rattle.tb_store.proofs.Represented.{stands_in_doubt}
use Rattle.tb_store.proofs.desk.Desk.event.Goals as goal

pub returns-in-Ok-clause-ends : goal.returns-in-Ok-clause-ends
returns-in-Ok-clause-ends g c clean s stands =
    let here = subst (λ k. Represents g.S.Store k s) (sym c.self.view_is) stands in
    let counts_is : c.counts-counts.result ≡ counts_of c.args.self.now = search rules in
    let counted = subst (λ (k : Counters). IsCounted k s) (sym counts_is) (record { moves = stands.moves; totals = stands.totals }) in
    let done = c.in-Ok.ensures.answered clean s here.desk counted in (
      done.next,
      subst (λ (k : Counters). Steps k.limits s (event_on c.args.name.now c.args.event c.args.user.now) (replied (moved_on c.in-Ok.reply)) done.next) counts_is done.steps,
      durable g.S.Store g.met.S.Store.settled _ done.next (record {
        desk = done.desk;
        batches = here.batches ∙ sym done.batches;
        sentences = here.sentences ∙ sym done.sentences;
        moves = ap (λ n. n + 1) here.moves ∙ sym done.moves;
        totals = done.totals;
      }),
    )

pub returns-in-Ok-clause-crash : goal.returns-in-Ok-clause-crash
returns-in-Ok-clause-crash g c =
    let conn_is : c.self.inside.conn ≡ c.args.self.now.conn = ap (λ (k : Kept g.row.S.Denot). k.conn) c.self.view_is in
    let counts_is : c.counts-counts.result ≡ counts_of c.args.self.now = search rules in
    subst (λ (h : Held g.row.S.Denot). Survives (state g.S.Store h) (state g.S.Store c.event.new.conn) (λ db. (s : Machine) → Represents g.S.Store c.args.self.now s → (a : Answer) × (t : Machine) × Steps c.args.self.now.limits s (event_on c.args.name.now c.args.event c.args.user.now) a t × AreStored (tables_of t) db)) conn_is
    (survives_weaker (state g.S.Store c.self.inside.conn) (state g.S.Store c.event.new.conn) _ _ (λ _ db whole s stands.
    let here = subst (λ k. Represents g.S.Store k s) (sym c.self.view_is) stands in
    let counted = subst (λ (k : Counters). IsCounted k s) (sym counts_is) (record { moves = stands.moves; totals = stands.totals }) in
    let found = whole s here.desk counted in
    (found.0, found.1, subst (λ (k : Counters). Steps k.limits s (event_on c.args.name.now c.args.event c.args.user.now) found.0 found.1) counts_is found.2, found.3)) c.event.ensures.crash)

pub returns-in-Err-clause-crash : goal.returns-in-Err-clause-crash
returns-in-Err-clause-crash g c =
    let conn_is : c.self.inside.conn ≡ c.args.self.now.conn = ap (λ (k : Kept g.row.S.Denot). k.conn) c.self.view_is in
    let counts_is : c.counts-counts.result ≡ counts_of c.args.self.now = search rules in
    subst (λ (h : Held g.row.S.Denot). Survives (state g.S.Store h) (state g.S.Store c.certain.new.conn) (λ db. (s : Machine) → Represents g.S.Store c.args.self.now s → (a : Answer) × (t : Machine) × Steps c.args.self.now.limits s (event_on c.args.name.now c.args.event c.args.user.now) a t × AreStored (tables_of t) db)) conn_is
    (survives_then (state g.S.Store c.self.inside.conn) (state g.S.Store c.event.new.conn) (state g.S.Store c.certain.new.conn) _ _ _ (λ _ db whole s stands.
    let here = subst (λ k. Represents g.S.Store k s) (sym c.self.view_is) stands in
    let counted = subst (λ (k : Counters). IsCounted k s) (sym counts_is) (record { moves = stands.moves; totals = stands.totals }) in
    let found = whole s here.desk counted in
    (found.0, found.1, subst (λ (k : Counters). Steps k.limits s (event_on c.args.name.now c.args.event c.args.user.now) found.0 found.1) counts_is found.2, found.3)) (λ _ db none. absurd none) c.event.ensures.crash c.certain.ensures.crash)

pub returns-in-Err-clause-ends : goal.returns-in-Err-clause-ends
returns-in-Err-clause-ends g c clean s stands =
    let here = subst (λ k. Represents g.S.Store k s) (sym c.self.view_is) stands in
    let before : HasCleanDisk (state g.S.Store c.event.new.conn) = omega (arith, clean, c.certain.ensures.crash.clean) in
    let counts_is : c.counts-counts.result ≡ counts_of c.args.self.now = search rules in
    let counted = subst (λ (k : Counters). IsCounted k s) (sym counts_is) (record { moves = stands.moves; totals = stands.totals }) in
    fault_ends g.S.Store g.met.S.Store.settled c.args.self.now _ s (event_on c.args.name.now c.args.event c.args.user.now) moved_on c.certain.result
    (λ r is.
    let reported = c.certain.ensures.refused r is in
    let both = c.event.ensures.refused before r (c.in-Err.is ∙ ap Err reported.0) s here.desk counted in (
      subst (λ (k : Counters). Steps k.limits s (event_on c.args.name.now c.args.event c.args.user.now) (refused r) s) counts_is both.0,
      stands_in_doubt g.S.Store _ c.certain.new.conn c.certain.new.in_doubt s (subst (λ h. IsDeskOf g.S.Store h s) (sym reported.1) both.1) here,
    ))
    (c.certain.ensures.open clean)
    (λ opened.
    let mid = desk_kept g.S.Store c.self.inside.conn c.event.new.conn (c.in-Err.ensures.keeps_records before (c.certain.ensures.was_open clean opened)) s here.desk in
    stands_in_doubt g.S.Store _ c.certain.new.conn c.certain.new.in_doubt s (desk_kept g.S.Store c.event.new.conn c.certain.new.conn (c.certain.ensures.keeps_records clean opened) s mid) here)
    (λ none. c.event.ensures.fails before c.self.invariant.unlimited s here.desk counted (c.in-Err.is ∙ ap Err (c.certain.ensures.desk none)))
    (λ none. c.event.ensures.output (c.in-Err.is ∙ ap Err (c.certain.ensures.output none)))

pub returns-in-Err-clause-cause : goal.returns-in-Err-clause-cause
returns-in-Err-clause-cause g c clean s stands good is =
    let here = subst (λ k. Represents g.S.Store k s) (sym c.self.view_is) stands in
    let before : HasCleanDisk (state g.S.Store c.event.new.conn) = omega (arith, clean, c.certain.ensures.crash.clean) in
    let calm = subst (λ (k : Kept _). IsFaultless g.S.Store k.conn c.certain.new.conn) (sym c.self.view_is) good in
    let counts_is : c.counts-counts.result ≡ counts_of c.args.self.now = search rules in
    let counted = subst (λ (k : Counters). IsCounted k s) (sym counts_is) (record { moves = stands.moves; totals = stands.totals }) in
    let one = c.event.ensures.crash in
    let two = c.certain.ensures.crash in
    let fine = c.event.ensures.cause (command_calm g.S.Store c.self.inside.conn c.event.new.conn c.certain.new.conn one two calm clean) before c.self.invariant.unlimited s here.desk counted in (
      doubted g.S.Store c.self.inside.conn c.event.new.conn c.certain.new.conn one two calm clean c.event.result _ c.certain.result c.certain.new.in_doubt c.in-Err.is fine c.certain.ensures.cause is,
      as_before g.S.Store c.args.self.now _ (event_on c.args.name.now c.args.event c.args.user.now) moved_on s c.certain.result (returns-in-Err-clause-ends g c clean s stands) is (stays_open g.S.Store c.self.inside.conn c.event.new.conn c.certain.new.conn one two calm clean),
    )

pub returns-in-Err-clause-doubt : goal.returns-in-Err-clause-doubt
returns-in-Err-clause-doubt g c so = elim (c.certain.ensures.doubt so) [ inl was ↦ inl (subst (λ (k : Kept _). IsTrue k.in_doubt) c.self.view_is was) | inr it ↦ inr (ap Err it.0) ]
