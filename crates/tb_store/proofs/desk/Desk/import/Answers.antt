use Rattle.std.proofs.Common.{◌≡◌, ◌∙◌, length, sym, ap, subst, IsTrue, inl, inr, Err, rules, arith}
use Rattle.sqlite.specs.Held.{state}
use Rattle.sqlite.specs.State.{HasCleanDisk}
use Rattle.tb_refine.specs.DeskTables.{IsDeskOf}
use Rattle.sqlite.proofs.StateLemmas.{survives_then, survives_weaker}
use Rattle.tb_core.specs.Commands.{import_file, replied, refused, imported}
use Rattle.tb_core.specs.Steps.{Steps}
use Rattle.tb_import.specs.declared.counters.ImportCounters.{ImportCounters}
use Rattle.tb_refine.specs.Room.{HasRoomIfWritten}
use Rattle.tb_store.specs.Kept.{Kept, known_of}
use Rattle.tb_store.specs.Represents.{Represents}
use Rattle.tb_refine.proofs.Unchanged.{desk_kept}
use Rattle.tb_tables.specs.Changes.{HasRevisionRowids}
use Rattle.tb_tables.specs.Leaving.{IsFaultless}
use Rattle.tb_store.proofs.Blamed.{command_calm, stays_open, doubted, as_before}
use Rattle.tb_store.proofs.Lasting.{durable, fault_ends}
use Rattle.tb_store.proofs.Represented.{still_stands, stands_in_doubt, is_known}
use Rattle.tb_store.proofs.desk.Desk.import.Goals as goal

pub returns-in-Ok-default-Some-clause-ends : goal.returns-in-Ok-default-Some-clause-ends
returns-in-Ok-default-Some-clause-ends g c clean s stands =
    let here = subst (λ k. Represents g.S.Store k s) (sym c.self.view_is) stands in
    let known_is : c.known-known.result ≡ known_of c.args.self.now = search rules in
    let known = is_known g.S.Store c.args.self.now c.known-known.result s known_is stands in
    let made = (rw c.in-Ok-default-Some.field-0-1-is at c.in-Ok-default-Some.ensures.answered) clean s here.desk known in (
      made.next,
      subst (λ (k : ImportCounters). Steps k.counts.limits s (import_file c.args.name.now c.args.user.now c.args.body.now) (replied (imported c.in-Ok-default-Some.reply)) made.next) known_is made.steps,
      durable g.S.Store g.met.S.Store.settled _ made.next (record {
        desk = made.desk;
        batches = (let was = here.batches in let now = made.batches in omega (arith, was, now));
        sentences = (let was = here.sentences in let now = made.sentences in omega (arith, was, now));
        moves = (let was = here.moves in let now = made.moves in omega (arith, was, now));
        totals = made.totals;
      }),
    )

pub returns-in-Ok-default-Some-clause-crash : goal.returns-in-Ok-default-Some-clause-crash
returns-in-Ok-default-Some-clause-crash g c =
    let same = ap (λ (k : Kept _). state g.S.Store k.conn) c.self.view_is in
    rw (sym same) (survives_weaker (state g.S.Store c.self.inside.conn) (state g.S.Store c.import.new.conn) _ _ (λ _ db whole s stands.
    let here = subst (λ k. Represents g.S.Store k s) (sym c.self.view_is) stands in
    let known_is : c.known-known.result ≡ known_of c.args.self.now = search rules in
    let known = is_known g.S.Store c.args.self.now c.known-known.result s known_is stands in
    let left = whole s here.desk known in
    (left.0, left.1, subst (λ (k : ImportCounters). Steps k.counts.limits s (import_file c.args.name.now c.args.user.now c.args.body.now) left.0 left.1) known_is left.2, left.3)) c.import.ensures.crash)

pub returns-in-Err-clause-crash : goal.returns-in-Err-clause-crash
returns-in-Err-clause-crash g c =
    let same = ap (λ (k : Kept _). state g.S.Store k.conn) c.self.view_is in
    rw (sym same) (survives_then (state g.S.Store c.self.inside.conn) (state g.S.Store c.import.new.conn) (state g.S.Store c.certain.new.conn) _ _ _ (λ _ db whole s stands.
    let here = subst (λ k. Represents g.S.Store k s) (sym c.self.view_is) stands in
    let known_is : c.known-known.result ≡ known_of c.args.self.now = search rules in
    let known = is_known g.S.Store c.args.self.now c.known-known.result s known_is stands in
    let left = whole s here.desk known in
    (left.0, left.1, subst (λ (k : ImportCounters). Steps k.counts.limits s (import_file c.args.name.now c.args.user.now c.args.body.now) left.0 left.1) known_is left.2, left.3)) (λ _ db none. absurd none) c.import.ensures.crash c.certain.ensures.crash)

pub returns-in-Ok-default-None-clause-ends : goal.returns-in-Ok-default-None-clause-ends
returns-in-Ok-default-None-clause-ends g c clean s stands =
    let here = subst (λ k. Represents g.S.Store k s) (sym c.self.view_is) stands in
    let known_is : c.known-known.result ≡ known_of c.args.self.now = search rules in
    let known = is_known g.S.Store c.args.self.now c.known-known.result s known_is stands in
    let both = (rw c.in-Ok-default-None.field-0-1-is at c.in-Ok-default-None.ensures.answered) clean s here.desk known in
    let stays = still_stands g.S.Store _ c.import.new.conn s both.1 here in
    (s, subst (λ (k : ImportCounters). Steps k.counts.limits s (import_file c.args.name.now c.args.user.now c.args.body.now) (replied (imported c.in-Ok-default-None.reply)) s) known_is both.0, durable g.S.Store g.met.S.Store.settled _ s stays)

pub returns-in-Err-clause-ends : goal.returns-in-Err-clause-ends
returns-in-Err-clause-ends g c clean s stands =
    let here = subst (λ k. Represents g.S.Store k s) (sym c.self.view_is) stands in
    let before : HasCleanDisk (state g.S.Store c.import.new.conn) = omega (arith, clean, c.certain.ensures.crash.clean) in
    let known_is : c.known-known.result ≡ known_of c.args.self.now = search rules in
    let known = is_known g.S.Store c.args.self.now c.known-known.result s known_is stands in
    fault_ends g.S.Store g.met.S.Store.settled c.args.self.now _ s (import_file c.args.name.now c.args.user.now c.args.body.now) imported c.certain.result
    (λ r is.
    let reported = c.certain.ensures.refused r is in
    let both = c.import.ensures.refused before r (c.in-Err.is ∙ ap Err reported.0) s here.desk known in (
      subst (λ (k : ImportCounters). Steps k.counts.limits s (import_file c.args.name.now c.args.user.now c.args.body.now) (refused r) s) known_is both.0,
      stands_in_doubt g.S.Store _ c.certain.new.conn c.certain.new.in_doubt s (subst (λ h. IsDeskOf g.S.Store h s) (sym reported.1) both.1) here,
    ))
    (c.certain.ensures.open clean)
    (λ opened.
    let mid = desk_kept g.S.Store c.self.inside.conn c.import.new.conn (c.in-Err.ensures.keeps_records before (c.certain.ensures.was_open clean opened)) s here.desk in
    stands_in_doubt g.S.Store _ c.certain.new.conn c.certain.new.in_doubt s (desk_kept g.S.Store c.import.new.conn c.certain.new.conn (c.certain.ensures.keeps_records clean opened) s mid) here)
    (λ none. c.import.ensures.fails before c.self.invariant.unlimited s here.desk known (c.in-Err.is ∙ ap Err (c.certain.ensures.desk none)))
    (λ none. c.import.ensures.output (c.in-Err.is ∙ ap Err (c.certain.ensures.output none)))

pub returns-in-Err-clause-cause : goal.returns-in-Err-clause-cause
returns-in-Err-clause-cause g c clean s stands good room is =
    let here = subst (λ k. Represents g.S.Store k s) (sym c.self.view_is) stands in
    let before : HasCleanDisk (state g.S.Store c.import.new.conn) = omega (arith, clean, c.certain.ensures.crash.clean) in
    let calm = subst (λ (k : Kept _). IsFaultless g.S.Store k.conn c.certain.new.conn) (sym c.self.view_is) good in
    let known_is : c.known-known.result ≡ known_of c.args.self.now = search rules in
    let known = is_known g.S.Store c.args.self.now c.known-known.result s known_is stands in
    let there : HasRoomIfWritten c.known-known.result.counts.limits s (import_file c.args.name.now c.args.user.now c.args.body.now) c.args.body.now (length c.args.body.now) (state g.S.Store c.self.inside.conn) = λ reply t steps more.
    let has = room reply t (subst (λ (k : ImportCounters). Steps k.counts.limits s (import_file c.args.name.now c.args.user.now c.args.body.now) (replied reply) t) known_is steps) more in
    (has.0, subst (λ (k : Kept _). HasRevisionRowids (state g.S.Store k.conn) (length c.args.body.now)) (sym c.self.view_is) has.1) in
    let one = c.import.ensures.crash in
    let two = c.certain.ensures.crash in
    let fine = c.import.ensures.cause (command_calm g.S.Store c.self.inside.conn c.import.new.conn c.certain.new.conn one two calm clean) before c.self.invariant.unlimited s here.desk known there in (
      doubted g.S.Store c.self.inside.conn c.import.new.conn c.certain.new.conn one two calm clean c.import.result _ c.certain.result c.certain.new.in_doubt c.in-Err.is fine c.certain.ensures.cause is,
      as_before g.S.Store c.args.self.now _ (import_file c.args.name.now c.args.user.now c.args.body.now) imported s c.certain.result (returns-in-Err-clause-ends g c clean s stands) is (stays_open g.S.Store c.self.inside.conn c.import.new.conn c.certain.new.conn one two calm clean),
    )

pub returns-in-Err-clause-doubt : goal.returns-in-Err-clause-doubt
returns-in-Err-clause-doubt g c so = elim (c.certain.ensures.doubt so) [ inl was ↦ inl (subst (λ (k : Kept _). IsTrue k.in_doubt) c.self.view_is was) | inr it ↦ inr (ap Err it.0) ]
