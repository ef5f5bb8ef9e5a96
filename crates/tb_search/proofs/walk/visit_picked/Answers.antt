use Rattle.std.proofs.Common.{ap, Err, ◌<◌, ◌≤◌, get_or, length, refl, ◌∙◌, rules, arith, is_ok, true, false}
use Rattle.std.proofs.lemmas.List.{drop_more}
use Rattle.std.proofs.lemmas.Result.{err_from_is_err_and}
use Rattle.sqlite.specs.State.{HasCleanDisk}
use Rattle.sqlite.specs.Held.{state}
use Rattle.sqlite_trees.specs.declared.error.StoreError.TheVariants.{OutOfMemory}
use Rattle.tb_tables.proofs.Causes.{faultless_first, faultless_next}
use Rattle.tb_search.specs.Picked.{picked, bodies}
use Rattle.tb_search.proofs.Walking.{walk_starts, halts_here, none_left, some_taken, one_more, one_stopped, err_is, of_store, not_form}
use Rattle.tb_reads.proofs.ReadOnly.{read_then, read_on, read_failed, row_given, row_refused}
use Rattle.tb_reads.specs.ReadOnly.{IsReadOnly}
use Rattle.tb_search.proofs.walk.visit_picked.Goals as goal

-- ---- one turn

pub rows-init : goal.rows-init
rows-init g c =
    let made = c.in_ok-rows.ensures in
    (refl, made.read_only, (λ clean has xs each rises shows. walk_starts g.S.Store g.V.BodyVisitor.Takes _ c.args.picks.now c.args.visitor.now c.args.filled.now xs (made.ok clean has xs each rises shows)))

pub rows-preserved : goal.rows-preserved
rows-preserved g c =
    let moved = c.next_body.follows.holds-at-none in
    let old = state g.S.Store c.args.conn.now in
    let mid = state g.S.Store c.rows.rows.conn.now in
    let conn = c.next_body.follows.lender-at-none.conn.now in
    let now = state g.S.Store conn in
    let inv = c.rows.invariant in
    let picks = c.args.picks.now in
    let next = c.rows.next in
    let low : next < length picks = search rules in
    let here = drop_more picks next (record { sent = 0; rev = 0 }) low in (
      moved.same_reference ∙ inv.0,
      read_then inv.1 (row_given g.S.Store c.rows.rows.conn.now conn (λ clean. rw c.in_ok-body.was at (moved.same clean)) moved.mode moved.survives),
      (λ clean has xs each rises shows.
          let was = inv.2 (omega (arith, clean, moved.survives.clean)) has xs each rises shows in
          let gone = (rw (c.in_ok-body.was, c.in-Some.is) at (moved.ok clean)) was.left was.coming in
          one_more g.V.BodyVisitor.Takes g.V.BodyVisitor.Stops g.S.Store c.rows.rows.conn.now picks c.args.visitor.now c.args.filled.now c.rows.visitor c.rows.filled xs conn next (get_or picks next (record { sent = 0; rev = 0 })) c.in-Some.body was here gone _ c.visit_asked.new.visitor c.visit_asked.new.filled c.in_ok-next.ensures.taken),
    )

-- ---- what each exit leaves

pub returns-in_err-rows-clause-halted : goal.returns-in_err-rows-clause-halted
returns-in_err-rows-clause-halted g c clean =
    let reported = err_from_is_err_and c.from_residual.result c.from_residual.ensures.1 in
    err_is _ _ _ reported.0 reported.1 reported.2 (λ has xs each rises shows. halts_here g.V.BodyVisitor.Takes g.V.BodyVisitor.Stops (bodies (picked c.args.picks.now xs)) c.args.visitor.now c.args.filled.now _ (of_store _))

pub returns-in_default-clause-taken : goal.returns-in_default-clause-taken
returns-in_default-clause-taken g c clean has xs each rises shows =
    let moved = c.next_body.follows.holds-at-none in
    let late : HasCleanDisk (state g.S.Store c.next_body.follows.lender-at-none.conn.now) = search rules in
    let was = c.rows.invariant.2 (omega (arith, moved.survives.clean)) has xs each rises shows in
    let ended = (rw (c.in_ok-body.was, c.in_default.is) at (moved.ok late)) was.left was.coming in
    none_left g.V.BodyVisitor.Takes g.V.BodyVisitor.Stops g.S.Store c.rows.rows.conn.now c.args.picks.now c.args.visitor.now c.args.filled.now c.rows.visitor c.rows.filled xs c.rows.next was ended

pub returns-in_err-body-clause-halted : goal.returns-in_err-body-clause-halted
returns-in_err-body-clause-halted g c clean =
    let moved = c.next_body.follows.holds-at-none in
    let late : HasCleanDisk (state g.S.Store c.next_body.follows.lender-at-none.conn.now) = search rules in
    let reported = err_from_is_err_and c.from_residual-in_err-body.result c.from_residual-in_err-body.ensures.1 in
    err_is _ _ _ reported.0 reported.1 reported.2 (λ has xs each rises shows.
    let it = c.rows.invariant.2 (omega (arith, moved.survives.clean)) has xs each rises shows in
    let form = rw c.in_err-body.was at (moved.form late) in
    some_taken g.V.BodyVisitor.Takes g.V.BodyVisitor.Stops g.S.Store c.rows.rows.conn.now c.args.picks.now c.args.visitor.now c.args.filled.now c.rows.visitor c.rows.filled xs c.rows.next _ (not_form _ (λ same. form (ap Err same) it.left it.coming)) it)

pub returns-in_err-next-clause-halted : goal.returns-in_err-next-clause-halted
returns-in_err-next-clause-halted g c clean =
    let moved = c.next_body.follows.holds-at-none in
    let late : HasCleanDisk (state g.S.Store c.next_body.follows.lender-at-none.conn.now) = search rules in
    let reported = err_from_is_err_and c.from_residual-in_err-next.result c.from_residual-in_err-next.ensures.1 in
    let stopped = rw c.in_err-next.was at c.visit_asked.ensures.stopped in
    let picks = c.args.picks.now in
    let low : c.rows.next < length picks = search rules in
    let here = drop_more picks c.rows.next (record { sent = 0; rev = 0 }) low in
    err_is _ _ _ reported.0 reported.1 reported.2 (λ has xs each rises shows.
    let was = c.rows.invariant.2 (omega (arith, moved.survives.clean)) has xs each rises shows in
    let gone = (rw (c.in_ok-body.was, c.in-Some.is) at (moved.ok late)) was.left was.coming in
    one_stopped g.V.BodyVisitor.Takes g.V.BodyVisitor.Stops g.S.Store c.rows.rows.conn.now picks c.args.visitor.now c.args.filled.now c.rows.visitor c.rows.filled xs c.next_body.follows.lender-at-none.conn.now c.rows.next (get_or picks c.rows.next (record { sent = 0; rev = 0 })) c.in-Some.body was here gone _ c.visit_asked.new.filled stopped.0 stopped.1)

pub returns-clause-halted : goal.returns-clause-halted
returns-clause-halted g c clean has xs each rises shows =
    let late : HasCleanDisk (state g.S.Store c.rows.rows.conn.now) = search rules in
    some_taken g.V.BodyVisitor.Takes g.V.BodyVisitor.Stops g.S.Store c.rows.rows.conn.now c.args.picks.now c.args.visitor.now c.args.filled.now c.rows.visitor c.rows.filled xs c.rows.next _ (of_store _) (c.rows.invariant.2 late has xs each rises shows)

pub returns-in_err-rows-clause-read_only : goal.returns-in_err-rows-clause-read_only
returns-in_err-rows-clause-read_only g c =
    let left = rw c.in_err-rows.was at c.bodies.follows.holds-at-none in
    read_failed c.from_residual.result _ c.from_residual.ensures.1 left.read_only

pub returns-then-next-picks-clause-read_only : goal.returns-then-next-picks-clause-read_only
returns-then-next-picks-clause-read_only g c =
    let here : IsReadOnly g.S.Store c.args.conn.now c.rows.rows.conn.now true = c.rows.invariant.1 in
    search rules

pub returns-in_err-body-clause-read_only : goal.returns-in_err-body-clause-read_only
returns-in_err-body-clause-read_only g c =
    let moved = c.next_body.follows.holds-at-none in
    let conn = c.next_body.follows.lender-at-none.conn.now in
    let row = row_refused g.S.Store c.rows.rows.conn.now conn moved.mode moved.kept moved.survives in
    let here : IsReadOnly g.S.Store c.args.conn.now conn (is_ok c.from_residual-in_err-body.result) = read_failed c.from_residual-in_err-body.result _ c.from_residual-in_err-body.ensures.1 (read_then c.rows.invariant.1 row) in
    search rules

pub returns-in_default-clause-read_only : goal.returns-in_default-clause-read_only
returns-in_default-clause-read_only g c =
    let moved = c.next_body.follows.holds-at-none in
    let conn = c.next_body.follows.lender-at-none.conn.now in
    let row = row_given g.S.Store c.rows.rows.conn.now conn (λ clean. rw c.in_ok-body.was at (moved.same clean)) moved.mode moved.survives in
    let here : IsReadOnly g.S.Store c.args.conn.now conn true = read_then c.rows.invariant.1 row in
    search rules

pub returns-in_err-next-clause-read_only : goal.returns-in_err-next-clause-read_only
returns-in_err-next-clause-read_only g c =
    let moved = c.next_body.follows.holds-at-none in
    let conn = c.next_body.follows.lender-at-none.conn.now in
    let row = row_given g.S.Store c.rows.rows.conn.now conn (λ clean. rw c.in_ok-body.was at (moved.same clean)) moved.mode moved.survives in
    let here : IsReadOnly g.S.Store c.args.conn.now conn (is_ok c.from_residual-in_err-next.result) = read_on _ (read_then c.rows.invariant.1 row) in
    search rules

pub returns-clause-read_only : goal.returns-clause-read_only
returns-clause-read_only g c =
    let here : IsReadOnly g.S.Store c.args.conn.now c.rows.rows.conn.now false = read_on false c.rows.invariant.1 in
    search rules

-- ---- an error is a fault of the store

pub returns-in_err-rows-clause-fails : goal.returns-in_err-rows-clause-fails
returns-in_err-rows-clause-fails g c clean unlimited =
    let reported = err_from_is_err_and c.from_residual.result c.from_residual.ensures.1 in
    let left = rw c.in_err-rows.was at c.bodies.follows.holds-at-none in
    err_is _ _ _ reported.0 reported.1 reported.2 (λ has xs each rises shows. left.fails clean unlimited has)

pub returns-in_err-body-clause-fails : goal.returns-in_err-body-clause-fails
returns-in_err-body-clause-fails g c clean unlimited =
    let moved = c.next_body.follows.holds-at-none in
    let late : HasCleanDisk (state g.S.Store c.next_body.follows.lender-at-none.conn.now) = search rules in
    let reported = err_from_is_err_and c.from_residual-in_err-body.result c.from_residual-in_err-body.ensures.1 in
    let fault = rw c.in_err-body.was at (moved.fails late (c.rows.invariant.1.commits_nothing.limit ∙ unlimited)) in
    err_is _ _ _ reported.0 reported.1 reported.2 (λ has xs each rises shows.
    let it = c.rows.invariant.2 (omega (arith, moved.survives.clean)) has xs each rises shows in
    fault it.left it.coming)

pub returns-in_err-next-clause-fails : goal.returns-in_err-next-clause-fails
returns-in_err-next-clause-fails g c clean unlimited =
    let reported = err_from_is_err_and c.from_residual-in_err-next.result c.from_residual-in_err-next.ensures.1 in
    let fault = rw c.in_err-next.was at c.visit_asked.ensures.fails in
    err_is _ _ _ reported.0 reported.1 reported.2 (λ has xs each rises shows. fault)

pub returns-clause-fails : goal.returns-clause-fails
returns-clause-fails g c clean unlimited has xs each rises shows = (OutOfMemory, refl)

-- ---- and where the disk fails at nothing, want of memory

pub returns-in_err-rows-clause-cause : goal.returns-in_err-rows-clause-cause
returns-in_err-rows-clause-cause g c good clean unlimited =
    let reported = err_from_is_err_and c.from_residual.result c.from_residual.ensures.1 in
    let left = rw c.in_err-rows.was at c.bodies.follows.holds-at-none in
    err_is _ _ _ reported.0 reported.1 reported.2 (λ has xs each rises shows. left.cause good clean unlimited has)

pub returns-in_err-body-clause-cause : goal.returns-in_err-body-clause-cause
returns-in_err-body-clause-cause g c good clean unlimited =
    let moved = c.next_body.follows.holds-at-none in
    let old = state g.S.Store c.args.conn.now in
    let mid = state g.S.Store c.rows.rows.conn.now in
    let now = state g.S.Store c.next_body.follows.lender-at-none.conn.now in
    let end = state g.S.Store c.conn-in_err-body-1.given.0 in
    let late : HasCleanDisk now = search rules in
    let early : HasCleanDisk mid = omega (arith, moved.survives.clean) in
    let more : now.faults ≤ end.faults = search rules in
    let here = faultless_next old mid now (faultless_first old now end good more) c.rows.invariant.1.commits_nothing early moved.survives.counts in
    let reported = err_from_is_err_and c.from_residual-in_err-body.result c.from_residual-in_err-body.ensures.1 in
    let want = rw c.in_err-body.was at (moved.cause here late (c.rows.invariant.1.commits_nothing.limit ∙ unlimited)) in
    err_is _ _ _ reported.0 reported.1 reported.2 (λ has xs each rises shows.
    let it = c.rows.invariant.2 early has xs each rises shows in
    want it.left it.coming)

pub returns-in_err-next-clause-cause : goal.returns-in_err-next-clause-cause
returns-in_err-next-clause-cause g c good clean unlimited =
    let reported = err_from_is_err_and c.from_residual-in_err-next.result c.from_residual-in_err-next.ensures.1 in
    let want = rw c.in_err-next.was at c.visit_asked.ensures.cause in
    err_is _ _ _ reported.0 reported.1 reported.2 (λ has xs each rises shows. want)

pub returns-clause-cause : goal.returns-clause-cause
returns-clause-cause g c good clean unlimited has xs each rises shows = refl
