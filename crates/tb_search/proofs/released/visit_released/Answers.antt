use Rattle.std.proofs.Common.{◌≡◌, ◌∙◌, rules, arith}
use Rattle.std.proofs.lemmas.Result.{err_from_is_err_and}
use Rattle.sqlite.specs.Held.{state}
use Rattle.sqlite.specs.State.{HasCleanDisk}
use Rattle.tb_tables.proofs.Causes.{faultless_next}
use Rattle.tb_search.specs.Released.{is_released, released}
use Rattle.tb_search.specs.Visited.{texts}
use Rattle.tb_search.proofs.Visiting.{if_put, if_cut, of_desk, all_visited, some_visited}
use Rattle.tb_search.proofs.Walking.{halts_here, err_is}
use Rattle.tb_reads.proofs.ReadOnly.{read_then, read_failed, was_clean}
use Rattle.tb_refine.proofs.Unchanged.{desk_after}
use Rattle.tb_search.proofs.released.visit_released.Goals as goal

pub returns-clause-taken : goal.returns-clause-taken
returns-clause-taken g c clean = if_put c.visit_picked.result (λ reported s desk.
    let mid = was_clean c.visit_picked.ensures.read_only clean in
    let still = desk_after c.in_ok-picks.ensures.read.read_only mid desk in
    let picks : c.as_slice.result.now ≡ c.in_ok-picks.picks.items = search rules in
    all_visited g.S.Store g.V.BodyVisitor.Takes g.V.BodyVisitor.Stops c.released_picks.new.conn s (is_released s.batches) c.as_slice.result.now (picks ∙ c.in_ok-picks.ensures.picked mid s desk) still (c.desk_rows_are_readable.ensures s desk.reachable) c.args.visitor.now c.args.filled.now _ c.visit_picked.new.filled reported) (c.visit_picked.ensures.taken clean)

pub returns-clause-halted : goal.returns-clause-halted
returns-clause-halted g c clean = if_cut c.visit_picked.result (λ e reported s desk.
    let mid = was_clean c.visit_picked.ensures.read_only clean in
    let still = desk_after c.in_ok-picks.ensures.read.read_only mid desk in
    let picks : c.as_slice.result.now ≡ c.in_ok-picks.picks.items = search rules in
    some_visited g.S.Store g.V.BodyVisitor.Takes g.V.BodyVisitor.Stops c.released_picks.new.conn s (is_released s.batches) c.as_slice.result.now (picks ∙ c.in_ok-picks.ensures.picked mid s desk) still (c.desk_rows_are_readable.ensures s desk.reachable) c.args.visitor.now c.args.filled.now e c.visit_picked.new.filled reported) (c.visit_picked.ensures.halted clean)

pub returns-in_err-picks-clause-halted : goal.returns-in_err-picks-clause-halted
returns-in_err-picks-clause-halted g c clean =
    let reported = err_from_is_err_and c.from_residual.result c.from_residual.ensures.1 in
    err_is _ _ _ reported.0 reported.1 reported.2 (λ s desk. halts_here g.V.BodyVisitor.Takes g.V.BodyVisitor.Stops (texts (released s)) c.args.visitor.now c.args.filled.now _ (c.in_err-picks.ensures.read.fault clean s desk))

pub returns-in_err-picks-clause-fails : goal.returns-in_err-picks-clause-fails
returns-in_err-picks-clause-fails g c clean unlimited =
    let reported = err_from_is_err_and c.from_residual.result c.from_residual.ensures.1 in
    err_is _ _ _ reported.0 reported.1 reported.2 (λ s desk. c.in_err-picks.ensures.read.fails clean unlimited s desk)

pub returns-clause-fails : goal.returns-clause-fails
returns-clause-fails g c clean unlimited = if_cut c.visit_picked.result (λ e reported s desk.
    let mid = was_clean c.visit_picked.ensures.read_only clean in
    let still = desk_after c.in_ok-picks.ensures.read.read_only mid desk in
    of_desk g.S.Store c.released_picks.new.conn s still (c.desk_rows_are_readable.ensures s desk.reachable) reported) (c.visit_picked.ensures.fails clean (c.released_picks.ensures.read.read_only.commits_nothing.limit ∙ unlimited))

pub returns-in_err-picks-clause-cause : goal.returns-in_err-picks-clause-cause
returns-in_err-picks-clause-cause g c good clean unlimited =
    let reported = err_from_is_err_and c.from_residual.result c.from_residual.ensures.1 in
    err_is _ _ _ reported.0 reported.1 reported.2 (λ s desk. c.in_err-picks.ensures.read.cause good clean unlimited s desk)

pub returns-clause-cause : goal.returns-clause-cause
returns-clause-cause g c good clean unlimited =
    let picking = c.released_picks.ensures.read.read_only.commits_nothing in
    let walking = c.visit_picked.ensures.read_only.commits_nothing in
    let mid : HasCleanDisk (state g.S.Store c.released_picks.new.conn) = omega (arith, clean, walking.clean) in
    let later = faultless_next (state g.S.Store c.args.conn.now) (state g.S.Store c.released_picks.new.conn) (state g.S.Store c.visit_picked.new.conn) good picking mid walking.counts in
    if_cut c.visit_picked.result (λ e reported s desk.
    let still = desk_after c.in_ok-picks.ensures.read.read_only mid desk in
    of_desk g.S.Store c.released_picks.new.conn s still (c.desk_rows_are_readable.ensures s desk.reachable) reported) (c.visit_picked.ensures.cause later clean (picking.limit ∙ unlimited))

pub returns-in_err-picks-clause-read_only : goal.returns-in_err-picks-clause-read_only
returns-in_err-picks-clause-read_only g c = read_failed c.from_residual.result _ c.from_residual.ensures.1 c.released_picks.ensures.read.read_only

pub returns-clause-read_only : goal.returns-clause-read_only
returns-clause-read_only g c = read_then c.in_ok-picks.ensures.read.read_only c.visit_picked.ensures.read_only
