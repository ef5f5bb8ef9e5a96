use Rattle.std.proofs.Common.{◌≡◌, nat_eq, ◌∙◌, rules, arith}
use Rattle.sqlite.specs.Held.{state}
use Rattle.sqlite.specs.State.{HasCleanDisk}
use Rattle.tb_core.specs.Machine.{Sentence}
use Rattle.tb_tables.proofs.Causes.{faultless_next}
use Rattle.tb_search.specs.Released.{in_batch}
use Rattle.tb_search.proofs.Copied.{copies, breaks, all_copied, cut_short, copied_fault}
use Rattle.tb_search.proofs.Visiting.{if_put, if_cut, of_desk, all_visited, some_visited}
use Rattle.tb_reads.proofs.ReadOnly.{read_then, was_clean}
use Rattle.tb_refine.proofs.Unchanged.{desk_after}
use Rattle.tb_search.proofs.Ends.{text_stopped}
use Rattle.tb_search.proofs.export.export_numbered.Goals as goal

pub returns-clause-put : goal.returns-clause-put
returns-clause-put g c clean = if_put c.visit_picked.result (λ reported s desk.
    let mid = was_clean c.visit_picked.ensures.read_only clean in
    let still = desk_after c.in_ok-picks.ensures.read.read_only mid desk in
    let picks : c.as_slice.result.now ≡ c.in_ok-picks.picks.items = search rules in
    all_copied g.W.Sink.held (in_batch s c.args.batch) _ c.args.out.now _ c.visit_picked.new.filled (all_visited g.S.Store (copies g.W.Sink.held) (breaks g.W.Sink.held) c.batch_picks.new.conn s (λ (x : Sentence). nat_eq x.batch c.args.batch) c.as_slice.result.now (picks ∙ c.in_ok-picks.ensures.picked mid s desk) still (c.desk_rows_are_readable.ensures s desk.reachable) _ c.args.out.now _ c.visit_picked.new.filled reported)) (c.visit_picked.ensures.taken clean)

pub returns-clause-part : goal.returns-clause-part
returns-clause-part g c clean = if_cut c.visit_picked.result (λ e reported s desk.
    let mid = was_clean c.visit_picked.ensures.read_only clean in
    let still = desk_after c.in_ok-picks.ensures.read.read_only mid desk in
    let picks : c.as_slice.result.now ≡ c.in_ok-picks.picks.items = search rules in
    cut_short g.W.Sink.held (in_batch s c.args.batch) _ c.args.out.now e c.visit_picked.new.filled (some_visited g.S.Store (copies g.W.Sink.held) (breaks g.W.Sink.held) c.batch_picks.new.conn s (λ (x : Sentence). nat_eq x.batch c.args.batch) c.as_slice.result.now (picks ∙ c.in_ok-picks.ensures.picked mid s desk) still (c.desk_rows_are_readable.ensures s desk.reachable) _ c.args.out.now e c.visit_picked.new.filled reported)) (c.visit_picked.ensures.halted clean)

pub returns-clause-read : goal.returns-clause-read
returns-clause-read g c = record {
  fault = λ clean.
      if_cut c.visit_picked.result (λ e reported s desk.
      let mid = was_clean c.visit_picked.ensures.read_only clean in
      let still = desk_after c.in_ok-picks.ensures.read.read_only mid desk in
      let picks : c.as_slice.result.now ≡ c.in_ok-picks.picks.items = search rules in
      copied_fault g.W.Sink.held (in_batch s c.args.batch) _ c.args.out.now e c.visit_picked.new.filled (some_visited g.S.Store (copies g.W.Sink.held) (breaks g.W.Sink.held) c.batch_picks.new.conn s (λ (x : Sentence). nat_eq x.batch c.args.batch) c.as_slice.result.now (picks ∙ c.in_ok-picks.ensures.picked mid s desk) still (c.desk_rows_are_readable.ensures s desk.reachable) _ c.args.out.now e c.visit_picked.new.filled reported)) (c.visit_picked.ensures.halted clean);
  fails = λ clean unlimited.
      if_cut c.visit_picked.result (λ e reported s desk.
      let mid = was_clean c.visit_picked.ensures.read_only clean in
      let still = desk_after c.in_ok-picks.ensures.read.read_only mid desk in
      of_desk g.S.Store c.batch_picks.new.conn s still (c.desk_rows_are_readable.ensures s desk.reachable) reported) (c.visit_picked.ensures.fails clean (c.batch_picks.ensures.read.read_only.commits_nothing.limit ∙ unlimited));
  cause = λ good clean unlimited.
      let picking = c.batch_picks.ensures.read.read_only.commits_nothing in
      let walking = c.visit_picked.ensures.read_only.commits_nothing in
      let mid : HasCleanDisk (state g.S.Store c.batch_picks.new.conn) = omega (arith, clean, walking.clean) in
      let later = faultless_next (state g.S.Store c.args.conn.now) (state g.S.Store c.batch_picks.new.conn) (state g.S.Store c.visit_picked.new.conn) good picking mid walking.counts in
      if_cut c.visit_picked.result (λ e reported s desk.
      let still = desk_after c.in_ok-picks.ensures.read.read_only mid desk in
      of_desk g.S.Store c.batch_picks.new.conn s still (c.desk_rows_are_readable.ensures s desk.reachable) reported) (c.visit_picked.ensures.cause later clean (picking.limit ∙ unlimited));
  read_only = read_then c.in_ok-picks.ensures.read.read_only c.visit_picked.ensures.read_only;
}

pub returns-in_err-picks-clause-read : goal.returns-in_err-picks-clause-read
returns-in_err-picks-clause-read g c = text_stopped c.from_residual.result c.in_err-picks.field-0.0 c.from_residual.ensures.1 c.in_err-picks.ensures.read
