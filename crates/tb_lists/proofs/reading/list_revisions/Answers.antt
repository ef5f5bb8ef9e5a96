use Rattle.std.proofs.Common.{◌≡◌, ◌∙◌, length, ap, rules}
use Rattle.tb_tables.specs.Records.{Sentence}
use Rattle.tb_reads.proofs.Shown.{if_ok}
use Rattle.tb_refine.proofs.Unchanged.{desk_after}
use Rattle.tb_reads.proofs.ReadOnly.{read_then, was_clean}
use Rattle.tb_lists.specs.Made.{lines_by}
use Rattle.tb_lists.specs.Revisions.{makers}
use Rattle.tb_lists.proofs.Makers.{are_revisions}
use Rattle.tb_refine.proofs.DeskReads.{next_stopped, read_stopped, read_wanting}
use Rattle.tb_lists.proofs.reading.list_revisions.Goals as goal

pub returns-clause-answered : goal.returns-clause-answered
returns-clause-answered g c clean = if_ok c.lines_by.result c.lines_by.ensures.lines (λ v reported s desk x there.
    let mid = was_clean c.all_moves.ensures.read.read_only clean in
    let first = desk_after c.in_ok-row.ensures.read.read_only mid desk in
    let row = c.in_ok-row.ensures.answered mid s desk x there in
    let steps : c.as_slice.result.now ≡ s.moves = search rules ∙ c.in_ok-steps.ensures.answered clean s first in
    let number : c.from.result ≡ c.args.number = search rules in
    let batch : c.from-2.result ≡ x.batch = search rules ∙ ap (λ (r : Sentence). r.batch) row in
    let is = are_revisions s desk.reachable.reached c.args.number x c.requires there in
    let all : v.items ≡ lines_by 1 (makers c.args.number x.batch s.moves) =
    reported ∙ ap (λ l. lines_by 1 (makers c.from.result c.from-2.result l)) steps ∙ ap (λ n. lines_by 1 (makers n c.from-2.result s.moves)) number ∙ ap (λ b. lines_by 1 (makers c.args.number b s.moves)) batch in
    (all ∙ is.0, ap length all ∙ is.1))

pub returns-in_err-row-clause-read : goal.returns-in_err-row-clause-read
returns-in_err-row-clause-read g c =
    read_stopped c.from_residual.result c.in_err-row.field-0.0 c.from_residual.ensures.1 c.in_err-row.ensures.read (λ clean s desk fails on x there. on (fails x there))

pub returns-in_err-steps-clause-read : goal.returns-in_err-steps-clause-read
returns-in_err-steps-clause-read g c =
    next_stopped c.from_residual-in_err-steps.result c.in_err-steps.field-0.0 c.from_residual-in_err-steps.ensures.1 c.in_ok-row.ensures.read.read_only c.in_err-steps.ensures.read (λ mid s desk fails on x there. on fails)

pub returns-clause-read : goal.returns-clause-read
returns-clause-read g c =
    read_wanting c.lines_by.result (read_then c.in_ok-row.ensures.read.read_only c.in_ok-steps.ensures.read.read_only) c.lines_by.ensures.fault (λ s fine x there. fine)
