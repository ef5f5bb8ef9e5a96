use Rattle.std.proofs.Common.{◌≡◌, ◌+◌, ◌++◌, ◌<◌, length, Err, sym, ap, ◌∙◌, arith, append-nil, slice_index_or}
use Rattle.std.proofs.lemmas.Result.{err_from_is_err_and}
use Rattle.std.proofs.lemmas.List.{length-map}
use Rattle.tb_core.specs.declared.refusals.Fault.TheVariants.{NotADesk}
use Rattle.tb_tables.specs.Values.{batch_of}
use Rattle.tb_refine.specs.DeskTables.{batch_record}
use Rattle.tb_lists.specs.Counted.{lines_with, no_count}
use Rattle.tb_lists.proofs.Summed.{line_more, drop_end, batch_there}
use Rattle.tb_lists.proofs.batches.lines_of.Goals as goal

pub loop-row-preserved : goal.loop-row-preserved
loop-row-preserved c =
    let i = c.loop-row.row-index in
    let low : i < length c.args.rows.now = omega (arith, c.loop-row-test.true) in
    let no_is : c.loop-row.no + 1 ≡ i + 1 = ap (λ n. n + 1) c.loop-row.invariant.0 in (
      no_is,
      λ bs same. line_more c.args.counts.now c.args.rows.now i c.row-item.result c.count_at-count.result (c.loop-row.no + 1) c.in_ok-line_of.field-0 c.loop-row.lines.items _ bs low c.row-item.is same no_is
          (c.count_at-count.ensures ∙ ap (λ k. slice_index_or c.args.counts.now k no_count) c.loop-row.invariant.0) c.in_ok-line_of.ensures.line c.in_ok-push.ensures.items (c.loop-row.invariant.1 bs same),
    )

pub returns-clause-lines : goal.returns-clause-lines
returns-clause-lines c bs same =
    let size : length c.args.rows.now ≡ length bs = sym (length-map c.args.rows.now batch_of) ∙ ap length same ∙ length-map bs batch_record in
    let past = drop_end bs c.loop-row.row-index (omega (arith, c.loop-row-test.false, size)) in
    sym (append-nil c.loop-row.lines.items) ∙ ap (λ l. c.loop-row.lines.items ++ lines_with c.args.counts.now (c.loop-row.row-index + 1) l) (sym past) ∙ c.loop-row.invariant.1 bs same

pub returns-in_err-line_of-clause-known : goal.returns-in_err-line_of-clause-known
returns-in_err-line_of-clause-known c bad bs same =
    let reported = err_from_is_err_and c.from_residual.result c.from_residual.ensures.1 in
    let failed : c.line_of.result ≡ Err NotADesk = let was = c.in_err-line_of.was in let one = reported.1 in let two = reported.2 in cc in
    let it = batch_there c.args.rows.now bs c.loop-row.row-index c.row-item.result (omega (arith, c.loop-row-test.true)) c.row-item.is same in
    c.line_of.ensures.known failed it.0 it.2
