use Rattle.std.proofs.Common.{◌≡◌, Err, ◌+◌, [], ◌∷◌, length, length-append, map, take, arith, rules, subst, sym, ap, ◌∙◌}
use Rattle.std.proofs.lemmas.Result.{err_from_is_err_and}
use Rattle.tb_core.specs.declared.refusals.Fault.TheVariants.{NotADesk}
use Rattle.tb_tables.specs.Values.{move_of}
use Rattle.tb_refine.specs.DeskTables.{move_record}
use Rattle.tb_refine.specs.Numbered.{AreNumbered}
use Rattle.tb_refine.proofs.Numbering.{record_more, number_more, row_known}
use Rattle.tb_refine.proofs.moving.numbered_moves.Goals as goal

pub loop-row-preserved : goal.loop-row-preserved
loop-row-preserved c =
    let inv = c.loop-row.invariant in
    let m = c.in_ok-read_move.field-0 in
    let items = c.in_ok-push.ensures.items in
    let records = record_more c.args.rows.now c.loop-row.moves.items c.loop-row.row-index c.row-item.result m (omega (arith, c.loop-row-test.true)) (search rules) inv.2 c.in_ok-read_move.ensures.record in
    let numbers = number_more c.loop-row.moves.items c.loop-row.row-index m inv.1 inv.3 (let is = c.in_ok-read_move.ensures.number in omega (arith, is, inv.0)) in (
      omega (arith, inv.0),
      ap length items ∙ length-append c.loop-row.moves.items (m ∷ []) ∙ ap (λ k. k + 1) inv.1,
      subst (λ vs. map move_record vs ≡ map move_of (take (c.loop-row.row-index + 1) c.args.rows.now)) (sym items) records,
      subst (AreNumbered 1) (sym items) numbers,
    )

pub returns-in_err-read_move-clause-known : goal.returns-in_err-read_move-clause-known
returns-in_err-read_move-clause-known c bad ms same =
    let reported = err_from_is_err_and c.from_residual.result c.from_residual.ensures.1 in
    let failed : c.read_move.result ≡ Err NotADesk = let was = c.in_err-read_move.was in let one = reported.1 in let two = reported.2 in cc in
    let it = row_known c.args.rows.now ms c.loop-row.row-index c.row-item.result (omega (arith, c.loop-row-test.true)) (search rules) same in
    c.read_move.ensures.known failed it.0 it.1
