use Rattle.std.proofs.Common.{◌≡◌, Err, sym, subst}
use Rattle.std.proofs.lemmas.Result.{err_from_is_err_and}
use Rattle.tb_core.specs.declared.refusals.Fault.TheVariants.{NotADesk}
use Rattle.tb_core.specs.declared.sums.Totals.{Totals}
use Rattle.tb_core.specs.Acts.{after}
use Rattle.tb_core.specs.Totals.{Takes, IsApplied, AreTotalsOf}
use Rattle.tb_refine.specs.Recorded.{IsChangeOf, IsNarrowMove}
use Rattle.tb_refine.proofs.Bounded.{narrow_totals, narrow_move}
use Rattle.tb_refine.proofs.preparing.prepare.Goals as goal

pub returns-clause-prepared : goal.returns-clause-prepared
returns-clause-prepared c s a reached allowed counted is = record {
  stand = c.stored_totals_hold.ensures s a c.args.counts.now.totals c.record.new.totals reached allowed counted.totals (subst (λ m. IsApplied c.args.counts.now.totals c.record.new.totals m) is c.in_ok-change.ensures.applied);
  change = subst (λ m. IsChangeOf c.record.new.totals m c.in_ok-change.change) is c.in_ok-change.ensures.change;
}

pub returns-in_err-change-clause-fails : goal.returns-in_err-change-clause-fails
returns-in_err-change-clause-fails c s a reachable allowed next counted is bad =
    let reported = err_from_is_err_and c.from_residual.result c.from_residual.ensures.1 in
    let failed : c.record.result ≡ Err NotADesk = let was = c.in_err-change.was in let one = reported.1 in let two = reported.2 in cc in
    let fits = c.desk_rows_are_readable.ensures (after s a) next in
    let takes = c.stored_totals_take_moves.ensures s a c.args.counts.now.totals reachable allowed next counted.totals in
    let stand : (t : Totals) → IsApplied c.args.counts.now.totals t c.args.step → AreTotalsOf t (after s a) =
    λ t applied. c.stored_totals_hold.ensures s a c.args.counts.now.totals t reachable.reached allowed counted.totals (subst (λ m. IsApplied c.args.counts.now.totals t m) is applied) in
    c.record.ensures.fails (subst (λ m. Takes c.args.counts.now.totals m) (sym is) takes) (λ t applied. narrow_totals t (after s a) fits (stand t applied)) (subst IsNarrowMove (sym is) (narrow_move s a next fits)) failed
