use Rattle.std.proofs.Common.{◌<◌, length, get_or, map, filter, ◌∙◌, arith}
use Rattle.tb_conllu.specs.Words.{is_word}
use Rattle.tb_match.specs.Facts.{Holds}
use Rattle.tb_query.specs.PreparedExprs.{asked}
use Rattle.tb_query.proofs.AskerLemmas.{same_after}
use Rattle.tb_query.proofs.TableLemmas.{test_there, table_step, table_done}
use Rattle.tb_query.proofs.filling.fill.Goals as goal

pub loop-expr-preserved : goal.loop-expr-preserved
loop-expr-preserved g c =
    let l = c.loop-expr in
    let ts = map asked c.args.prepared_exprs.now in
    let d = c.index-prepared_exprs-expr.result in
    let inside : l.expr < length l.prepared_exprs = omega (arith, l.auto.prepared_exprs) in
    record {
      same = same_after l.prepared_exprs ts l.expr d l.invariant.same c.fill_row.new.prepared_expr c.fill_row.ensures.unchanged;
      words = c.fill_row.ensures.words ∙ l.invariant.words;
      exprs = c.fill_row.ensures.exprs ∙ l.invariant.exprs;
      held = λ e w. table_step ts (filter is_word c.args.rows.now) e w l.expr (asked (get_or l.prepared_exprs l.expr d)) (Holds l.truth e w) (Holds c.fill_row.new.truth e w)
          (test_there l.prepared_exprs ts l.expr d l.invariant.same inside) (c.fill_row.ensures.held e w) (l.invariant.held e w);
    }

pub returns-clause-held : goal.returns-clause-held
returns-clause-held g c = λ e w.
    let l = c.loop-expr in
    table_done c.args.prepared_exprs.now (filter is_word c.args.rows.now) e w l.expr (Holds l.truth e w) c.loop-expr-test.false (l.invariant.held e w)
