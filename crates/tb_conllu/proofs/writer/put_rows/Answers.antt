use Rattle.std.proofs.Common.{[], ◌∷◌, ◌++◌}
use Rattle.tb_conllu.specs.Text.{row_line}
use Rattle.tb_conllu.proofs.Appended.{piece_more}
use Rattle.tb_conllu.proofs.SunkParts.{item_refused, refused}
use Rattle.tb_conllu.proofs.writer.put_rows.Goals as goal

pub loop-row-preserved : goal.loop-row-preserved
loop-row-preserved g c = piece_more (λ row. row_line row ++ 10 ∷ []) c.args.rows.now c.loop-row.row-index c.row-item.result (g.S.Sink.held c.args.out.now) (g.S.Sink.held c.loop-row.out) (g.S.Sink.held c.put_row.new.out) c.loop-row-test.true c.row-item.is c.loop-row.invariant c.in_ok-put_row.ensures.put

pub returns-in_err-put_row-clause-part : goal.returns-in_err-put_row-clause-part
returns-in_err-put_row-clause-part g c = refused c.from_residual.result (item_refused (λ row. row_line row ++ 10 ∷ []) c.args.rows.now c.loop-row.row-index c.row-item.result (g.S.Sink.held c.args.out.now) (g.S.Sink.held c.loop-row.out) (g.S.Sink.held c.put_row.new.out) c.loop-row-test.true c.row-item.is c.loop-row.invariant c.in_err-put_row.ensures.part)
