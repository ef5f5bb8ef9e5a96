use Rattle.std.proofs.Common.{List, ℕ}
use denote.Ref.{Bor}
use Rattle.tb_conllu.proofs.SunkParts.{refused, tab_refused, text_refused}
use Rattle.tb_conllu.proofs.writer.put_fields.Goals as goal

pub returns-in_err-put-clause-part : goal.returns-in_err-put-clause-part
returns-in_err-put-clause-part g c = refused c.from_residual.result (tab_refused (λ (field : Bor (List ℕ)). field.now) c.args.fields.now c.loop-field.field-index (g.S.Sink.held c.args.out.now) (g.S.Sink.held c.loop-field.out) (g.S.Sink.held c.put.new.self) c.loop-field-test.true c.loop-field.invariant c.in_err-put.ensures.part)

pub returns-in_err-put-2-clause-part : goal.returns-in_err-put-2-clause-part
returns-in_err-put-2-clause-part g c = refused c.from_residual-in_err-put-2.result (text_refused (λ (field : Bor (List ℕ)). field.now) c.args.fields.now c.loop-field.field-index _ c.as_bytes.result.now (g.S.Sink.held c.args.out.now) (g.S.Sink.held c.loop-field.out) (g.S.Sink.held c.put.new.self) (g.S.Sink.held c.put-in-loop-field.new.self) c.loop-field-test.true c.as_bytes.ensures.value c.loop-field.invariant c.in_ok-put.ensures.taken c.in_err-put-2.ensures.part)
