use Rattle.tb_conllu.proofs.Appended.{text_more}
use Rattle.tb_conllu.proofs.SunkParts.{refused, sentence_refused}
use Rattle.tb_conllu.proofs.writer.put_blocks.Goals as goal

pub loop-sentence-preserved : goal.loop-sentence-preserved
loop-sentence-preserved g c = text_more c.args.blocks.now c.loop-sentence.sentence-index c.sentence-item.result (g.S.Sink.held c.args.out.now) (g.S.Sink.held c.loop-sentence.out) (g.S.Sink.held c.put_block.new.out) c.loop-sentence-test.true c.sentence-item.is c.loop-sentence.invariant c.in_ok-put_block.ensures.put

pub returns-in_err-put_block-clause-part : goal.returns-in_err-put_block-clause-part
returns-in_err-put_block-clause-part g c = refused c.from_residual.result (sentence_refused c.args.blocks.now c.loop-sentence.sentence-index c.sentence-item.result (g.S.Sink.held c.args.out.now) (g.S.Sink.held c.loop-sentence.out) (g.S.Sink.held c.put_block.new.out) c.loop-sentence-test.true c.sentence-item.is c.loop-sentence.invariant c.in_err-put_block.ensures.part)
