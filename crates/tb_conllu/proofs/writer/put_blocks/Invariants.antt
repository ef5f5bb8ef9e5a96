use Rattle.std.proofs.Common.{take}
use Rattle.std.specs.Io.KnownBytes.{Appends}
use Rattle.tb_conllu.specs.Text.{text_of}
use Rattle.tb_conllu.proofs.writer.put_blocks.Given as goal

abbrev pub invariant-loop-sentence : goal.invariant-loop-sentence
invariant-loop-sentence g l = Appends (g.S.Sink.held l.initial.out) (g.S.Sink.held l.out) (text_of (take l.sentence-index l.blocks))
