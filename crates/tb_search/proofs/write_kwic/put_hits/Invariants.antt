use Rattle.std.proofs.Common.{take}
use Rattle.std.specs.Io.KnownBytes.{Appends}
use Rattle.tb_search.specs.Searched.{lines, occurrences}
use Rattle.tb_search.proofs.write_kwic.put_hits.Given as goal

abbrev pub invariant-loop-hit : goal.invariant-loop-hit
invariant-loop-hit g l = Appends (g.W.Sink.held l.initial.out) (g.W.Sink.held l.out) (lines l.context (occurrences l.block (take l.hit-index l.hits)))
