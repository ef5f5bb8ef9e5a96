use Rattle.std.specs.Io.KnownBytes.{Keeps}
use Rattle.tb_conllu.specs.Tries.{Answers, signals}
use Rattle.tb_conllu.proofs.source.read_on.Given as goal

abbrev pub invariant-loop-attempt : goal.invariant-loop-attempt
invariant-loop-attempt g l =
    Keeps (g.R.PartReader.unread l.initial.reader) (g.R.PartReader.unread l.reader)
    × Answers (g.R.PartReader.answers l.initial.reader) (g.R.PartReader.answers l.reader) (signals l.attempt)
