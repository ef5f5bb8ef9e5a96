use Rattle.std.proofs.Common.{◌≤◌, ◌<◌, ◌+◌, ◌-◌, length, take}
use Rattle.std.specs.Io.KnownBytes.{Appends}
use Rattle.tb_conllu.proofs.Tried.{HasStepped}
use Rattle.tb_conllu.proofs.sink.put_all.Given as goal

abbrev pub invariant-writes : goal.invariant-writes
invariant-writes g l =
    (l.written ≤ length l.bytes) × (l.interruptions < 1000)
    × Appends (g.W.PartWriter.stored l.initial.out) (g.W.PartWriter.stored l.out) (take l.written l.bytes)
    × HasStepped (g.W.PartWriter.answers l.initial.out) (g.W.PartWriter.answers l.out) l.written l.interruptions

abbrev pub decreases-writes : goal.decreases-writes
decreases-writes g l = (length l.bytes - l.written) + (1000 - l.interruptions)
