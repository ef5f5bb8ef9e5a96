use Rattle.std.proofs.Common.{◌≡◌, ◌-◌, [], length, take}
use Rattle.tb_http.specs.Faults.{AwaitsHead}
use Rattle.tb_conllu.specs.Pieces.{AskedFor}
use Rattle.tb_http.proofs.Handed.{IsFilling}
use Rattle.tb_http.proofs.Reading.{IsReading}
use Rattle.tb_http.specs.Rooms.{head_room}
use Rattle.tb_http.proofs.head.read_head.Given as goal

abbrev pub invariant-reads : goal.invariant-reads
invariant-reads g l = IsReading (g.R.Source.left l.fn.reader) (g.R.Source.left l.reader) l.buf l.filled × AskedFor AwaitsHead [] (g.R.Source.pieces l.fn.reader) (g.R.Source.pieces l.reader) (take l.filled l.buf) × (length l.headers ≡ 32)
    × IsFilling head_room [] (g.R.Filler.fills l.fn.reader) (g.R.Filler.fills l.reader) (take l.filled l.buf)

abbrev pub decreases-reads : goal.decreases-reads
decreases-reads g l = 8192 - l.filled
