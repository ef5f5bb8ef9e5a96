use Rattle.std.proofs.Common.{◌≡◌, ◌-◌, ◌<◌, ◌++◌, ℕ, List, length, vec_len}
use Rattle.tb_conllu.specs.Pieces.{AskedFor}
use Rattle.tb_http.proofs.Bodies.{IsTaking}
use Rattle.tb_http.proofs.Handed.{IsFilling}
use Rattle.tb_http.specs.Rooms.{body_room}
use Rattle.tb_http.proofs.head.read_body.Given as goal

abbrev pub invariant-reads : goal.invariant-reads
invariant-reads g l = IsTaking (g.R.Source.left l.fn.reader) (g.R.Source.left l.reader) l.start l.body.items l.n
    × ((taken : List ℕ) × (l.body.items ≡ l.start ++ taken) × AskedFor (λ came. length came < l.n) l.start (g.R.Source.pieces l.fn.reader) (g.R.Source.pieces l.reader) taken)
    × IsFilling (body_room l.n) l.start (g.R.Filler.fills l.fn.reader) (g.R.Filler.fills l.reader) l.body.items

abbrev pub decreases-reads : goal.decreases-reads
decreases-reads g l = l.n - vec_len l.body
