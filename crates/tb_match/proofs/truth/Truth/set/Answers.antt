use Rattle.std.proofs.Common.{◌≡◌, arith, ap}
use Rattle.tb_match.specs.Facts.{Facts}
use Rattle.tb_match.proofs.Cells.{marked}
use Rattle.tb_match.proofs.truth.Truth.set.Goals as goal

pub returns-clause-held : goal.returns-clause-held
returns-clause-held c = λ e w.
    let s = c.self.inside in
    let exprs : s.exprs ≡ c.args.self.now.exprs = ap (λ (t : Facts). t.exprs) c.self.view_is in
    let words : s.words ≡ c.args.self.now.words = ap (λ (t : Facts). t.words) c.self.view_is in
    rw (← c.self.view_is)
    (marked s.cells.items s.words s.exprs c.args.expr c.args.word (omega (arith, s.cells.ok.0)) (omega arith) c.requires.first (omega arith) e w)
