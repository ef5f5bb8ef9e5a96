use Rattle.std.proofs.Common.{◌≡◌, arith, lit<, take}
use Rattle.tb_words.proofs.Parts.{front_got}
use Rattle.tb_words.proofs.WordStarts.{after_none, after_one}
use Rattle.tb_words.proofs.pictures.line_start.Goals as goal

pub returns-in-Some : goal.returns-in-Some
returns-in-Some c = λ cut.
    let front : c.unwrap_or.result.now ≡ take c.args.at c.args.text.now =
    rw c.unwrap_or.ensures (front_got c.args.text.now c.args.at c.get.result _ c.utf8.text cut c.get.ensures.cases) in
    after_one 10 c.args.text.now c.unwrap_or.result.now c.args.at c.rfind.result c.in-Some.before _ (lit< tt) cut.0 front c.in-Some.is c.rfind.ensures.cases
    c.saturating_add.ensures (omega (arith, c.ranges.at.fits))

pub returns-in-None : goal.returns-in-None
returns-in-None c = λ cut.
    let front : c.unwrap_or.result.now ≡ take c.args.at c.args.text.now =
    rw c.unwrap_or.ensures (front_got c.args.text.now c.args.at c.get.result _ c.utf8.text cut c.get.ensures.cases) in
    after_none 10 c.args.text.now c.unwrap_or.result.now c.args.at c.rfind.result (lit< tt) cut.0 front c.in-None.is c.rfind.ensures.cases
