use Rattle.std.proofs.Common.{◌≡◌, ◌<◌, length, arith, true, false}
use Rattle.std.proofs.lemmas.Bool.{iff_false}
use Rattle.tb_core.proofs.Alike.{alike_more, alike_at}
use Rattle.tb_core.proofs.sameness.same_texts.Goals as goal

pub returns-then-not-same_text : goal.returns-then-not-same_text
returns-then-not-same_text g c =
    let m : c.loop-i.i < length c.args.other.now = omega (arith, c.loop-i-test.true, c.if-one-other.false) in (
      λ e. absurd (let d : false ≡ true = e in cc),
      λ same. absurd (iff_false c.same_text.ensures c.if-not-same_text.true (alike_at g.T.Text.bytes g.U.Text.bytes c.args.one.now c.args.other.now c.loop-i.i c.index-one-i.result c.index-other-i.result c.loop-i-test.true m c.index-one-i.is c.index-other-i.is same)),
    )

pub loop-i-preserved : goal.loop-i-preserved
loop-i-preserved g c =
    let m : c.loop-i.i < length c.args.other.now = omega (arith, c.loop-i-test.true, c.if-one-other.false) in
    alike_more g.T.Text.bytes g.U.Text.bytes c.args.one.now c.args.other.now c.loop-i.i c.index-one-i.result c.index-other-i.result c.loop-i-test.true m c.index-one-i.is c.index-other-i.is c.loop-i.invariant (c.same_text.ensures.0 c.if-not-same_text.false)
