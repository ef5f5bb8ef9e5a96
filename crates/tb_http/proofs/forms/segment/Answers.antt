use Rattle.std.proofs.Common.{◌∙◌, ◌-◌, ◌+◌, ap}
use Rattle.tb_http.specs.Forms.{segment_of}
use Rattle.tb_http.proofs.Steps.{nearer}
use Rattle.tb_http.proofs.forms.segment.Goals as goal

pub loop-i-preserved : goal.loop-i-preserved
loop-i-preserved c =
    (ap (segment_of (c.args.n - (c.loop-i.i + 1))) c.after_slash-rest.ensures ∙ nearer c.args.n c.loop-i.i _ _ c.loop-i-test.true c.loop-i.invariant.0, c.after_slash-rest.utf8)
