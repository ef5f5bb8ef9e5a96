use Rattle.std.proofs.Common.{arith}
use Rattle.tb_match.proofs.doubling.repeat.Goals as goal

pub loop-left-preserved : goal.loop-left-preserved
loop-left-preserved c =
    let inv = c.loop-left.invariant in
    let r = c.take_turn-left.ensures in
    record {
      wide = omega arith;
      long = omega arith;
      whole = omega arith;
      rows = λ i j p q. let a = r.rows i j p q in let b = inv.rows i j p q in (λ h. b.0 (a.0 h), λ h. a.1 (b.1 h));
      onward = r.onward;
      chained = r.chained;
      closed = r.closed;
      linked = r.linked;
      forward = r.forward;
      more = omega arith;
      bound = omega arith;
    }
