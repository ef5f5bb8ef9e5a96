use Rattle.std.proofs.Common.{◌<◌, length, arith}
use Rattle.std.proofs.lemmas.Result.{err_from_is_err_and}
use Rattle.tb_search.proofs.Found.{one_more_line, cut_there}
use Rattle.tb_search.proofs.Walking.{err_is}
use Rattle.tb_search.proofs.write_kwic.put_hits.Goals as goal

pub loop-hit-preserved : goal.loop-hit-preserved
loop-hit-preserved g c =
    let held = g.W.Sink.held in
    let hits = c.args.hits.now in
    let i = c.loop-hit.hit-index in
    let low : i < length hits = omega (arith, c.loop-hit-test.true) in
    one_more_line c.args.context c.args.block.now hits i (0, 0) low (held c.args.out.now) (held c.loop-hit.out) (held c.put_hit.new.out) c.loop-hit.invariant c.in_ok-put_hit.ensures.put

pub returns-in_err-put_hit-clause-cut : goal.returns-in_err-put_hit-clause-cut
returns-in_err-put_hit-clause-cut g c =
    let held = g.W.Sink.held in
    let hits = c.args.hits.now in
    let i = c.loop-hit.hit-index in
    let low : i < length hits = omega (arith, c.loop-hit-test.true) in
    let reported = err_from_is_err_and c.from_residual.result c.from_residual.ensures.1 in
    let cut = rw c.in_err-put_hit.was at c.put_hit.ensures.cut in
    err_is _ _ _ reported.0 reported.1 reported.2 (cut_there c.args.context c.args.block.now hits i (0, 0) low (held c.args.out.now) (held c.loop-hit.out) (held c.put_hit.new.out) c.loop-hit.invariant _ cut)
