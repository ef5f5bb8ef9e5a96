use Rattle.httparse.specs.Spans.{header_bytes}
use Rattle.tb_http.proofs.Values.{no_value}
use Rattle.tb_desk.proofs.Awaiting.{length_found, length_name}
use Rattle.tb_desk.proofs.arriving.length_said.Goals as goal

pub returns-in-Some : goal.returns-in-Some
returns-in-Some c =
    length_found (header_bytes c.args.head.now) c.args.headers.now c.loop-header.header-index _ c.in-Some.digits.now c.number_of.result
    c.loop-header-test.true c.loop-header.invariant c.in-Some.ensures c.number_of.ensures

pub loop-header-preserved : goal.loop-header-preserved
loop-header-preserved c =
    no_value (header_bytes c.args.head.now) length_name c.args.headers.now c.loop-header.header-index _ _
    c.loop-header-test.true c.loop-header.invariant c.in_default.ensures
