use Rattle.std.proofs.Common.{sym}
use Rattle.httparse.specs.Spans.{header_bytes}
use Rattle.tb_http.proofs.Values.{first, second, no_value}
use Rattle.tb_http.proofs.headers.value_of.Goals as goal
use Rattle.tb_http.proofs.headers.value_of.Goals.{in-Some+else-is_some, in_default}

pub returns-then-is_some-clause-twice : goal.returns-then-is_some-clause-twice
returns-then-is_some-clause-twice c =
    second (header_bytes c.args.buf.now) c.args.name.now c.args.headers.now c.loop-header.header-index _ c.loop-header.found c.in-Some.value.now
    c.loop-header-test.true c.loop-header.invariant (sym c.if-is_some.ensures) c.in-Some.ensures

pub loop-header-preserved : goal.loop-header-preserved
loop-header-preserved c =
    elim c.match-value_under.branch [
      | in-Some+else-is_some w ↦
          rw w.found-is (first (header_bytes c.args.buf.now) c.args.name.now c.args.headers.now c.loop-header.header-index _ c.loop-header.found w.in-Some.value.now
          c.loop-header-test.true c.loop-header.invariant (sym w.if-is_some.ensures) w.in-Some.ensures)
      | in_default w ↦
          rw w.found-is (no_value (header_bytes c.args.buf.now) c.args.name.now c.args.headers.now c.loop-header.header-index _ _
          c.loop-header-test.true c.loop-header.invariant w.in_default.ensures)
    ]
