use Rattle.std.proofs.Common.{◌≡◌, [], take, map, codes}
use Rattle.httparse.specs.Spans.{header_bytes}
use Rattle.tb_http.specs.Headers.{values_of}
use Rattle.tb_desk.proofs.arriving.length_said.Given as goal

abbrev pub invariant-loop-header : goal.invariant-loop-header
invariant-loop-header l = values_of (codes "Content-Length") (map (header_bytes l.head) (take l.header-index l.headers)) ≡ []
