use Rattle.std.proofs.Common.{◌≡◌, take, map}
use Rattle.std.specs.Option.{option_copied, option_to_list}
use Rattle.httparse.specs.Spans.{header_bytes}
use Rattle.tb_http.specs.Headers.{values_of}
use Rattle.tb_http.proofs.headers.value_of.Given as goal

abbrev pub invariant-loop-header : goal.invariant-loop-header
invariant-loop-header l = values_of l.name (map (header_bytes l.buf) (take l.header-index l.headers)) ≡ option_to_list (option_copied l.found)
