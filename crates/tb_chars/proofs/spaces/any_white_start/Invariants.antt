use Rattle.std.proofs.Common.{◌≡◌, take}
use Rattle.std.specs.List.{list_any}
use Rattle.tb_chars.specs.Spaces.{begins_white}
use Rattle.tb_chars.proofs.spaces.any_white_start.Given as goal

abbrev pub invariant-loop-b : goal.invariant-loop-b
invariant-loop-b l = l.white ≡ list_any begins_white (take l.b-index l.bytes)
