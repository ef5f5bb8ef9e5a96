use Rattle.std.proofs.Common.{◌≡◌, take}
use Rattle.std.specs.List.{list_any}
use Rattle.tb_conllu.specs.Plain.{is_loose}
use Rattle.tb_conllu.proofs.spaces.any_loose.Given as goal

abbrev pub invariant-loop-b : goal.invariant-loop-b
invariant-loop-b l = l.loose ≡ list_any is_loose (take l.b-index l.bytes)
