use Rattle.std.proofs.Common.{◌≡◌, take}
use Rattle.std.specs.List.{list_any}
use Rattle.tb_conllu.specs.Shape.{is_control}
use Rattle.tb_conllu.proofs.linetext.any_control.Given as goal

abbrev pub invariant-loop-b : goal.invariant-loop-b
invariant-loop-b l = l.seen ≡ list_any is_control (take l.b-index l.bytes)
