use Rattle.std.proofs.Common.{◌≡◌, take}
use Rattle.std.specs.List.{list_any}
use Rattle.tb_conllu.specs.Plain.{is_wide}
use Rattle.tb_conllu.proofs.spaces.any_wide.Given as goal

abbrev pub invariant-loop-b : goal.invariant-loop-b
invariant-loop-b l = l.wide ≡ list_any is_wide (take l.b-index l.bytes)
