use Rattle.std.proofs.Common.{◌≡◌, take}
use Rattle.std.specs.List.{list_any}
use Rattle.tb_conllu.specs.Plain.{is_stray}
use Rattle.tb_conllu.proofs.linetext.any_stray.Given as goal

abbrev pub invariant-loop-b : goal.invariant-loop-b
invariant-loop-b l = l.seen ≡ list_any is_stray (take l.b-index l.bytes)
