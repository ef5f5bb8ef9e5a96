use Rattle.std.proofs.Common.{◌≡◌, take}
use Rattle.std.specs.List.{list_any}
use Rattle.tb_conllu.specs.Plain.{is_beyond_latin}
use Rattle.tb_conllu.proofs.linetext.any_beyond_latin.Given as goal

abbrev pub invariant-loop-b : goal.invariant-loop-b
invariant-loop-b l = l.beyond ≡ list_any is_beyond_latin (take l.b-index l.bytes)
