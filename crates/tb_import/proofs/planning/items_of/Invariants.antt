use Rattle.std.proofs.Common.{◌≡◌, map, take}
use Rattle.tb_import.specs.Planned.{item_reported}
use Rattle.tb_import.proofs.planning.items_of.Given as goal

abbrev pub invariant-loop-one : goal.invariant-loop-one
invariant-loop-one l = l.items.items ≡ map item_reported (take l.one-index l.taken)
