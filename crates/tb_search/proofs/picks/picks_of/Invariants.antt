use Rattle.std.proofs.Common.{◌≡◌, map, take}
use Rattle.tb_search.specs.Picked.{pick_of}
use Rattle.tb_search.proofs.picks.picks_of.Given as goal

abbrev pub invariant-loop-one : goal.invariant-loop-one
invariant-loop-one l = l.found.items ≡ map pick_of (take l.one-index l.work)
