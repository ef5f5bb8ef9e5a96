use Rattle.std.proofs.Common.{◌≡◌, ◌++◌, ℕ, List, map, take}
use Rattle.tb_report.specs.Keywords.{key_of}
use Rattle.tb_report.specs.Tables.{IsTableOf}
use Rattle.tb_search.proofs.count_keys.count_hits.Given as goal

abbrev pub invariant-loop-hit : goal.invariant-loop-hit
invariant-loop-hit l = (l.walk ≡ l.block) × ((keys : List (List ℕ)) → IsTableOf keys l.initial.table → IsTableOf (keys ++ map (key_of l.column l.block) (take l.hit-index l.hits)) l.table)
