use Rattle.std.proofs.Common.{◌≡◌, map, take, string_bytes}
use Rattle.std.specs.List.{AllByRecursion}
use Rattle.tb_core.specs.Machine.{IsLawful}
use Rattle.tb_verify.specs.Course.{own_text}
use Rattle.tb_verify.proofs.body.sentences_in.Given as goal

abbrev pub invariant-loop-row : goal.invariant-loop-row
invariant-loop-row l = AllByRecursion IsLawful l.blocks.items × (map own_text l.blocks.items ≡ map (λ r. string_bytes r.body) (take l.row-index l.rows))
