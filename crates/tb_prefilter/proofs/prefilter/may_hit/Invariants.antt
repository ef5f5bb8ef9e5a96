use Rattle.std.proofs.Common.{All, take}
use Rattle.tb_prefilter.specs.Needed.{IsSubstring}
use Rattle.tb_prefilter.proofs.prefilter.may_hit.Given as goal

abbrev pub invariant-loop-needle : goal.invariant-loop-needle
invariant-loop-needle l = All (λ n. IsSubstring n.items l.body) (take l.needle-index l.needles)
