use Rattle.std.proofs.Common.{[], arith, refl}
use Rattle.std.specs.List.Sorted.{IsStrictlySortedBy}
use Rattle.tb_report.specs.Kept.{AreShort}
use Rattle.tb_report.specs.Tables.{IsTable}
use Rattle.tb_report.proofs.freq.Freq.new.Goals as goal

empty : IsTable []
unfolding IsStrictlySortedBy
empty = record { ascending = tt; counted = λ k d h. omega (arith, h) }

no_short : {Y : Type 0} → AreShort {Y = Y} []
unfolding IsStrictlySortedBy
no_short = record { ascending = tt; numbered = tt }

pub invariant_of-result : goal.invariant_of-result
invariant_of-result c = rw (c.new.ensures.empty, c.new-2.ensures.empty) (refl, empty, no_short, record { table = empty; long = tt })
