use Rattle.std.proofs.Common.{arith, refl}
use Rattle.tb_words.proofs.WalkSteps.{walk_ends, walked_on}
use Rattle.tb_words.proofs.telling.Walk.read_next.Goals as goal

pub returns-in_default-clause-at : goal.returns-in_default-clause-at
returns-in_default-clause-at c =
    λ file few walked.
    walk_ends file _ _ walked (omega (arith, few, c.saturating_add-self.ensures)) (rw c.in_default.is at c.in_ok-placed.ensures.end) refl refl

pub returns-clause-at : goal.returns-clause-at
returns-clause-at c =
    λ file few walked.
    let here = (rw c.in-Some.is at (c.in_ok-placed.ensures.here)) file walked.count walked.read in
    let left = (rw c.in-Some.is at (c.in_ok-placed.ensures.left)) file walked.count walked.read in
    let next = rw c.in-Some.is at c.in_ok-placed.ensures.next in
    walked_on file _ _ c.in-Some.placed _ walked (omega (arith, few, c.saturating_add-self.ensures)) next here left refl c.in_ok-keep_name.ensures
