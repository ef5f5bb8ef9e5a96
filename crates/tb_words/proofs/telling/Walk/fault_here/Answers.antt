use Rattle.std.proofs.Common.{inl, inr, refl}
use Rattle.tb_words.proofs.WalkSteps.{bare_fault, none_there}
use Rattle.tb_words.proofs.telling.Walk.fault_here.Goals as goal

pub returns-in-Some : goal.returns-in-Some
returns-in-Some c =
    λ file walked.
    let last = rw c.in-Some.is at walked.last in
    inl (c.in-Some.placed, last.1, last.2, c.fault_among.ensures file walked.count walked.names)

pub returns-in-None : goal.returns-in-None
returns-in-None c =
    λ file walked.
    inr (
      none_there file walked.count _ _ _ c.in-None.is walked.read.left walked.last,
      bare_fault c.on.result 0 _ c.on.ensures refl,
    )
