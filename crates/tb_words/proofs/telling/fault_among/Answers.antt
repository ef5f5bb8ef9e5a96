use Rattle.std.proofs.Common.{inl, inr, refl, subst}
use Rattle.tb_words.proofs.WalkSteps.{bare_fault}
use Rattle.tb_words.specs.Told.{IsBareFault}
use Rattle.tb_words.proofs.telling.fault_among.Goals as goal

pub returns-in-Some : goal.returns-in-Some
returns-in-Some c = λ file count known. inl (c.in-Some.ensures file count known)

pub returns-in-None : goal.returns-in-None
returns-in-None c =
    λ file count known.
    inr (subst (λ n. IsBareFault n c.on.result) c.comment_line.ensures (bare_fault c.on.result _ _ c.on.ensures refl))
