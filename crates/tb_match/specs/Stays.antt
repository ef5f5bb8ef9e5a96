-- Inner: no contract beyond this crate cites a definition of this module.
-- Steps over one word that may also stay at their place.
use Rattle.tb_match.specs.declared.step.Step.{Step}
use Rattle.tb_match.specs.declared.step.Step.TheVariants.{Optional, Required}

-- a step may stay at its place
abbrev pub MayStay : Step → Type 0
MayStay Optional = Unit {0}
MayStay Required = ⊥
