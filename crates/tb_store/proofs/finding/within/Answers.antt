use Rattle.std.proofs.Common.{◌≡◌, refl, sym, true≢false}
use Rattle.tb_core.specs.declared.refusals.Refusal.TheVariants.{TooManyHits}
use Rattle.tb_store.proofs.finding.within.Goals as goal

pub returns-then-is_above-clause-above : goal.returns-then-is_above-clause-above
returns-then-is_above-clause-above c r is = let same : r ≡ TooManyHits = cc in (same, c.if-is_above.ensures.0 refl)

pub returns-clause-below : goal.returns-clause-below
returns-clause-below c = (refl, λ above. absurd (true≢false (sym (c.if-is_above.ensures.1 above))))
