use Rattle.std.proofs.Common.{◌≡◌, ◌∙◌, ℕ, ap, inl, inr, refl, sym, nat_le, Bool, true, false, if◌then◌else◌}
use Rattle.tb_desk.specs.Arriving.{awaited_at}
use Rattle.tb_desk.specs.declared.arriving.Awaited.{Awaited}
use Rattle.tb_desk.specs.declared.arriving.Awaited.TheVariants.{Head, Body, Nothing}
use Rattle.tb_desk.proofs.callers.Caller.add.Goals as goal

-- a head is awaited only where it was
awaited_before : (a : Awaited) (came : ℕ) → awaited_at a came ≡ Head → a ≡ Head
awaited_before Head came is = refl
awaited_before Nothing came is = is
awaited_before (Body whole) came is = by_test (nat_le whole came) is
  where
    by_test : (b : Bool) → (if b then Nothing else Body whole) ≡ Head → Body whole ≡ Head
    by_test true one = cc
    by_test false one = one

pub returns-clause-heard : goal.returns-clause-heard
returns-clause-heard c = (
  λ head. (c.awaits_now-now.result, c.awaits_now-now.ensures.head head, c.at-self.ensures),
  λ other. c.at-self.ensures ∙ ap (λ a. awaited_at a c.saturating_add-self.result) (c.awaits_now-now.ensures.rest other),
)

pub returns-clause-time : goal.returns-clause-time
returns-clause-time c head other = c.time_for-self.ensures.begins head (λ is. other (c.at-self.ensures ∙ ap (λ a. awaited_at a c.saturating_add-self.result) is))

pub returns-clause-rest : goal.returns-clause-rest
returns-clause-rest c (inl other) = c.time_for-self.ensures.goes_on (inl other)
returns-clause-rest c (inr is) = c.time_for-self.ensures.goes_on (inr (awaited_before c.awaits_now-now.result c.saturating_add-self.result (sym c.at-self.ensures ∙ is)))
