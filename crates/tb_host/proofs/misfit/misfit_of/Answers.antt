use Rattle.std.proofs.Common.{◌≡◌, ◌∙◌, inl, refl, subst}
use Rattle.std.specs.Prelude.{IsTrue}
use Rattle.tb_host.proofs.Firsts.{at_said}
use Rattle.tb_host.specs.Looked.{Said}
use Rattle.tb_host.specs.Misfits.{HasNumber, IsFirstOff}
use Rattle.tb_host.proofs.misfit.misfit_of.Goals as goal

pub returns-in-Some-clause-first : goal.returns-in-Some-clause-first
returns-in-Some-clause-first g c said is = (
  refl,
  subst (λ rows. IsFirstOff HasNumber rows c.in-Some.number) (c.as_slice.ensures.value ∙ at_said _ said (λ (s : Said). c.in-Ok.rows.items ≡ s.numbers c.args.table) is c.in-Ok.ensures.told) c.in-Some.ensures,
)

pub returns-clause-first : goal.returns-clause-first
returns-clause-first g c said is = inl (at_said _ said (λ (s : Said). IsTrue s.may_fail) is c.in-Err.ensures.told)
