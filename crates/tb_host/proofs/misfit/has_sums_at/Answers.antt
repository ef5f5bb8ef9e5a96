use Rattle.std.proofs.Common.{◌∙◌, arith, subst, sym}
use Rattle.std.proofs.lemmas.Bool.{true≢false}
use Rattle.tb_host.specs.Looked.{HasSumsAt}
use Rattle.tb_host.proofs.misfit.has_sums_at.Goals as goal

pub returns-in-Some-clause-yes : goal.returns-in-Some-clause-yes
returns-in-Some-clause-yes c t d = subst (HasSumsAt c.args.totals.now c.args.at) (c.in-Some.ensures.lookup.3.1 d) (c.has_sums.ensures.0 t)

pub returns-in-Some-clause-no : goal.returns-in-Some-clause-no
returns-in-Some-clause-no c f inside d has = true≢false (sym (c.has_sums.ensures.1 (subst (HasSumsAt c.args.totals.now c.args.at) (sym (c.in-Some.ensures.lookup.3.1 d)) has)) ∙ f)

pub returns-in-None-clause-yes : goal.returns-in-None-clause-yes
returns-in-None-clause-yes c t = absurd (true≢false (sym t))

pub returns-in-None-clause-no : goal.returns-in-None-clause-no
returns-in-None-clause-no c _ inside = absurd (omega (arith, inside, c.in-None.ensures.lookup.3))
