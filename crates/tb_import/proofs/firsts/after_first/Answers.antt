use Rattle.std.proofs.Common.{◌≡◌, ◌≢◌, ◌++◌, List, ℕ, subst, ◌∙◌}
use Rattle.std.specs.Prelude.{MatchOption}
use Rattle.std.proofs.lemmas.Bool.Decides.{Decides-eqb}
use Rattle.std.proofs.lemmas.Slice.Eq.{strip_prefix_is}
use Rattle.tb_import.proofs.Looks.{look_stopped, look_well}
use Rattle.tb_import.proofs.firsts.after_first.Goals as goal

pub returns-clause-answered : goal.returns-clause-answered
returns-clause-answered g c clean s b desk first =
    let body = c.as_bytes.ensures.value ∙ c.in_ok-row.ensures.answered clean s b desk first in
    subst (λ p. MatchOption c.strip_prefix.result ((more : List ℕ) → c.args.text.now ≢ p ++ more) (λ more. c.args.text.now ≡ p ++ more.now)) body
    (strip_prefix_is Decides-eqb c.args.text.now c.as_bytes.result.now c.strip_prefix.result c.strip_prefix.ensures.cases)

pub returns-in_err-row-clause-look : goal.returns-in_err-row-clause-look
returns-in_err-row-clause-look g c =
    look_stopped c.from_residual.result c.in_err-row.field-0.0 c.from_residual.ensures.1 c.in_err-row.ensures.look (λ clean s desk fails on b first. on (fails b first))

pub returns-clause-look : goal.returns-clause-look
returns-clause-look g c = look_well c.in_ok-row.ensures.look.left c.in_ok-row.ensures.look.stays (λ s fine b first. fine)
