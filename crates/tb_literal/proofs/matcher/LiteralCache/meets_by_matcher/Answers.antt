use Rattle.std.proofs.Common.{◌∙◌, ap, sym, subst}
use Rattle.regex.specs.Strings.{matcher_pattern}
use Rattle.tb_literal.specs.Built.{Means}
use Rattle.tb_literal.specs.Literals.{PlainLit, meets}
use Rattle.tb_literal.proofs.NeedleLemmas.{met_by_matcher}
use Rattle.tb_literal.proofs.matcher.LiteralCache.meets_by_matcher.Goals as goal

pub returns-in-Some-clause-value : goal.returns-in-Some-clause-value
returns-in-Some-clause-value c =
    met_by_matcher c.self.inside.flag c.self.inside.text.now c.args.value.now c.in-Some.matcher _ (rw c.in-Some.is at c.self.invariant)
    (λ source means. c.finds.ensures.value source (subst (λ m. Means (matcher_pattern m) source) (sym c.deref_mut.ensures.value) means))
    ∙ ap (λ (l : PlainLit). meets l c.args.value.now) c.self.view_is
