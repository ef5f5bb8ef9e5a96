use Rattle.std.proofs.Common.{◌∙◌}
use Rattle.tb_literal.proofs.pattern.finds.Goals as goal

pub returns-clause-value : goal.returns-clause-value
returns-clause-value c source means = c.is_match.ensures.found ∙ means.at c.args.value.now (λ k. (c.type_inv.value k).fits)
