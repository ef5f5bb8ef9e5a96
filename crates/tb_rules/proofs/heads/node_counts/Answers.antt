use Rattle.std.proofs.Common.{ℕ, List, get_or, ap, sym, ◌∙◌}
use Rattle.tb_rules.proofs.Numbered.{none_counted}
use Rattle.tb_rules.proofs.heads.node_counts.Goals as goal

pub returns-else-has_nodes-clause-counts : goal.returns-else-has_nodes-clause-counts
returns-else-has_nodes-clause-counts g c = λ i.
    ap (λ (xs : List ℕ). get_or xs i 0) c.new.ensures.items ∙ sym (none_counted c.args.rows.now (sym c.has_nodes.ensures ∙ c.if-has_nodes.false) i)
