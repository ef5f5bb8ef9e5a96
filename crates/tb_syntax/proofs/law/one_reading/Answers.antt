use Rattle.std.proofs.Common.{ap, sym, ◌∙◌}
use Rattle.tb_syntax.specs.Pattern.{query_tree, query_tests}
use Rattle.tb_syntax.proofs.Unique.{one_derivation}
use Rattle.tb_syntax.proofs.law.one_reading.Goals as goal

pub returns-clause-derivation : goal.returns-clause-derivation
returns-clause-derivation c = one_derivation

pub returns-clause-pattern : goal.returns-clause-pattern
returns-clause-pattern c ls s t es fs p q = sym p.2 ∙ ap query_tree (one_derivation p.0 q.0 (p.1 ∙ sym q.1)) ∙ q.2

pub returns-clause-tests : goal.returns-clause-tests
returns-clause-tests c ls s t es fs p q = sym p.3 ∙ ap query_tests (one_derivation p.0 q.0 (p.1 ∙ sym q.1)) ∙ q.3
