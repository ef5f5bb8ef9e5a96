use Rattle.std.proofs.Common.{subst, List, ℕ}
use Rattle.tb_words.specs.QueryNumbers.{IsNumber}
use Rattle.tb_words.proofs.queries.numbers_fault.Goals as goal

pub returns : goal.returns
returns c = (
  c.number.result,
  c.number-2.result,
  subst (λ (text : List ℕ). IsNumber text c.number.result) c.bounds_of.ensures.lower c.number.ensures,
  subst (λ (text : List ℕ). IsNumber text c.number-2.result) c.bounds_of.ensures.upper c.number-2.ensures,
  c.bounds_fault.ensures,
)
