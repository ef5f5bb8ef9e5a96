use Rattle.std.proofs.Common.{List, rules, subst, ℕ}
use Rattle.std.specs.Str.Parse.{without_leading_plus}
use Rattle.tb_words.proofs.Numbers.{written_number}
use Rattle.tb_words.specs.QueryNumbers.{IsWritten}
use Rattle.tb_words.proofs.queries.number.Goals as goal

pub returns : goal.returns
returns c = (
  search rules,
  subst (λ (t : List ℕ). IsWritten (without_leading_plus t) c.unwrap_or.result) c.trim-digits.ensures.trim
      (written_number c.trim-digits.result.now c.parse.result c.unwrap_or.result c.parse.ensures.value.0 c.unwrap_or.ensures),
)
