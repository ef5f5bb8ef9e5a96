use Rattle.std.proofs.Common.{◌≡◌, ◌≢◌, ◌++◌, List, ℕ, subst}
use Rattle.std.specs.Option.{MatchOption}
use Rattle.tb_rules.proofs.Compare.{space_is}
use Rattle.tb_rules.proofs.matching.past_gap.Goals as goal

pub returns-then-expected-2 : goal.returns-then-expected-2
returns-then-expected-2 c =
    subst (λ (s : List ℕ). MatchOption c.strip_char.result ((r : List ℕ) → c.args.expected.rest.now ≢ s ++ r) (λ x. c.args.expected.rest.now ≡ s ++ x.now)) (space_is c.args.expected.begun c.args.expected.gap c.if-expected.true c.if-expected-2.true) c.strip_char.ensures
