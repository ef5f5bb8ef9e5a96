use Rattle.std.proofs.Common.{ap, rules, subst, sym, ◌∙◌, ℕ}
use Rattle.std.proofs.lemmas.Bool.{true≢false}
use Rattle.tb_words.proofs.PairSteps.{same_two}
use Rattle.tb_words.specs.PairFaults.{IsThere, place_of}
use Rattle.tb_words.proofs.pairs.head_in.Goals as goal

pub returns-else-is_there : goal.returns-else-is_there
returns-else-is_there c = (
  search rules,
  λ id writes there.
      let known = c.in_ok-place.ensures in
      let same = ap place_of (same_two c.args.text.now known.0 id known.1 writes) ∙ sym known.2 in
      true≢false (sym (c.is_there.ensures.1 (subst (λ (p : ℕ × ℕ). IsThere c.args.nodes.now p) same there)) ∙ c.if-is_there.false),
)
