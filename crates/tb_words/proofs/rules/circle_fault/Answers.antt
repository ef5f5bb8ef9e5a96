use Rattle.std.proofs.Common.{IfSome, List, rules, subst, ◌≡◌, ℕ}
use Rattle.tb_words.specs.Circles.{SaysCircleOf, heads_in}
use Rattle.tb_words.proofs.rules.circle_fault.Goals as goal

pub returns : goal.returns
returns c =
    let heads : c.as_slice-2.result.now ≡ heads_in c.args.placed.now.block.rows = search rules in
    subst (λ (hs : List ℕ). IfSome c.circle_with.result (SaysCircleOf hs c.args.placed.now)) heads c.circle_with.ensures
