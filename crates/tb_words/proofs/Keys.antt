-- Comments with a key, in a walk over some.
use Rattle.std.proofs.Common.{◌≡◌, ℕ, ◌+◌, ◌≤◌, List, [], None, ap, below_more, get_or, sym, ◌∙◌}
use Rattle.tb_rules.specs.Comments.{value_under}
use Rattle.tb_words.specs.Keyed.{LacksKey}

-- one comment more that lacks the key
pub one_more_lacks : (key : List ℕ) (comments : List (List ℕ)) (from at : ℕ) (comment : List ℕ) → comment ≡ get_or comments at []
    → value_under key comment ≡ None → LacksKey key comments from at → LacksKey key comments from (at + 1)
one_more_lacks key comments from at comment is none lacks =
    λ k start less. below_more (λ (j : ℕ). from ≤ j → value_under key (get_or comments j []) ≡ None) at
    (λ j before start. lacks j start before) (λ start. ap (value_under key) (sym is) ∙ none) k less start
