-- One step more along a circle.
use Rattle.std.proofs.Common.{◌≡◌, ◌∙◌, ◌++◌, ◌+◌, ℕ, suc, List, ap, below_more, codes, decimal}
use Rattle.tb_words.specs.Circles.{NoneLeadsBack, circle_to, steps_from}

pub one_step_more : (heads : List ℕ) (word n here : ℕ) (old new : List ℕ) → here ≡ steps_from heads (suc n) word
    → old ≡ circle_to heads word n → new ≡ old ++ (codes " -> " ++ decimal here) → new ≡ circle_to heads word (suc n)
one_step_more heads word n here old new here_is old_is new_is =
    new_is ∙ (ap (λ (xs : List ℕ). xs ++ (codes " -> " ++ decimal here)) old_is
    ∙ ap (λ (k : ℕ). circle_to heads word n ++ (codes " -> " ++ decimal k)) here_is)

pub leads_not_back : (heads : List ℕ) (word n here : ℕ) → here ≡ steps_from heads (suc n) word → (here ≡ word → ⊥)
    → NoneLeadsBack heads word n → NoneLeadsBack heads word (n + 1)
leads_not_back heads word n here here_is other none k less =
    below_more (λ (j : ℕ). steps_from heads (suc j) word ≡ word → ⊥) n none (λ back. other (here_is ∙ back)) k less
