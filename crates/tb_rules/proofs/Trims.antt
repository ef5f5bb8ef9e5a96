use Rattle.std.proofs.Common.{◌≡◌, ℕ, List, [], ◌∷◌, ◌++◌, reverse, refl, sym, ◌∙◌, ap, eqb}
use Rattle.std.proofs.lemmas.Bool.{cond-false, ne_eqb}
use Rattle.std.proofs.lemmas.List.{reverse-append, reverse-reverse}
use Rattle.tb_rules.specs.Comments.{drop_spaces}

-- with none in front all stays
pub no_space_in_front : (bs : List ℕ) → ((rest : List ℕ) → bs ≡ 32 ∷ rest → ⊥) → drop_spaces bs ≡ bs
no_space_in_front [] h = refl
no_space_in_front (b ∷ bs) h = cond-false (eqb b 32) (drop_spaces bs) (b ∷ bs) (ne_eqb b 32 (λ e. h bs (ap (λ x. x ∷ bs) e)))

reverse_first : (b : ℕ) (bs : List ℕ) → reverse (b ∷ bs) ≡ reverse bs ++ b ∷ []
reverse_first b bs = reverse-append (b ∷ []) bs

-- with none at the end all stays
pub no_space_at_end : (bs : List ℕ) → ((front : List ℕ) → bs ≡ front ++ 32 ∷ [] → ⊥) → reverse (drop_spaces (reverse bs)) ≡ bs
no_space_at_end bs h =
    ap reverse (no_space_in_front (reverse bs) (λ rest e. h (reverse rest) (sym (reverse-reverse bs) ∙ ap reverse e ∙ reverse_first 32 rest))) ∙ reverse-reverse bs
