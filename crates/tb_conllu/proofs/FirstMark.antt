-- Bytes cut at the first of a mark.
use Rattle.std.proofs.Common.{◌≡◌, ℕ, ◌+◌, ◌<◌, List, [], ◌∷◌, ◌++◌, length, true, refl, ap, arith, take, drop, zero, suc, get_or, add-one, inl, inr, ◌∙◌}
use Rattle.std.specs.Prelude.{◌==◌}
use Rattle.std.proofs.lemmas.Bool.{eqb-true, cases_Bool}
use Rattle.tb_conllu.proofs.Cuts.{Lacks}

-- no place holds the mark
pub nowhere : (mark : ℕ) (bs : List ℕ) → ((k : ℕ) → k < length bs → (get_or bs k 0 == mark) ≡ true → ⊥) → Lacks mark bs
nowhere mark [] h = refl
nowhere mark (b ∷ bs) h =
    elim (cases_Bool (b == mark)) [
      | inl hit ↦ absurd (h 0 (omega arith) hit)
      | inr miss ↦ rw (miss, nowhere mark bs (λ k l e. h (suc k) (omega arith) e)) refl
    ]

-- the part before the first of the mark, and the part after it
pub cut_at : (mark : ℕ) (bs : List ℕ) (end : ℕ) → end < length bs → ((k : ℕ) → k < end → (get_or bs k 0 == mark) ≡ true → ⊥) → (get_or bs end 0 == mark) ≡ true → Lacks mark (take end bs) × (bs ≡ take end bs ++ mark ∷ drop (end + 1) bs)
cut_at mark [] end l h hit = absurd (omega arith)
cut_at mark (b ∷ bs) zero l h hit = (refl, let e : b ≡ mark = eqb-true b mark hit in ap (λ x. x ∷ bs) e)
cut_at mark (b ∷ bs) (suc end) l h hit =
    let rest = cut_at mark bs end (omega arith) (λ k m e. h (suc k) (omega arith) e) hit in
    elim (cases_Bool (b == mark)) [
      | inl first ↦ absurd (h 0 (omega arith) first)
      | inr miss ↦ (rw (miss, rest.0) refl, rw add-one (ap (λ x. b ∷ x) (rest.1 ∙ rw add-one refl)))
    ]
