-- The first field of a line, and what is cut off by its tab.
use Rattle.std.proofs.Common.{◌≡◌, ℕ, ◌+◌, ◌<◌, List, [], ◌∷◌, length, take, drop, get_or, Bool, true, false, not, ◌&&◌, refl, ◌∙◌, ap, arith, inl, inr}
use Rattle.std.specs.Prelude.{◌==◌}
use Rattle.std.specs.List.{onto_first, position_or_len, list_any}
use Rattle.std.proofs.lemmas.Bool.{cases_Bool, cond-true, cond-false}
use Rattle.std.proofs.lemmas.Bool.Decides.{nat_tests}
use Rattle.std.proofs.lemmas.List.Sums.{position_or_len_is}
use Rattle.std.proofs.lemmas.List.Splits.{slice_split_first, length-slice_split, slice_split-cons_no}
use Rattle.tb_conllu.specs.Lines.{fields, has_ten_fields, is_empty}

none_split : (bs : List ℕ) → position_or_len (λ b. b == 9) bs ≡ length bs → fields bs ≡ bs ∷ []
none_split [] h = refl
none_split (b ∷ bs) h =
    elim (cases_Bool (b == 9)) [
      | inl hit ↦
          let e : position_or_len (λ c. c == 9) (b ∷ bs) ≡ 0 = cond-false (not (b == 9)) _ 0 (ap not hit) in
          absurd (omega (arith, e, h))
      | inr miss ↦
          let e : position_or_len (λ c. c == 9) (b ∷ bs) ≡ 1 + position_or_len (λ c. c == 9) bs = cond-true (not (b == 9)) _ 0 (ap not miss) in
          slice_split-cons_no (λ c. c == 9) b bs miss ∙ ap (onto_first b) (none_split bs (omega (arith, e, h)))
    ]

not_so : (b : Bool) → (b ≡ true → ⊥) → b ≡ false
not_so true h = absurd (h refl)
not_so false h = refl

-- no place holds a tab
pub no_tab : (bs : List ℕ) → ((k : ℕ) → k < length bs → (get_or bs k 0 == 9) ≡ true → ⊥) → fields bs ≡ bs ∷ []
no_tab bs h = none_split bs (position_or_len_is (λ b. b == 9) bs (length bs) 0 (omega arith) (λ k l. not_so (get_or bs k 0 == 9) (h k l)) (λ l. absurd (omega (arith, l))))

-- the first tab stands here
pub tab_at : (bs : List ℕ) (end : ℕ) → end < length bs → ((k : ℕ) → k < end → (get_or bs k 0 == 9) ≡ true → ⊥) → (get_or bs end 0 == 9) ≡ true → fields bs ≡ take end bs ∷ fields (drop (end + 1) bs)
tab_at bs end l h hit =
    let at : position_or_len (λ b. b == 9) bs ≡ end = position_or_len_is (λ b. b == 9) bs end 0 (omega (arith, l)) (λ k m. not_so (get_or bs k 0 == 9) (h k m)) (λ m. hit) in
    slice_split_first (λ b. b == 9) bs 0 (omega (arith, at, l)) ∙ ap (λ n. take n bs ∷ fields (drop (n + 1) bs)) at

-- more than ten parts aren't ten
pub eleven : (line a b c d e f g h i j rest : List ℕ) → fields line ≡ a ∷ b ∷ c ∷ d ∷ e ∷ f ∷ g ∷ h ∷ i ∷ j ∷ fields rest → has_ten_fields line ≡ false
eleven line a b c d e f g h i j rest same =
    let n = length-slice_split (λ b. b == 9) rest in
    let m = ap length same in
    let other : (length (fields line) == 10) ≡ false = grind (arith, nat_tests) in
    rw other refl

-- the test of ten fields, by the fields
pub ten_with : (line a b c d e f g h i j : List ℕ) → fields line ≡ a ∷ b ∷ c ∷ d ∷ e ∷ f ∷ g ∷ h ∷ i ∷ j ∷ [] → has_ten_fields line ≡ not (list_any is_empty (a ∷ b ∷ c ∷ d ∷ e ∷ f ∷ g ∷ h ∷ i ∷ j ∷ []))
ten_with line a b c d e f g h i j same = ap (λ fs. length fs == 10 && not (list_any is_empty fs)) same
