-- A range begins after the end of every range before it where it begins after the greatest of these ends.
use Rattle.std.proofs.Common.{◌≡◌, ℕ, ◌+◌, max, List, [], ◌∷◌, Bool, true, false, ◌&&◌, eqb, ltb, leb, refl, sym, ◌∙◌, ap, arith}
use Rattle.std.specs.List.{list_all, fold, count_by}
use Rattle.std.proofs.lemmas.Bool.{eqb-true, lt-ltb}
use Rattle.std.proofs.lemmas.Bool.Decides.{nat_tests}
use Rattle.tb_conllu.specs.declared.id.LineId.{LineId}
use Rattle.tb_conllu.specs.declared.id.LineId.TheVariants.{Word, Span, Empty}
use Rattle.tb_conllu.specs.Text.{RowText}
use Rattle.tb_conllu.specs.Words.{is_word}
use Rattle.tb_fields.proofs.Parts.{and_true}
use Rattle.tb_rules.specs.Spans.{is_bare, ends_before, is_fine_as_span}
use Rattle.tb_rules.specs.Leading.{end_of_id, greatest_end, is_fine_past}

and_three : (a b c : Bool) → ((a && b) && c) ≡ (a && (b && c))
and_three true b c = refl
and_three false b c = refl

no_later : (m : ℕ) → max m 0 ≡ m
no_later m = omega arith

one_end : (a e : ℕ) (id : LineId) → ltb (max e (end_of_id id)) a ≡ (ltb e a && ends_before a id)
one_end a e (Word n) = ap (λ m. ltb m a) (no_later e) ∙ sym (and_true (ltb e a))
one_end a e (Span x y) = grind (arith, nat_tests)
one_end a e (Empty i k) = ap (λ m. ltb m a) (no_later e) ∙ sym (and_true (ltb e a))

all_ends : (a e : ℕ) (rs : List RowText) → ltb (fold (λ (x : ℕ) (r : RowText). max x (end_of_id r.id)) e rs) a ≡ (ltb e a && list_all (λ r. ends_before a r.id) rs)
all_ends a e [] = sym (and_true (ltb e a))
all_ends a e (r ∷ rs) =
    all_ends a (max e (end_of_id r.id)) rs ∙
    (ap (λ b. b && list_all (λ x. ends_before a x.id) rs) (one_end a e r.id) ∙ and_three (ltb e a) (ends_before a r.id) (list_all (λ x. ends_before a x.id) rs))

end_tells : (a n : ℕ) (rs : List RowText) → a ≡ n + 1 → ltb (greatest_end rs) a ≡ list_all (λ r. ends_before a r.id) rs
end_tells a n rs e = all_ends a 0 rs ∙ ap (λ b. b && list_all (λ r. ends_before a r.id) rs) (lt-ltb 0 a (omega (arith, e)))

moved : (q r s t : Bool) → (((q && r) && s) && t) ≡ (((s && q) && r) && t)
moved true true true t = refl
moved true true false t = refl
moved true false true t = refl
moved true false false t = refl
moved false r true t = refl
moved false r false t = refl

in_order : (p q r s s' t : Bool) → (p ≡ true → s ≡ s') → ((((p && q) && r) && s) && t) ≡ ((((p && s') && q) && r) && t)
in_order true q r s s' t h = ap (λ b. ((q && r) && b) && t) (h refl) ∙ moved q r s' t
in_order false q r s s' t h = refl

-- what the greatest end tells of a row
pub fine_past : (n : ℕ) (before : List RowText) (id : LineId) (r : RowText) → is_fine_past n (count_by is_word before) (greatest_end before) id r ≡ is_fine_as_span n before id r
fine_past n before (Word m) r = refl
fine_past n before (Span a b) r =
    in_order (eqb a (count_by is_word before + 1)) (leb a b) (leb b n) (ltb (greatest_end before) a) (list_all (λ x. ends_before a x.id) before) (is_bare r)
    (λ h. end_tells a (count_by is_word before) before (eqb-true a (count_by is_word before + 1) h))
fine_past n before (Empty i k) r = refl
