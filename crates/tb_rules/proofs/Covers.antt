-- ranges that lead
use Rattle.std.proofs.Common.{◌≡◌, ℕ, ◌+◌, ◌<◌, ◌≤◌, max, List, length, take, get_or, Bool, true, false, ◌&&◌, ◌||◌, leb, ltb, inl, inr, refl, sym, ◌∙◌, ap, arith}
use Rattle.std.proofs.lemmas.Bool.{and_parts, cases_lt}
use Rattle.std.proofs.lemmas.Bool.Decides.{nat_tests}
use Rattle.std.proofs.lemmas.List.{get_or_default, take_all}
use Rattle.std.proofs.lemmas.List.Folds.{list_any_more}
use borrow.Author.Tests.{ltb-true, leb-true}
use Rattle.tb_conllu.specs.declared.id.LineId.{LineId}
use Rattle.tb_conllu.specs.declared.id.LineId.TheVariants.{Word, Span, Empty}
use Rattle.tb_conllu.specs.Text.{RowText}
use Rattle.tb_rules.specs.Restored.{covers, is_covered}
use Rattle.tb_rules.specs.Leading.{greatest_end, end_of_id, RangesLead, number_of_id, start_of_id, ascends}
use Rattle.tb_rules.proofs.Counts.{greatest_end-more}

or_false : (b : Bool) → (b || false) ≡ b
or_false true = refl
or_false false = refl

covered_more : (rs : List RowText) (i w : ℕ) (id : LineId) (r : RowText) → i < length rs → r ≡ get_or rs i r → r.id ≡ id → is_covered (take (i + 1) rs) w ≡ (is_covered (take i rs) w || covers w id)
covered_more rs i w id r l e same = list_any_more (λ x. covers w x.id) rs i r l ∙ ap (λ b. is_covered (take i rs) w || b) (ap (λ (x : RowText). covers w x.id) (sym e) ∙ ap (covers w) same)

covered_same : (rs : List RowText) (i w : ℕ) (id : LineId) (r : RowText) → i < length rs → r ≡ get_or rs i r → r.id ≡ id → covers w id ≡ false → is_covered (take (i + 1) rs) w ≡ is_covered (take i rs) w
covered_same rs i w id r l e same none = covered_more rs i w id r l e same ∙ (ap (λ b. is_covered (take i rs) w || b) none ∙ or_false (is_covered (take i rs) w))

pub end_more : (rs : List RowText) (i : ℕ) (id : LineId) (r : RowText) → i < length rs → r ≡ get_or rs i r → r.id ≡ id → greatest_end (take (i + 1) rs) ≡ max (greatest_end (take i rs)) (end_of_id id)
end_more rs i id r l e same = greatest_end-more rs i r l e ∙ ap (λ x. max (greatest_end (take i rs)) (end_of_id x)) same

-- what has come of the rows: the greatest word, and the greatest first word of a range
pub record Led (rs : List RowText) (i word start : ℕ) : Type 0 where
  pub reported : (k w : ℕ) (d : RowText) → k < i → (get_or rs k d).id ≡ Word w → (w ≤ word) × (is_covered (take i rs) w ≡ leb w (greatest_end (take k rs)))
  pub ahead : (w : ℕ) → 0 < w → start ≤ w → is_covered (take i rs) w ≡ leb w (greatest_end (take i rs))

before_or_at : (k i : ℕ) → k < i + 1 → i ≤ k → k ≡ i
before_or_at k i l m = omega arith

max_zero : (n : ℕ) → max n 0 ≡ n
max_zero n = omega arith

not_under : (a w b : ℕ) → w < a → (leb a w && leb w b) ≡ false
not_under a w b l = grind (arith, nat_tests)

under_either : (w x a b : ℕ) → a ≤ w → (leb w x || (leb a w && leb w b)) ≡ leb w (max x b)
under_either w x a b l = grind (arith, nat_tests)

number_same : (w n : ℕ) → Word w ≡ Word n → w ≡ n
number_same w n e = cc

-- a word comes
word_leads : (rs : List RowText) (i word start n : ℕ) (r : RowText) → i < length rs → r ≡ get_or rs i r → r.id ≡ Word n → 0 < n → start ≤ n → Led rs i word start → Led rs (i + 1) (max word n) (max start 0)
word_leads rs i word start n r l e id some late h = record {
  reported = λ k w d m is. elim (cases_lt k i) [
    | inl less ↦ (let t = h.reported k w d less is in (omega (arith, t.0), covered_same rs i w (Word n) r l e id refl ∙ t.1))
    | inr more ↦
        let here : k ≡ i = before_or_at k i m more in
        let row : get_or rs k d ≡ r = ap (λ x. get_or rs x d) here ∙ (get_or_default rs i d r l ∙ sym e) in
        let number : w ≡ n = number_same w n (sym is ∙ (ap (λ (x : RowText). x.id) row ∙ id)) in
        (omega arith, covered_same rs i w (Word n) r l e id refl ∙ (h.ahead w (omega arith) (omega arith) ∙ ap (λ x. leb w (greatest_end (take x rs))) (sym here)))
  ];
  ahead = λ w positive after. covered_same rs i w (Word n) r l e id refl ∙ (h.ahead w positive (omega arith) ∙ ap (leb w) (sym (end_more rs i (Word n) r l e id ∙ max_zero (greatest_end (take i rs)))));
}

-- a range comes
range_leads : (rs : List RowText) (i word start a b : ℕ) (r : RowText) → i < length rs → r ≡ get_or rs i r → r.id ≡ Span a b → word < a → Led rs i word start → Led rs (i + 1) (max word 0) (max start a)
range_leads rs i word start a b r l e id late h = record {
  reported = λ k w d m is. elim (cases_lt k i) [
    | inl less ↦ (let t = h.reported k w d less is in (omega (arith, t.0), covered_same rs i w (Span a b) r l e id (not_under a w b (omega (arith, t.0))) ∙ t.1))
    | inr more ↦
        let here : k ≡ i = before_or_at k i m more in
        let row : get_or rs k d ≡ r = ap (λ x. get_or rs x d) here ∙ (get_or_default rs i d r l ∙ sym e) in
        let bad : Word w ≡ Span a b = sym is ∙ (ap (λ (x : RowText). x.id) row ∙ id) in
        absurd (let no : ⊥ = cc in no)
  ];
  ahead = λ w positive after. covered_more rs i w (Span a b) r l e id ∙ (ap (λ c. c || (leb a w && leb w b)) (h.ahead w positive (omega arith)) ∙ (under_either w (greatest_end (take i rs)) a b (omega arith) ∙ ap (leb w) (sym (end_more rs i (Span a b) r l e id))));
}

-- an empty node comes
node_leads : (rs : List RowText) (i word start j n : ℕ) (r : RowText) → i < length rs → r ≡ get_or rs i r → r.id ≡ Empty j n → Led rs i word start → Led rs (i + 1) (max word 0) (max start 0)
node_leads rs i word start j n r l e id h = record {
  reported = λ k w d m is. elim (cases_lt k i) [
    | inl less ↦ (let t = h.reported k w d less is in (omega (arith, t.0), covered_same rs i w (Empty j n) r l e id refl ∙ t.1))
    | inr more ↦
        let here : k ≡ i = before_or_at k i m more in
        let row : get_or rs k d ≡ r = ap (λ x. get_or rs x d) here ∙ (get_or_default rs i d r l ∙ sym e) in
        let bad : Word w ≡ Empty j n = sym is ∙ (ap (λ (x : RowText). x.id) row ∙ id) in
        absurd (let no : ⊥ = cc in no)
  ];
  ahead = λ w positive after. covered_same rs i w (Empty j n) r l e id refl ∙ (h.ahead w positive (omega arith) ∙ ap (leb w) (sym (end_more rs i (Empty j n) r l e id ∙ max_zero (greatest_end (take i rs)))));
}

pub row_leads : (rs : List RowText) (i word start : ℕ) (id : LineId) (r : RowText) → i < length rs → r ≡ get_or rs i r → r.id ≡ id → ascends word start id ≡ true → Led rs i word start → Led rs (i + 1) (max word (number_of_id id)) (max start (start_of_id id))
row_leads rs i word start (Word n) r l e id fine h = let parts = and_parts (ltb 0 n) (leb start n) fine in word_leads rs i word start n r l e id (ltb-true 0 n parts.0) (leb-true start n parts.1) h
row_leads rs i word start (Span a b) r l e id fine h = range_leads rs i word start a b r l e id (ltb-true word a fine) h
row_leads rs i word start (Empty j n) r l e id fine h = node_leads rs i word start j n r l e id h

pub all_led : (rs : List RowText) (i word start : ℕ) → length rs ≤ i → Led rs i word start → RangesLead rs
all_led rs i word start m h k w d l is = ap (λ (xs : List RowText). is_covered xs w) (sym (take_all i rs m)) ∙ (h.reported k w d (omega arith) is).1
