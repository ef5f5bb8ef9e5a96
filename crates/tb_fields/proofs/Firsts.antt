-- the first part of a text, which is refused without memory
use Rattle.std.proofs.Common.{◌≡◌, ℕ, suc, ◌+◌, ◌<◌, List, length, [], ◌∷◌, Bool, true, false, cond, not, ◌&&◌, take, refl, sym, ◌∙◌, ap, arith}
use Rattle.std.specs.List.{list_any, position_or_len, slice_split, onto_first, before_first, after_first}
use Rattle.std.proofs.lemmas.Bool.{and_parts, and_from, false≢true}
use Rattle.tb_fields.specs.Feats.{is_comma, is_equals, is_label, is_name, are_values, is_feature}
use Rattle.tb_fields.specs.Begun.{begins_as_feature}
use Rattle.tb_fields.proofs.Places.{list_any-from_place}

-- ---- the first part is what comes before the first mark

part_step : {X : Type 0} (b : Bool) (x : X) (xs : List X) (parts : List (List X)) (place : ℕ) (rest : List (List X)) → parts ≡ take place xs ∷ rest → (more : List (List X)) × (cond b ([] ∷ parts) (onto_first x parts) ≡ take (cond (not b) (1 + place) 0) (x ∷ xs) ∷ more)
part_step true x xs parts place rest e = (parts, refl)
part_step false x xs parts place rest e =
    let one : suc place ≡ 1 + place = omega arith in
    (rest, ap (onto_first x) e ∙ ap (λ n. take n (x ∷ xs) ∷ rest) one)

first_of : {X : Type 0} (p : X → Bool) (xs : List X) → (more : List (List X)) × (slice_split p xs ≡ before_first p xs ∷ more)
first_of p [] = ([], refl)
first_of p (x ∷ xs) = let r = first_of p xs in part_step (p x) x xs (slice_split p xs) (position_or_len p xs) r.0 r.1

-- ---- values, and a feature, have a first value

values_begin : (vs : List ℕ) → are_values (slice_split is_comma vs) ≡ true → is_label (before_first is_comma vs) ≡ true
values_begin vs h =
    let r = first_of is_comma vs in
    (and_parts _ _ (and_parts _ _ (sym (ap are_values r.1) ∙ h)).0).0

pub feature_begins : (bs : List ℕ) → is_feature bs ≡ true → begins_as_feature bs ≡ true
feature_begins bs h =
    let name = and_parts (list_any is_equals bs && is_name (before_first is_equals bs)) (are_values (slice_split is_comma (after_first is_equals bs))) h in
    and_from (list_any is_equals bs && is_name (before_first is_equals bs)) (is_label (before_first is_comma (after_first is_equals bs))) name.0 (values_begin (after_first is_equals bs) name.1)

-- a name and the text of the values, of which the first is none
pub values_end : (bs name values : List ℕ) → position_or_len is_equals bs < length bs → name ≡ before_first is_equals bs → values ≡ after_first is_equals bs → is_name name ≡ true → begins_as_feature bs ≡ false → is_label (before_first is_comma values) ≡ false
values_end bs name values place front rest named bad =
    let value = is_label (before_first is_comma (after_first is_equals bs)) in
    let good = and_from (list_any is_equals bs) (is_name (before_first is_equals bs)) (list_any-from_place is_equals bs place) (ap is_name (sym front) ∙ named) in
    ap (λ (vs : List ℕ). is_label (before_first is_comma vs)) rest ∙ (sym (ap (λ b. b && value) good) ∙ bad)

-- ---- in a loop over the parts

-- where the first part fails a test, so does the part that the loop is at
pub fails_first : (p : List ℕ → Bool) (mark : ℕ → Bool) (all left part : List ℕ) → (p (before_first mark all) ≡ false → left ≡ all) → part ≡ before_first mark left → p (before_first mark all) ≡ false → p part ≡ false
fails_first p mark all left part same first bad = ap p first ∙ (ap (λ (bs : List ℕ). p (before_first mark bs)) (same bad) ∙ bad)

-- so a part that passes it is another
pub passed_first : (p : List ℕ → Bool) (mark : ℕ → Bool) (all left part : List ℕ) → (p (before_first mark all) ≡ false → left ≡ all) → part ≡ before_first mark left → p part ≡ true → p (before_first mark all) ≡ false → ⊥
passed_first p mark all left part same first passed bad = false≢true (sym (fails_first p mark all left part same first bad) ∙ passed)
