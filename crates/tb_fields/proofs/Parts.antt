-- one part of a text after another, as a loop over `split_once` meets them
use Rattle.std.proofs.Common.{◌≡◌, ℕ, List, [], ◌∷◌, length, map, Bool, true, false, not, ◌&&◌, ◌||◌, refl, sym, ◌∙◌, ap}
use Rattle.std.specs.List.{list_any, list_all, position_or_len, before_first}
use Rattle.std.specs.Str.{bytes_eq}
use Rattle.std.proofs.Math.Seq.{take-length}
use Rattle.tb_fields.specs.Feats.{is_label, is_layer, is_closing, is_opening, is_name, are_distinct, are_values, is_feature, feature_name, precedes, are_in_order, are_features}
use Rattle.tb_fields.proofs.Places.{list_any-from_no_place}

pub and_true : (b : Bool) → (b && true) ≡ b
and_true true = refl
and_true false = refl

or_false : (b : Bool) → (b || false) ≡ b
or_false true = refl
or_false false = refl

-- some part passes
pub any_here : (p : List ℕ → Bool) (xs ys : List (List ℕ)) (x : List ℕ) → xs ≡ x ∷ ys → true ≡ p x → true ≡ list_any p xs
any_here p xs ys x e h = ap (λ b. b || list_any p ys) h ∙ sym (ap (list_any p) e)

pub any_later : (p : List ℕ → Bool) (xs ys : List (List ℕ)) (x : List ℕ) → xs ≡ x ∷ ys → false ≡ p x → list_any p ys ≡ list_any p xs
any_later p xs ys x e h = ap (λ b. b || list_any p ys) h ∙ sym (ap (list_any p) e)

pub any_last : (p : List ℕ → Bool) (xs : List (List ℕ)) (x : List ℕ) → xs ≡ x ∷ [] → p x ≡ list_any p xs
any_last p xs x e = sym (ap (list_any p) e ∙ or_false (p x))

-- a test of the first part, and one of the others
pub fails_here : (f : List (List ℕ) → Bool) (b rest : Bool) (xs : List (List ℕ)) → f xs ≡ (b && rest) → b ≡ false → false ≡ f xs
fails_here f b rest xs e h = sym (e ∙ ap (λ x. x && rest) h)

pub passes_here : (f : List (List ℕ) → Bool) (b rest : Bool) (xs : List (List ℕ)) → f xs ≡ (b && rest) → b ≡ true → rest ≡ f xs
passes_here f b rest xs e h = sym (e ∙ ap (λ x. x && rest) h)

pub two_tests : (a x b y : Bool) → ((a && x) && (b && y)) ≡ ((a && b) && (x && y))
two_tests false x b y = refl
two_tests true false false y = refl
two_tests true false true y = refl
two_tests true true b y = refl

three_tests : (a x b y d z : Bool) → ((a && x) && ((b && y) && (d && z))) ≡ ((a && (b && d)) && (x && (y && z)))
three_tests false x b y d z = refl
three_tests true false false y d z = refl
three_tests true false true y false z = refl
three_tests true false true y true z = refl
three_tests true true false y d z = refl
three_tests true true true false false z = refl
three_tests true true true false true z = refl
three_tests true true true true d z = refl

pub are_values-cons : (xs ys : List (List ℕ)) (x : List ℕ) → xs ≡ x ∷ ys → are_values xs ≡ ((is_label x && not (list_any (bytes_eq x) ys)) && are_values ys)
are_values-cons xs ys x e = ap are_values e ∙ two_tests (is_label x) (list_all is_label ys) (not (list_any (bytes_eq x) ys)) (are_distinct ys)

pub are_values-one : (xs : List (List ℕ)) (x : List ℕ) → xs ≡ x ∷ [] → is_label x ≡ are_values xs
are_values-one xs x e = sym (ap are_values e ∙ (and_true (is_label x && true) ∙ and_true (is_label x)))

pub are_features-cons : (xs ys : List (List ℕ)) (x : List ℕ) → xs ≡ x ∷ ys → are_features xs ≡ ((is_feature x && (precedes (feature_name x) (map feature_name ys) && not (list_any (bytes_eq (feature_name x)) (map feature_name ys)))) && are_features ys)
are_features-cons xs ys x e =
    ap are_features e ∙
    three_tests (is_feature x) (list_all is_feature ys) (precedes (feature_name x) (map feature_name ys)) (are_in_order (map feature_name ys)) (not (list_any (bytes_eq (feature_name x)) (map feature_name ys))) (are_distinct (map feature_name ys))

pub are_features-one : (xs : List (List ℕ)) (x : List ℕ) → xs ≡ x ∷ [] → is_feature x ≡ are_features xs
are_features-one xs x e = sym (ap are_features e ∙ (and_true (is_feature x && true) ∙ and_true (is_feature x)))

-- without a bracket
pub is_layer-open : (bs : List ℕ) → position_or_len is_closing bs ≡ length bs → false ≡ is_layer bs
is_layer-open bs none = let no_bracket : list_any is_closing bs ≡ false = list_any-from_no_place is_closing bs none in rw no_bracket refl

pub is_name-plain : (bs : List ℕ) → position_or_len is_opening bs ≡ length bs → is_name bs ≡ is_label bs
is_name-plain bs none =
    let no_bracket : list_any is_opening bs ≡ false = list_any-from_no_place is_opening bs none in
    let whole : before_first is_opening bs ≡ bs = rw none (take-length bs) in
    rw no_bracket (and_true (is_label (before_first is_opening bs)) ∙ ap is_label whole)
