-- Names that rise strictly are in order, and none comes twice.
use Rattle.std.proofs.Common.{◌≡◌, ℕ, suc, zero, ◌<◌, ◌≤◌, get_or, List, [], ◌∷◌, length, drop, map, Bool, true, false, not, ◌&&◌, ◌||◌, refl, sym, ◌∙◌, ap, arith, inl, inr, Option, Some, None, Bor}
use Rattle.std.specs.Prelude.{◌==◌, nat_lt, IfSome, is_some}
use Rattle.std.specs.Char.{to_ascii_lowercase}
use Rattle.std.specs.List.{list_any, list_all, position_or_len, before_first, after_first, slice_split, onto_first}
use Rattle.std.specs.Str.{bytes_eq}
use Rattle.std.proofs.Math.Seq.{drop-cons}
use Rattle.std.proofs.lemmas.List.{drop_all}
use Rattle.std.proofs.lemmas.Bool.{cases_Bool}
use Rattle.std.proofs.lemmas.Bool.Decides.{nat_tests}
use Rattle.std.proofs.lemmas.Slice.Eq.{bytes_eq-Decides}
use Rattle.tb_fields.specs.Feats.{is_feature, feature_name, precedes, are_features, is_not_after, is_equals, is_comma, is_opening, is_label, is_name, is_capital_or_digit, is_letter_or_digit, are_values}
use Rattle.tb_fields.specs.Rising.{is_below, are_rising}
use Rattle.std.proofs.lemmas.List.Splits.{slice_split-cons_no}
use Rattle.tb_fields.proofs.Parts.{are_features-cons, are_values-one, is_name-plain}
use Rattle.tb_fields.proofs.Places.{list_any-from_place}

-- ---- the order

weaken : (less same p q : Bool) → (p ≡ true → q ≡ true) → (less || (same && p)) ≡ true → (less || (same && q)) ≡ true
weaken true same p q h e = refl
weaken false true p q h e = h e
weaken false false p q h e = e

pub not_after : (xs ys : List ℕ) → is_below xs ys ≡ true → is_not_after xs ys ≡ true
not_after [] ys h = refl
not_after (x ∷ xs) [] h = h
not_after (x ∷ xs) (y ∷ ys) h =
    weaken (nat_lt (to_ascii_lowercase x) (to_ascii_lowercase y)) (to_ascii_lowercase x == to_ascii_lowercase y) (is_below xs ys) (is_not_after xs ys) (not_after xs ys) h

otherwise : (a b : ℕ) (p q : Bool) → p ≡ not q → (nat_lt a b || (a == b && p)) ≡ not (nat_lt b a || (b == a && q))
otherwise a b p true h = rw h (grind (arith, nat_tests))
otherwise a b p false h = rw h (grind (arith, nat_tests))

pub not_after_by : (xs ys : List ℕ) → is_not_after xs ys ≡ not (is_below ys xs)
not_after_by [] [] = refl
not_after_by [] (y ∷ ys) = refl
not_after_by (x ∷ xs) [] = refl
not_after_by (x ∷ xs) (y ∷ ys) = otherwise (to_ascii_lowercase x) (to_ascii_lowercase y) (is_not_after xs ys) (is_below ys xs) (not_after_by xs ys)

not_below_itself : (a : ℕ) (p : Bool) → p ≡ false → (nat_lt a a || (a == a && p)) ≡ false
not_below_itself a true h = absurd (let e : true ≡ false = h in cc)
not_below_itself a false h = grind (arith, nat_tests)

irreflexive : (xs : List ℕ) → is_below xs xs ≡ false
irreflexive [] = refl
irreflexive (x ∷ xs) = not_below_itself (to_ascii_lowercase x) (is_below xs xs) (irreflexive xs)

onward : (a b c : ℕ) (p q r : Bool) → (p ≡ true → q ≡ true → r ≡ true) → (nat_lt a b || (a == b && p)) ≡ true → (nat_lt b c || (b == c && q)) ≡ true → (nat_lt a c || (a == c && r)) ≡ true
onward a b c true true r h e f = let is : r ≡ true = h refl refl in rw is (grind (arith, nat_tests))
onward a b c true false r h e f = grind (arith, nat_tests)
onward a b c false true r h e f = grind (arith, nat_tests)
onward a b c false false r h e f = grind (arith, nat_tests)

transitive : (xs ys zs : List ℕ) → is_below xs ys ≡ true → is_below ys zs ≡ true → is_below xs zs ≡ true
transitive [] [] zs h k = k
transitive [] (y ∷ ys) [] h k = k
transitive [] (y ∷ ys) (z ∷ zs) h k = refl
transitive (x ∷ xs) [] [] h k = h
transitive (x ∷ xs) [] (z ∷ zs) h k = absurd (let e : false ≡ true = h in cc)
transitive (x ∷ xs) (y ∷ ys) [] h k = k
transitive (x ∷ xs) (y ∷ ys) (z ∷ zs) h k =
    onward (to_ascii_lowercase x) (to_ascii_lowercase y) (to_ascii_lowercase z) (is_below xs ys) (is_below ys zs) (is_below xs zs) (transitive xs ys zs) h k

differs : (xs ys : List ℕ) → is_below xs ys ≡ true → bytes_eq xs ys ≡ false
differs xs ys h =
    elim (cases_Bool (bytes_eq xs ys)) [
      | inl same ↦ (let e : xs ≡ ys = (bytes_eq-Decides xs ys).0 same in let no : is_below xs ys ≡ false = ap (is_below xs) (sym e) ∙ irreflexive xs in absurd (let f : true ≡ false = sym h ∙ no in cc))
      | inr other ↦ other
    ]

-- ---- lists

and_both : (a b c : Bool) → ((a && b) && c) ≡ true → (a ≡ true) × (b ≡ true) × (c ≡ true)
and_both true true true h = (refl, refl, refl)
and_both true true false h = (refl, refl, h)
and_both true false c h = (refl, h, absurd (let e : false ≡ true = h in cc))
and_both false b c h = (h, absurd (let e : false ≡ true = h in cc), absurd (let e : false ≡ true = h in cc))

all_above : (name last : List ℕ) (xs : List (List ℕ)) → is_below name last ≡ true → are_rising last xs ≡ true → list_any (bytes_eq name) (map feature_name xs) ≡ false
all_above name last [] h r = refl
all_above name last (x ∷ xs) h r =
    let parts = and_both (is_feature x) (is_below last (feature_name x)) (are_rising (feature_name x) xs) r in
    let above : is_below name (feature_name x) ≡ true = transitive name last (feature_name x) h parts.1 in
    let here : bytes_eq name (feature_name x) ≡ false = differs name (feature_name x) above in
    let later : list_any (bytes_eq name) (map feature_name xs) ≡ false = all_above name (feature_name x) xs above parts.2 in
    rw (here, later) refl

none_same : (name : List ℕ) (xs : List (List ℕ)) → are_rising name xs ≡ true → list_any (bytes_eq name) (map feature_name xs) ≡ false
none_same name [] r = refl
none_same name (x ∷ xs) r =
    let parts = and_both (is_feature x) (is_below name (feature_name x)) (are_rising (feature_name x) xs) r in
    let here : bytes_eq name (feature_name x) ≡ false = differs name (feature_name x) parts.1 in
    let later : list_any (bytes_eq name) (map feature_name xs) ≡ false = all_above name (feature_name x) xs parts.1 parts.2 in
    rw (here, later) refl

in_order : (name : List ℕ) (xs : List (List ℕ)) → are_rising name xs ≡ true → precedes name (map feature_name xs) ≡ true
in_order name [] r = refl
in_order name (x ∷ xs) r = not_after name (feature_name x) (and_both (is_feature x) (is_below name (feature_name x)) (are_rising (feature_name x) xs) r).1

pub rising_features : (last : List ℕ) (xs : List (List ℕ)) → are_rising last xs ≡ true → are_features xs ≡ true
rising_features last [] r = refl
rising_features last (x ∷ xs) r =
    let parts = and_both (is_feature x) (is_below last (feature_name x)) (are_rising (feature_name x) xs) r in
    let fine : is_feature x ≡ true = parts.0 in
    let ordered : precedes (feature_name x) (map feature_name xs) ≡ true = in_order (feature_name x) xs parts.2 in
    let single : list_any (bytes_eq (feature_name x)) (map feature_name xs) ≡ false = none_same (feature_name x) xs parts.2 in
    let rest : are_features xs ≡ true = rising_features (feature_name x) xs parts.2 in
    are_features-cons (x ∷ xs) xs x refl ∙ rw (fine, ordered, single, rest) refl

-- one more feature in front
pub rising-cons : (last name : List ℕ) (xs ys : List (List ℕ)) (x : List ℕ) → xs ≡ x ∷ ys → is_feature x ≡ true → is_below last (feature_name x) ≡ true → name ≡ feature_name x → are_rising name ys ≡ true → are_rising last xs ≡ true
rising-cons last name xs ys x e f b n r =
    let rest : are_rising (feature_name x) ys ≡ true = ap (λ z. are_rising z ys) (sym n) ∙ r in
    ap (are_rising last) e ∙ rw (f, b, rest) refl

-- ---- where the first text has come to its end

pub below_end : (ys : List ℕ) (i : ℕ) → is_below [] (drop i ys) ≡ nat_lt i (length ys)
below_end [] zero = refl
below_end [] (suc i) = sym (grind (arith, nat_tests))
below_end (y ∷ ys) zero = sym (grind (arith, nat_tests))
below_end (y ∷ ys) (suc i) = below_end ys i ∙ grind (arith, nat_tests)

-- ---- one plain feature

no_comma : (b : ℕ) → is_letter_or_digit b ≡ true → is_comma b ≡ false
no_comma b h = grind (arith, nat_tests)

and_two : (a b : Bool) → (a && b) ≡ true → (a ≡ true) × (b ≡ true)
and_two true b h = (refl, h)
and_two false b h = (h, absurd (let e : false ≡ true = h in cc))

letters_whole : (bs : List ℕ) → list_all is_letter_or_digit bs ≡ true → slice_split is_comma bs ≡ bs ∷ []
letters_whole [] h = refl
letters_whole (b ∷ bs) h =
    let parts = and_two (is_letter_or_digit b) (list_all is_letter_or_digit bs) h in
    slice_split-cons_no is_comma b bs (no_comma b parts.0) ∙ ap (onto_first b) (letters_whole bs parts.1)

first_is_letter : (b : ℕ) → is_capital_or_digit b ≡ true → is_letter_or_digit b ≡ true
first_is_letter b h = grind (arith, nat_tests)

label_whole : (bs : List ℕ) → is_label bs ≡ true → slice_split is_comma bs ≡ bs ∷ []
label_whole [] h = refl
label_whole (b ∷ bs) h =
    let parts = and_two (is_capital_or_digit b) (list_all is_letter_or_digit bs) h in
    slice_split-cons_no is_comma b bs (no_comma b (first_is_letter b parts.0)) ∙ ap (onto_first b) (letters_whole bs parts.1)

pub plain_feature : (item name value : List ℕ) → position_or_len is_equals item < length item → name ≡ before_first is_equals item → value ≡ after_first is_equals item → is_label value ≡ true → is_name name ≡ true → is_feature item ≡ true
plain_feature item name value cut n v label named =
    let some : list_any is_equals item ≡ true = list_any-from_place is_equals item cut in
    let front : is_name (before_first is_equals item) ≡ true = ap is_name (sym n) ∙ named in
    let back : are_values (slice_split is_comma (after_first is_equals item)) ≡ true = ap (λ z. are_values (slice_split is_comma z)) (sym v) ∙ sym (are_values-one (slice_split is_comma value) value (label_whole value label)) ∙ label in
    rw (some, front, back) refl

pub below_ended : (xs ys : List ℕ) (i : ℕ) → i ≡ length xs → is_below (drop i xs) (drop i ys) ≡ nat_lt (length xs) (length ys)
below_ended xs ys i e =
    let none : drop i xs ≡ [] = drop_all i xs (omega arith) in
    rw none (below_end ys i ∙ ap (λ n. nat_lt n (length ys)) e)

longer : (x : ℕ) (xs ys : List ℕ) → ys ≡ [] → is_below (x ∷ xs) ys ≡ false
longer x xs ys e = ap (is_below (x ∷ xs)) e

pub below_shorter : (xs ys : List ℕ) (i : ℕ) → i < length xs → length ys ≤ i → is_below (drop i xs) (drop i ys) ≡ false
below_shorter xs ys i l h = rw (drop-cons xs i 0 l) (longer (get_or xs i 0) (drop (suc i) xs) (drop i ys) (drop_all i ys h))

-- the last feature
pub found_one : (last item : List ℕ) (r : Option (Bor (List ℕ))) → IfSome r (λ name. (is_feature item ≡ true) × (is_below last (feature_name item) ≡ true) × (name.now ≡ feature_name item)) → is_some r ≡ true → are_rising last (item ∷ []) ≡ true
found_one last item None h s = absurd (let e : false ≡ true = s in cc)
found_one last item (Some n) h s = rw (h.0, h.1) refl

no_opening : (b : ℕ) → is_letter_or_digit b ≡ true → is_opening b ≡ false
no_opening b h = grind (arith, nat_tests)

letters_open : (bs : List ℕ) → list_all is_letter_or_digit bs ≡ true → position_or_len is_opening bs ≡ length bs
letters_open [] h = refl
letters_open (b ∷ bs) h =
    let parts = and_two (is_letter_or_digit b) (list_all is_letter_or_digit bs) h in
    let miss : is_opening b ≡ false = no_opening b parts.0 in
    rw (miss, letters_open bs parts.1) (omega arith)

-- a label alone is a name
pub label_named : (bs : List ℕ) → is_label bs ≡ true → is_name bs ≡ true
label_named [] h = absurd (let e : false ≡ true = h in cc)
label_named (b ∷ bs) h =
    let parts = and_two (is_capital_or_digit b) (list_all is_letter_or_digit bs) h in
    let miss : is_opening b ≡ false = no_opening b (first_is_letter b parts.0) in
    let none : position_or_len is_opening (b ∷ bs) ≡ length (b ∷ bs) = rw (miss, letters_open bs parts.1) (omega arith) in
    is_name-plain (b ∷ bs) none ∙ h
