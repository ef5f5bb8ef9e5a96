-- A feature that is made of a name or of a value, and the parts of a list of features.
use Rattle.std.proofs.Common.{◌≡◌, ℕ, zero, suc, ◌+◌, ◌<◌, List, [], ◌∷◌, ◌++◌, length, take, drop, get_or, Bool, true, false, not, cond, refl, sym, ◌∙◌, ap, arith, subst, below_more, codes, Option, Some, None}
use Rattle.std.specs.List.{after_first, before_first, enumerate_from, list_any, onto_first, position_or_len, slice_split}
use Rattle.std.proofs.lemmas.Bool.{or_from, or_parts}
use Rattle.std.proofs.lemmas.List.Folds.{list_any-append}
use Rattle.std.proofs.lemmas.List.{get_or_default}
use Rattle.std.proofs.lemmas.List.FromFn.{get_or-enumerate_from, length-enumerate_from}
use Rattle.std.proofs.Math.Seq.{take-append_seam}
use Rattle.tb_fields.proofs.Parts.{and_true, are_features-one, are_values-one}
use Rattle.tb_fields.proofs.Places.{slice_split-whole}
use Rattle.tb_fields.specs.Blank.{is_blank}
use Rattle.tb_fields.specs.Feats.{are_features, is_bar, is_comma, is_equals, is_feature, is_feature_text, is_label, is_name, feature_name}
use Rattle.tb_words.specs.FeatureFaults.{AreRight, beside_sentence, feature_at, feature_sentence, first_said, item_sentence, named_sentence}
use Rattle.tb_words.specs.declared.sentences.TheConstants.{FEATURE_FORM}

-- nothing passes: so the first place that does is the end
pub no_place : {X : Type 0} (p : X → Bool) (xs : List X) → list_any p xs ≡ false → position_or_len p xs ≡ length xs
no_place p [] h = refl
no_place p (x ∷ xs) h =
    let parts = or_parts (p x) (list_any p xs) h in
    let rest = no_place p xs parts.1 in
    rw parts.0 (omega (arith, rest))

-- ---- the parts have no separator, and nothing that the whole does not have

onto_free : {X : Type 0} (q : X → Bool) (x : X) (parts : List (List X)) (k : ℕ) → q x ≡ false
    → ((j : ℕ) → list_any q (get_or parts j []) ≡ false) → list_any q (get_or (onto_first x parts) k []) ≡ false
onto_free q x [] zero one h = rw one refl
onto_free q x [] (suc k) one h = refl
onto_free q x (part ∷ parts) zero one h = rw (one, h 0) refl
onto_free q x (part ∷ parts) (suc k) one h = h (suc k)

cut_free : {X : Type 0} (q : X → Bool) (parts : List (List X)) (k : ℕ)
    → ((j : ℕ) → list_any q (get_or parts j []) ≡ false) → list_any q (get_or ([] ∷ parts) k []) ≡ false
cut_free q parts zero h = refl
cut_free q parts (suc k) h = h k

part_free : {X : Type 0} (b : Bool) (q : X → Bool) (x : X) (parts : List (List X)) (k : ℕ) → (b ≡ false → q x ≡ false)
    → ((j : ℕ) → list_any q (get_or parts j []) ≡ false)
    → list_any q (get_or (cond b ([] ∷ parts) (onto_first x parts)) k []) ≡ false
part_free true q x parts k one h = cut_free q parts k h
part_free false q x parts k one h = onto_free q x parts k (one refl) h

-- no part has what separates them
pub parts_free : {X : Type 0} (p : X → Bool) (xs : List X) (k : ℕ) → list_any p (get_or (slice_split p xs) k []) ≡ false
parts_free p [] zero = refl
parts_free p [] (suc k) = refl
parts_free p (x ∷ xs) k = part_free (p x) p x (slice_split p xs) k (λ no. no) (parts_free p xs)

-- nor what the whole does not have
pub parts_lack : {X : Type 0} (p q : X → Bool) (xs : List X) (k : ℕ) → list_any q xs ≡ false
    → list_any q (get_or (slice_split p xs) k []) ≡ false
parts_lack p q [] zero h = refl
parts_lack p q [] (suc k) h = refl
parts_lack p q (x ∷ xs) k h =
    let here = or_parts (q x) (list_any q xs) h in
    part_free (p x) q x (slice_split p xs) k (λ no. here.0) (λ j. parts_lack p q xs j here.1)

pub front_lacks : {X : Type 0} (q : X → Bool) (n : ℕ) (xs : List X) → list_any q xs ≡ false → list_any q (take n xs) ≡ false
front_lacks q zero xs h = refl
front_lacks q (suc n) [] h = refl
front_lacks q (suc n) (x ∷ xs) h =
    let here = or_parts (q x) (list_any q xs) h in rw (here.0, front_lacks q n xs here.1) refl

pub back_lacks : {X : Type 0} (q : X → Bool) (n : ℕ) (xs : List X) → list_any q xs ≡ false → list_any q (drop n xs) ≡ false
back_lacks q zero xs h = h
back_lacks q (suc n) [] h = refl
back_lacks q (suc n) (x ∷ xs) h = back_lacks q n xs (or_parts (q x) (list_any q xs) h).1

front_step : {X : Type 0} (b : Bool) (p : X → Bool) (x : X) (xs : List X) (n : ℕ) → b ≡ p x
    → list_any p (take n xs) ≡ false → list_any p (take (cond (not b) (1 + n) 0) (x ∷ xs)) ≡ false
front_step true p x xs n is h = refl
front_step false p x xs n is h =
    let one : suc n ≡ 1 + n = omega arith in
    subst (λ (k : ℕ). list_any p (take k (x ∷ xs)) ≡ false) one (or_from (p x) _ (sym is) h)

-- what comes before the first that passes has none
pub front_free : {X : Type 0} (p : X → Bool) (xs : List X) → list_any p (before_first p xs) ≡ false
front_free p [] = refl
front_free p (x ∷ xs) = front_step (p x) p x xs (position_or_len p xs) refl (front_free p xs)

-- ---- one feature

-- a text with an equals sign is no blank field
not_blank : (item : List ℕ) → list_any is_equals item ≡ true → is_blank item ≡ false
not_blank [] h = absurd (let e : false ≡ true = h in cc)
not_blank (b ∷ []) h = grind (arith)
not_blank (b ∷ c ∷ bs) h = grind (arith)

-- a text without a bar is features where it is one
pub alone : (item : List ℕ) → list_any is_bar item ≡ false → list_any is_equals item ≡ true
    → is_feature_text item ≡ is_feature item
alone item bars equals =
    let one : are_features (slice_split is_bar item) ≡ is_feature item =
    sym (are_features-one (slice_split is_bar item) item (slice_split-whole is_bar item (no_place is_bar item bars))) in
    rw (not_blank item equals, one) refl

-- ---- `name=X`

equals_after : (name : List ℕ) → list_any is_equals name ≡ false → position_or_len is_equals (name ++ codes "=X") ≡ length name
equals_after [] h = refl
equals_after (b ∷ bs) h =
    let here = or_parts (is_equals b) (list_any is_equals bs) h in
    let rest = equals_after bs here.1 in
    rw here.0 (omega (arith, rest))

name_front : (name : List ℕ) → list_any is_equals name ≡ false → before_first is_equals (name ++ codes "=X") ≡ name
name_front name h =
    ap (λ (n : ℕ). take n (name ++ codes "=X")) (equals_after name h) ∙ take-append_seam name (codes "=X")

drop_past : (name : List ℕ) → drop (length name + 1) (name ++ 61 ∷ 88 ∷ []) ≡ 88 ∷ []
drop_past [] = refl
drop_past (b ∷ bs) =
    let one : suc (length bs + 1) ≡ length (b ∷ bs) + 1 = omega arith in
    subst (λ (n : ℕ). drop n (b ∷ (bs ++ 61 ∷ 88 ∷ [])) ≡ 88 ∷ []) one (drop_past bs)

name_back : (name : List ℕ) → list_any is_equals name ≡ false → after_first is_equals (name ++ codes "=X") ≡ codes "X"
name_back name h = ap (λ (n : ℕ). drop (n + 1) (name ++ codes "=X")) (equals_after name h) ∙ drop_past name

pub named_feature : (name : List ℕ) → list_any is_bar name ≡ false → list_any is_equals name ≡ false
    → is_feature_text (name ++ codes "=X") ≡ is_name name
named_feature name bars equals =
    let no_bar : list_any is_bar (name ++ codes "=X") ≡ false = list_any-append is_bar name (codes "=X") ∙ or_from (list_any is_bar name) _ bars refl in
    let with : list_any is_equals (name ++ codes "=X") ≡ true = list_any-append is_equals name (codes "=X") ∙ rw equals refl in
    alone (name ++ codes "=X") no_bar with
    ∙ rw (with, name_front name equals, name_back name equals) (and_true (is_name name))

-- ---- `X=value`

pub valued_feature : (value : List ℕ) → list_any is_bar value ≡ false → list_any is_comma value ≡ false
    → is_feature_text (codes "X=" ++ value) ≡ is_label value
valued_feature value bars commas =
    alone (codes "X=" ++ value) bars refl
    ∙ sym (are_values-one (slice_split is_comma value) value (slice_split-whole is_comma value (no_place is_comma value commas)))

-- ---- what is told of one feature

by_tests : (form other : Option (List ℕ)) (x y a b : Bool) → x ≡ a → y ≡ b
    → cond (not x) form (cond y None other) ≡ cond (not a) form (cond b None other)
by_tests form other x y a b e f = rw (e, f) refl

pub formless : (item : List ℕ) → list_any is_equals item ≡ false → Some FEATURE_FORM.now ≡ item_sentence item
formless item none =
    sym (by_tests (Some FEATURE_FORM.now) (Some (named_sentence (feature_name item) (after_first is_equals item))) (list_any is_equals item)
    (is_feature item) false (is_feature item) none refl)

pub feature_right : (item : List ℕ) → list_any is_equals item ≡ true → is_feature item ≡ true → None ≡ item_sentence item
feature_right item equals right =
    sym (by_tests (Some FEATURE_FORM.now) (Some (named_sentence (feature_name item) (after_first is_equals item))) (list_any is_equals item)
    (is_feature item) true true equals right)

pub feature_wrong : (item said : List ℕ) → list_any is_equals item ≡ true → is_feature item ≡ false
    → said ≡ named_sentence (feature_name item) (after_first is_equals item) → Some said ≡ item_sentence item
feature_wrong item said equals wrong is =
    ap (λ (s : List ℕ). Some s) is ∙ sym (by_tests (Some FEATURE_FORM.now)
    (Some (named_sentence (feature_name item) (after_first is_equals item))) (list_any is_equals item) (is_feature item) true false equals wrong)

pub alone_told : (feats item said : List ℕ) (n : ℕ) → item ≡ feature_at feats n → Some said ≡ item_sentence item
    → Some said ≡ feature_sentence feats n
alone_told feats item said n is told =
    sym (ap (λ (o : Option (List ℕ)). first_said o (beside_sentence feats n)) (ap item_sentence (sym is) ∙ sym told))

pub beside_told : (feats item : List ℕ) (n : ℕ) (o : Option (List ℕ)) → item ≡ feature_at feats n → None ≡ item_sentence item
    → o ≡ beside_sentence feats n → o ≡ feature_sentence feats n
beside_told feats item n o is right told =
    told ∙ sym (ap (λ (x : Option (List ℕ)). first_said x (beside_sentence feats n)) (ap item_sentence (sym is) ∙ sym right))

-- ---- in a walk

-- the item of a turn is the next feature, with its number
pub next_item : (items : List (List ℕ)) (k n : ℕ) (item : List ℕ) → n < length (enumerate_from 0 items)
    → (k, item) ≡ get_or (enumerate_from 0 items) n (k, item) → (k ≡ n) × (n < length items) × (item ≡ get_or items n [])
next_item items k n item within is =
    let small : n < length items = subst (λ (m : ℕ). n < m) (length-enumerate_from 0 items) within in
    let e = is ∙ get_or-enumerate_from 0 items n (k, item) small in
    let number : k ≡ 0 + n = ap (λ (p : ℕ × List ℕ). p.0) e in
    (omega (arith, number), small, ap (λ (p : ℕ × List ℕ). p.1) e ∙ get_or_default items n item [] small)

pub one_more_right : (feats : List ℕ) (k n : ℕ) → k ≡ n → None ≡ feature_sentence feats k → AreRight feats n → AreRight feats (n + 1)
one_more_right feats k n is right are =
    λ j less. below_more (λ (i : ℕ). feature_sentence feats i ≡ None) n are (sym (subst (λ (i : ℕ). None ≡ feature_sentence feats i) is right)) j less
