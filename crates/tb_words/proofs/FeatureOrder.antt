-- Names of features in order: where each is not after the next, none comes twice before a later one.
use Rattle.std.proofs.Common.{◌≡◌, ℕ, zero, suc, ◌+◌, ◌-◌, ◌<◌, ◌≤◌, List, [], ◌∷◌, length, take, Bool, true, false, not, ◌&&◌, ◌||◌, ◌==◌, nat_lt, refl, sym, ◌∙◌, ap, arith, subst, inl, inr, cond, Option, Some, None}
use Rattle.std.specs.Char.{to_ascii_lowercase}
use Rattle.std.specs.List.{list_any}
use Rattle.std.proofs.lemmas.Bool.{cases_Bool, ne_eqb, true≢false}
use Rattle.std.proofs.lemmas.Bool.Decides.{nat_tests}
use Rattle.std.proofs.lemmas.List.{get_or-take, get_or_default, length-take-le}
use Rattle.std.proofs.lemmas.List.Folds.{list_any_none}
use Rattle.std.proofs.lemmas.Slice.Eq.{bytes_eq-Decides}
use Rattle.tb_fields.proofs.Ascents.{not_after_by}
use Rattle.tb_fields.specs.Feats.{feature_name, is_not_after}
use Rattle.tb_fields.specs.Rising.{is_below}
use Rattle.tb_words.specs.FeatureFaults.{AreRight, beside_sentence, feature_at, feature_sentence, features_of, first_said, order_sentence, shares_name}
use Rattle.tb_words.specs.declared.sentences.TheConstants.{FEATURE_ORDER, FEATURE_TWICE}

-- ---- the order

onward : (a b c : ℕ) (p q r : Bool) → (p ≡ true → q ≡ true → r ≡ true) → (nat_lt a b || (a == b && p)) ≡ true
    → (nat_lt b c || (b == c && q)) ≡ true → (nat_lt a c || (a == c && r)) ≡ true
onward a b c true true r h e f = let is : r ≡ true = h refl refl in rw is (grind (arith, nat_tests))
onward a b c true false r h e f = grind (arith, nat_tests)
onward a b c false true r h e f = grind (arith, nat_tests)
onward a b c false false r h e f = grind (arith, nat_tests)

not_after_on : (xs ys zs : List ℕ) → is_not_after xs ys ≡ true → is_not_after ys zs ≡ true → is_not_after xs zs ≡ true
not_after_on [] ys zs h k = refl
not_after_on (x ∷ xs) [] zs h k = absurd (let e : false ≡ true = h in cc)
not_after_on (x ∷ xs) (y ∷ ys) [] h k = absurd (let e : false ≡ true = k in cc)
not_after_on (x ∷ xs) (y ∷ ys) (z ∷ zs) h k =
    onward (to_ascii_lowercase x) (to_ascii_lowercase y) (to_ascii_lowercase z) (is_not_after xs ys) (is_not_after ys zs)
    (is_not_after xs zs) (not_after_on xs ys zs) h k

same_first : (a : ℕ) (p : Bool) → p ≡ true → (nat_lt a a || (a == a && p)) ≡ true
same_first a true h = grind (arith, nat_tests)
same_first a false h = absurd (let e : false ≡ true = h in cc)

not_after_itself : (xs : List ℕ) → is_not_after xs xs ≡ true
not_after_itself [] = refl
not_after_itself (x ∷ xs) = same_first (to_ascii_lowercase x) (is_not_after xs xs) (not_after_itself xs)

-- each is not after those that follow, however many are between
chain : (f : ℕ → List ℕ) (n : ℕ) → ((k : ℕ) → k + 1 < n → is_not_after (f k) (f (k + 1)) ≡ true) → (i d : ℕ) → i + d < n
    → is_not_after (f i) (f (i + d)) ≡ true
chain f n h i zero less = subst (λ (k : ℕ). is_not_after (f i) (f k) ≡ true) (omega arith) (not_after_itself (f i))
chain f n h i (suc d) less =
    not_after_on (f i) (f (i + d)) (f (i + suc d)) (chain f n h i d (omega arith))
    (subst (λ (k : ℕ). is_not_after (f (i + d)) (f k) ≡ true) (omega arith) (h (i + d) (omega arith)))

-- ---- features that are right

none_of : (one other : Option (List ℕ)) → first_said one other ≡ None → (one ≡ None) × (other ≡ None)
none_of None other h = (refl, h)
none_of (Some said) other h = absurd (let e : Some said ≡ None = h in cc)

ordered : (earlier : List (List ℕ)) (last item : List ℕ) (a b : Bool) → a ≡ list_any (shares_name item) earlier
    → b ≡ is_not_after (feature_name last) (feature_name item) → order_sentence earlier last item ≡ None → b ≡ true
ordered earlier last item true b first second h =
    absurd (let e : Some FEATURE_TWICE.now ≡ None = rw (sym first) at h in cc)
ordered earlier last item false true first second h = refl
ordered earlier last item false false first second h =
    absurd (let e : Some FEATURE_ORDER.now ≡ None = rw (sym first, sym second) at h in cc)

name_at : (feats : List ℕ) (k : ℕ) → List ℕ
name_at feats k = feature_name (feature_at feats k)

next_right : (feats : List ℕ) (k : ℕ) → feature_sentence feats (k + 1) ≡ None
    → is_not_after (feature_name (feature_at feats k)) (feature_name (feature_at feats (k + 1))) ≡ true
next_right feats k right =
    let beside : beside_sentence feats (k + 1) ≡ None = (none_of _ _ right).1 in
    let same : k + 1 - 1 ≡ k = omega arith in
    let some : (k + 1 == 0) ≡ false = ne_eqb (k + 1) 0 (λ e. omega (arith, e)) in
    ordered (take (k + 1) (features_of feats)) (feature_at feats k) (feature_at feats (k + 1)) _ _ refl refl
    (rw (some, same) at beside)

-- a feature that is above the last has another name than each earlier one
other_name : (feats item : List ℕ) (n i : ℕ) → AreRight feats n → i < n
    → is_below (feature_name (feature_at feats (n - 1))) (feature_name item) ≡ true
    → shares_name item (feature_at feats i) ≡ false
other_name feats item n i right less below =
    let far : i + (n - 1 - i) ≡ n - 1 = omega arith in
    let up : is_not_after (feature_name (feature_at feats i)) (feature_name (feature_at feats (n - 1))) ≡ true =
    subst (λ (k : ℕ). is_not_after (feature_name (feature_at feats i)) (feature_name (feature_at feats k)) ≡ true) far
    (chain (λ k. feature_name (feature_at feats k)) n (λ k small. next_right feats k (right (k + 1) small)) i (n - 1 - i) (omega arith)) in
    elim (cases_Bool (shares_name item (feature_at feats i))) [
      | inl same ↦ (
          let e = (bytes_eq-Decides (feature_name (feature_at feats i)) (feature_name item)).0 same in
          let back = not_after_by (feature_name item) (feature_name (feature_at feats (n - 1))) in
          let no : is_not_after (feature_name item) (feature_name (feature_at feats (n - 1))) ≡ false = back ∙ ap not below in
          absurd (true≢false (sym up ∙ (ap (λ (xs : List ℕ). is_not_after xs (feature_name (feature_at feats (n - 1)))) e ∙ no)))
          )
      | inr other ↦ other
    ]

none_shares : (feats item : List ℕ) (n : ℕ) → AreRight feats n → n ≤ length (features_of feats)
    → is_below (feature_name (feature_at feats (n - 1))) (feature_name item) ≡ true
    → list_any (shares_name item) (take n (features_of feats)) ≡ false
none_shares feats item n right within below =
    list_any_none (shares_name item) (take n (features_of feats)) (λ i d less.
    let small : i < n = omega (arith, less, length-take-le n (features_of feats) within) in
    let here = get_or-take n (features_of feats) i d small ∙ get_or_default (features_of feats) i d [] (omega (arith, small, within)) in
    ap (shares_name item) here ∙ other_name feats item n i right small below)

not_after_below : (xs ys : List ℕ) → is_below xs ys ≡ true → is_not_after xs ys ≡ true
not_after_below [] ys h = refl
not_after_below (x ∷ xs) [] h = absurd (let e : false ≡ true = h in cc)
not_after_below (x ∷ xs) (y ∷ ys) h =
    onward (to_ascii_lowercase x) (to_ascii_lowercase y) (to_ascii_lowercase y) (is_below xs ys) true (is_not_after xs ys)
    (λ below yes. not_after_below xs ys below) h (same_first (to_ascii_lowercase y) true refl)

-- ---- what is told of a feature after others

pub none_before : (feats : List ℕ) (n : ℕ) → n ≡ 0 → None ≡ beside_sentence feats n
none_before feats n is = rw is refl

pub rising : (feats last item : List ℕ) (n : ℕ) → (n ≡ 0 → ⊥) → last ≡ feature_at feats (n - 1) → item ≡ feature_at feats n
    → AreRight feats n → n ≤ length (features_of feats) → is_below (feature_name last) (feature_name item) ≡ true
    → None ≡ beside_sentence feats n
rising feats last item n some last_is item_is right within below =
    let up : is_below (feature_name (feature_at feats (n - 1))) (feature_name (feature_at feats n)) ≡ true =
    ap (λ (xs : List ℕ). is_below (feature_name xs) (feature_name (feature_at feats n))) (sym last_is) ∙ (ap (λ (xs : List ℕ). is_below (feature_name last) (feature_name xs)) (sym item_is) ∙ below) in
    let after = not_after_below (feature_name (feature_at feats (n - 1))) (feature_name (feature_at feats n)) up in
    let first : (n == 0) ≡ false = ne_eqb n 0 some in
    rw (first, none_shares feats (feature_at feats n) n right within up, after) refl

pub twice : (feats item : List ℕ) (n : ℕ) → (n ≡ 0 → ⊥) → item ≡ feature_at feats n
    → list_any (shares_name item) (take n (features_of feats)) ≡ true → Some FEATURE_TWICE.now ≡ beside_sentence feats n
twice feats item n some item_is shared =
    let first : (n == 0) ≡ false = ne_eqb n 0 some in
    let here : list_any (shares_name (feature_at feats n)) (take n (features_of feats)) ≡ true =
    ap (λ (xs : List ℕ). list_any (shares_name xs) (take n (features_of feats))) (sym item_is) ∙ shared in
    rw (first, here) refl

by_order : (earlier : List (List ℕ)) (last item : List ℕ) (b : Bool) → list_any (shares_name item) earlier ≡ false
    → is_below (feature_name item) (feature_name last) ≡ b
    → cond b (Some FEATURE_ORDER.now) None ≡ order_sentence earlier last item
by_order earlier last item true other below =
    let after : is_not_after (feature_name last) (feature_name item) ≡ false = not_after_by (feature_name last) (feature_name item) ∙ ap not below in
    rw (other, after) refl
by_order earlier last item false other below =
    let after : is_not_after (feature_name last) (feature_name item) ≡ true = not_after_by (feature_name last) (feature_name item) ∙ ap not below in
    rw (other, after) refl

pub placed : (feats last item : List ℕ) (n : ℕ) (b : Bool) → (n ≡ 0 → ⊥) → last ≡ feature_at feats (n - 1) → item ≡ feature_at feats n
    → list_any (shares_name item) (take n (features_of feats)) ≡ false → is_below (feature_name item) (feature_name last) ≡ b
    → cond b (Some FEATURE_ORDER.now) None ≡ beside_sentence feats n
placed feats last item n b some last_is item_is other below =
    let first : (n == 0) ≡ false = ne_eqb n 0 some in
    by_order (take n (features_of feats)) last item b other below
    ∙ (ap (λ (xs : List ℕ). order_sentence (take n (features_of feats)) xs item) last_is
    ∙ (ap (λ (xs : List ℕ). order_sentence (take n (features_of feats)) (feature_at feats (n - 1)) xs) item_is ∙ rw first refl))
