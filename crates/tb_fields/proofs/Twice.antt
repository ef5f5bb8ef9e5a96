-- texts that have come, and lists in which none comes twice
use Rattle.std.proofs.Common.{◌≡◌, ℕ, List, [], ◌∷◌, map, Bool, true, false, not, ◌&&◌, ◌||◌, Ordering, refl, sym, ◌∙◌, ap}
use Rattle.std.specs.declared.cmp.Ordering.TheVariants.{Less, Equal, Greater}
use Rattle.std.specs.List.{list_any, list_all}
use Rattle.std.specs.Str.{bytes_eq}
use Rattle.std.specs.BTreeSet.{insert_key}
use Rattle.std.specs.BTreeMap.{is_at}
use Rattle.std.specs.Ordering.{is_eq, nat_cmp, match_ordering}
use Rattle.std.specs.Cmp.Lexicographic.{slice_cmp}
use Rattle.std.proofs.lemmas.Map.Text.{is_eq-slice_cmp}
use Rattle.std.proofs.lemmas.Slice.Eq.{bytes_eq-Decides}
use denote.Ref.{Bor}
use Rattle.tb_fields.specs.Feats.{is_label, are_values, is_feature, feature_name, precedes, are_features}
use Rattle.tb_fields.proofs.Parts.{and_true, are_values-cons, are_features-cons, are_values-one, are_features-one}

abbrev pub text_cmp : Bor (List ℕ) → Bor (List ℕ) → Ordering
text_cmp x y = slice_cmp nat_cmp x.now y.now

-- ---- a set, as a test of texts

abbrev pub held : List (Bor (List ℕ)) → List ℕ → Bool
held ks q = list_any (λ k. bytes_eq k.now q) ks

or_swap : (a b c : Bool) → (a || (b || c)) ≡ (b || (a || c))
or_swap true true c = refl
or_swap true false c = refl
or_swap false b c = refl

or_same : (a b c : Bool) → a ≡ b → (a || c) ≡ (b || (a || c))
or_same true true c e = refl
or_same true false c e = cc
or_same false true c e = cc
or_same false false c e = refl

-- one more text, wherever it stands in the order
held_more : (o : Ordering) (k x : Bor (List ℕ)) (xs new : List (Bor (List ℕ))) (q : List ℕ) → (is_eq o ≡ true → k.now ≡ x.now) → held new q ≡ (bytes_eq k.now q || held xs q)
    → held (match_ordering o (k ∷ x ∷ xs) (x ∷ xs) (x ∷ new)) q ≡ (bytes_eq k.now q || held (x ∷ xs) q)
held_more Less k x xs new q same h = refl
held_more Equal k x xs new q same h = or_same (bytes_eq x.now q) (bytes_eq k.now q) (held xs q) (ap (λ (t : List ℕ). bytes_eq t q) (sym (same refl)))
held_more Greater k x xs new q same h = ap (λ b. bytes_eq x.now q || b) h ∙ or_swap (bytes_eq x.now q) (bytes_eq k.now q) (held xs q)

same_text : (k x : Bor (List ℕ)) → is_eq (text_cmp k x) ≡ true → k.now ≡ x.now
same_text k x e = (bytes_eq-Decides k.now x.now).0 (sym (is_eq-slice_cmp k.now x.now) ∙ e)

pub held_insert : (ks : List (Bor (List ℕ))) (k : Bor (List ℕ)) (q : List ℕ) → held (insert_key text_cmp ks k) q ≡ (bytes_eq k.now q || held ks q)
held_insert [] k q = refl
held_insert (x ∷ xs) k q = held_more (text_cmp k x) k x xs (insert_key text_cmp xs k) q (same_text k x) (held_insert xs k q)

both_ways : (a b : Bool) → (a ≡ true → b ≡ true) → (b ≡ true → a ≡ true) → a ≡ b
both_ways true true f g = refl
both_ways true false f g = sym (f refl)
both_ways false true f g = g refl
both_ways false false f g = refl

bytes_eq-swap : (xs ys : List ℕ) → bytes_eq xs ys ≡ bytes_eq ys xs
bytes_eq-swap xs ys = both_ways (bytes_eq xs ys) (bytes_eq ys xs) (λ e. (bytes_eq-Decides ys xs).1 (sym ((bytes_eq-Decides xs ys).0 e))) (λ e. (bytes_eq-Decides xs ys).1 (sym ((bytes_eq-Decides ys xs).0 e)))

pub held_is : (ks : List (Bor (List ℕ))) (k : Bor (List ℕ)) → list_any (is_at (text_cmp k)) ks ≡ held ks k.now
held_is [] k = refl
held_is (x ∷ xs) k = ap (λ b. b || list_any (is_at (text_cmp k)) xs) (is_eq-slice_cmp k.now x.now ∙ bytes_eq-swap k.now x.now) ∙ ap (λ b. bytes_eq x.now k.now || b) (held_is xs k)

-- ---- lists of texts that have not come before

-- none of the texts has come
abbrev pub are_fresh : (List ℕ → Bool) → List (List ℕ) → Bool
are_fresh come xs = list_all (λ x. not (come x)) xs

-- what a text does that comes now
abbrev pub Adds : (List ℕ → Bool) → List ℕ → (List ℕ → Bool) → Type 0
Adds old x new = (q : List ℕ) → new q ≡ (bytes_eq x q || old q)

not_or : (a b n f : Bool) → (not (a || b) && (not n && f)) ≡ (not (a || n) && (not b && f))
not_or true b n f = refl
not_or false true true f = refl
not_or false true false f = refl
not_or false false n f = refl

fresh_later : (old new : List ℕ → Bool) (x : List ℕ) (ys : List (List ℕ)) → Adds old x new → are_fresh new ys ≡ (not (list_any (bytes_eq x) ys) && are_fresh old ys)
fresh_later old new x [] h = refl
fresh_later old new x (y ∷ ys) h =
    ap (λ b. not b && are_fresh new ys) (h y) ∙
    (ap (λ b. not (bytes_eq x y || old y) && b) (fresh_later old new x ys h) ∙ not_or (bytes_eq x y) (old y) (list_any (bytes_eq x) ys) (are_fresh old ys))

-- two tests of a text and of those after it, and that it has not come
regroup : (a n b m f : Bool) → (((a && n) && b) && (m && f)) ≡ ((a && m) && (b && (n && f)))
regroup false n b m f = refl
regroup true false b false f = refl
regroup true false false true f = refl
regroup true false true true f = refl
regroup true true false false f = refl
regroup true true false true f = refl
regroup true true true m f = refl

-- one text more: x has not come, and passes a test; now it has
step : (a n b : Bool) (old new : List ℕ → Bool) (x : List ℕ) (ys : List (List ℕ)) → Adds old x new → n ≡ not (list_any (bytes_eq x) ys)
    → (((a && n) && b) && are_fresh old (x ∷ ys)) ≡ ((a && not (old x)) && (b && are_fresh new ys))
step a n b old new x ys h e =
    regroup a n b (not (old x)) (are_fresh old ys) ∙
    ap (λ c. (a && not (old x)) && (b && c)) (ap (λ m. m && are_fresh old ys) e ∙ sym (fresh_later old new x ys h))

-- values, none of which has come
abbrev pub are_new_values : (List ℕ → Bool) → List (List ℕ) → Bool
are_new_values come vs = are_values vs && are_fresh come vs

pub new_values_step : (old new : List ℕ → Bool) (xs ys : List (List ℕ)) (x : List ℕ) → xs ≡ x ∷ ys → Adds old x new → are_new_values old xs ≡ ((is_label x && not (old x)) && are_new_values new ys)
new_values_step old new xs ys x e h =
    ap (λ b. b && are_fresh old xs) (are_values-cons xs ys x e) ∙
    (ap (λ (zs : List (List ℕ)). ((is_label x && not (list_any (bytes_eq x) ys)) && are_values ys) && are_fresh old zs) e ∙
    step (is_label x) (not (list_any (bytes_eq x) ys)) (are_values ys) old new x ys h refl)

pub new_values_one : (old : List ℕ → Bool) (xs : List (List ℕ)) (x : List ℕ) → xs ≡ x ∷ [] → (is_label x && not (old x)) ≡ are_new_values old xs
new_values_one old xs x e =
    sym (ap (λ b. b && are_fresh old xs) (sym (are_values-one xs x e)) ∙ (ap (λ (zs : List (List ℕ)). is_label x && are_fresh old zs) e ∙ ap (λ b. is_label x && b) (and_true (not (old x)))))

-- features, none of whose names has come
abbrev pub are_new_features : (List ℕ → Bool) → List (List ℕ) → Bool
are_new_features come items = are_features items && are_fresh come (map feature_name items)

assoc : (a b c : Bool) → (a && (b && c)) ≡ ((a && b) && c)
assoc true b c = refl
assoc false b c = refl

pub new_features_step : (old new : List ℕ → Bool) (xs ys : List (List ℕ)) (x : List ℕ) → xs ≡ x ∷ ys → Adds old (feature_name x) new
    → are_new_features old xs ≡ (((is_feature x && precedes (feature_name x) (map feature_name ys)) && not (old (feature_name x))) && are_new_features new ys)
new_features_step old new xs ys x e h =
    let others = not (list_any (bytes_eq (feature_name x)) (map feature_name ys)) in
    let before = precedes (feature_name x) (map feature_name ys) in
    ap (λ b. b && are_fresh old (map feature_name xs)) (are_features-cons xs ys x e) ∙
    (ap (λ b. (b && are_features ys) && are_fresh old (map feature_name xs)) (assoc (is_feature x) before others) ∙
    (ap (λ (zs : List (List ℕ)). (((is_feature x && before) && others) && are_features ys) && are_fresh old (map feature_name zs)) e ∙
    step (is_feature x && before) others (are_features ys) old new (feature_name x) (map feature_name ys) h refl))

pub new_features_one : (old : List ℕ → Bool) (xs : List (List ℕ)) (x : List ℕ) → xs ≡ x ∷ [] → (is_feature x && not (old (feature_name x))) ≡ are_new_features old xs
new_features_one old xs x e =
    sym (ap (λ b. b && are_fresh old (map feature_name xs)) (sym (are_features-one xs x e)) ∙ (ap (λ (zs : List (List ℕ)). is_feature x && are_fresh old (map feature_name zs)) e ∙ ap (λ b. is_feature x && b) (and_true (not (old (feature_name x))))))

-- nothing has come yet
all_fresh : (come : List ℕ → Bool) (xs : List (List ℕ)) → ((q : List ℕ) → come q ≡ false) → are_fresh come xs ≡ true
all_fresh come [] h = refl
all_fresh come (x ∷ xs) h = ap (λ b. not b && are_fresh come xs) (h x) ∙ all_fresh come xs h

pub new_at_first : (ks : List (Bor (List ℕ))) (b : Bool) (xs : List (List ℕ)) → ks ≡ [] → (b && are_fresh (held ks) xs) ≡ b
new_at_first ks b xs none = ap (λ c. b && c) (all_fresh (held ks) xs (λ q. ap (λ (zs : List (Bor (List ℕ))). held zs q) none)) ∙ and_true b
