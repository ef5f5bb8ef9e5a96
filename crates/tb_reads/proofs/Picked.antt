-- What SELECT .. WHERE shows of rows that show records.
use Rattle.std.proofs.Common.{◌≡◌, ◌≢◌, inl, inr, ℕ, zero, suc, ◌+◌, ◌-◌, ◌<◌, ◌≤◌, ◌^◌, ◌↔◌, ◌==◌, not, IsTrue, pos, Bool, true, false, List, [], ◌∷◌, map, map-id, length, filter, flat_map, if◌then◌else◌, Option, Some, None, slice_get, refl, sym, ap, ap₂, subst, ◌∙◌, arith, IsPermutation, Contains, All, IfSome}
use Rattle.std.specs.List.{AllByRecursion}
use Rattle.std.specs.Option.{option_to_list}
use Rattle.std.specs.Str.{bytes_eq}
use Rattle.std.proofs.lemmas.Map.Text.{is_eq-slice_cmp}
use Rattle.std.proofs.lemmas.Slice.Eq.{bytes_eq-Decides}
use Rattle.std.proofs.lemmas.Bool.Decides.{not_from_Decides}
use Rattle.std.proofs.lemmas.List.{nil_from_length}
use Rattle.std.proofs.Math.Dec.{eqb-suc-zero}
use Rattle.std.proofs.lemmas.List.Elements.{All-contains, All-from_recursion, recursion_from_All}
use Rattle.tb_reads.proofs.Order.{contains_cases, contains_later}
use Rattle.tb_reads.proofs.Ordered.{revision_same}
use Rattle.std.proofs.lemmas.Bool.{cases_Bool, cases_lt}
use Rattle.std.proofs.lemmas.List.Sorted.{IsPermutation-sym, IsPermutation-trans, IsPermutation-map, length_permutation, Contains-permutation, All-permutation}
use Rattle.sqlite.specs.declared.types.Value.TheVariants.{Int, Text}
use Rattle.sqlite.specs.Order.{Row, column}
use Rattle.sqlite.specs.Tree.{Trees}
use Rattle.sqlite.specs.Ops.{binary, is_true, from_truth}
use Rattle.sqlite.specs.Term.{Term, eval_all}
use Rattle.sqlite.specs.Query.{inner, end, matches, IsAnswer}
use Rattle.sqlite.proofs.Callers.{one_permutation}
use Rattle.sqlite_trees.proofs.ListLemmas.{IsPermutation-filter}
use Rattle.sqlite_value.proofs.OrderLemmas.{value_cmp-Text}
use Rattle.tb_tables.specs.Records.{Revision, Shows, numbered, number_shown, revision_shown}
use Rattle.tb_tables.proofs.Texts.{simple}
use Rattle.tb_tables.proofs.Meaning.{all_answers}
use Rattle.tb_tables.proofs.Lists.{differs_below, differs_above, equals_same}
use Rattle.tb_reads.specs.Found.{IsNumberOf, IsRevisionAt, HasUnreadable, equals, has_number, has_name, has_pair, key_alone}

module _ (tree : ℕ) (where_terms project : List Term) (db : Trees) (params : Row) (rows : List Row) (a : IsAnswer (simple tree where_terms project []) db params rows) (view : Row → Row) (test : Row → Bool) (out : Row → Row) where
  picks : (T : List Row) → ((r : Row) → eval_all project (params ∷ r ∷ []) ≡ out (view r))
      → map (eval_all project) (flat_map (λ r. if test (view r) then (params ∷ r ∷ []) ∷ [] else []) T) ≡ map out (filter test (map view T))
  picks [] shows = refl
  picks (r ∷ rs) shows = elim (cases_Bool (test (view r))) [
    | inl met ↦ rw met (ap₂ (λ x xs. x ∷ xs) (shows r) (picks rs shows))
    | inr other ↦ rw other (picks rs shows)
  ]

  -- the rows are those that show a record that meets the test, in some order
  pub picked : matches db where_terms (inner tree end) (params ∷ []) ≡ flat_map (λ r. if test (view r) then (params ∷ r ∷ []) ∷ [] else []) (db tree)
      → ((r : Row) → eval_all project (params ∷ r ∷ []) ≡ out (view r)) → (shown : List Row) → Shows view shown (db tree) → IsPermutation (map out (filter test shown)) rows
  picked is shows shown holds =
      let given = subst (λ l. IsPermutation l rows) (picks (db tree) shows) (all_answers tree where_terms project db params rows a _ is) in
      IsPermutation-trans _ _ _ (IsPermutation-map out (filter test shown) (filter test (map view (db tree))) (IsPermutation-filter test shown (map view (db tree)) holds)) given

-- ---- by number

none_numbered : {X : Type 0} (row : ℕ → X → Row) (keyed : (n : ℕ) (x : X) → column (row n x) 0 ≡ Int (pos n)) (k n : ℕ) (xs : List X) → n < k → filter (has_number n) (numbered row k xs) ≡ []
none_numbered row keyed k n [] h = refl
none_numbered row keyed k n (y ∷ ys) h = rw (keyed k y, differs_above k n h) (none_numbered row keyed (suc k) n ys (omega (arith, h)))

pub one_numbered : {X : Type 0} (row : ℕ → X → Row) (keyed : (n : ℕ) (x : X) → column (row n x) 0 ≡ Int (pos n)) (j k n : ℕ) (xs : List X) → n ≡ k + j
    → filter (has_number n) (numbered row k xs) ≡ map (row n) (option_to_list (slice_get xs j))
one_numbered row keyed j k n [] e = refl
one_numbered row keyed zero k n (y ∷ ys) e =
    let same : k ≡ n = omega (arith, e) in
    rw (keyed k y, equals_same k n same, none_numbered row keyed (suc k) n ys (omega (arith, e))) (ap (λ m. row m y ∷ []) same)
one_numbered row keyed (suc j) k n (y ∷ ys) e = rw (keyed k y, differs_below k n (omega (arith, e))) (one_numbered row keyed j (suc k) n ys (omega (arith, e)))

few : {X Y : Type 0} (f : X → Y) (o : Option X) (ys : List Y) → IsPermutation (map f (option_to_list o)) ys → ys ≡ map f (option_to_list o)
few f None [] h = refl
few f None (y ∷ ys) h = absurd (omega (arith, length_permutation [] (y ∷ ys) h))
few f (Some x) ys h = one_permutation (f x) ys h

pub found_numbered : {X : Type 0} (row : ℕ → X → Row) (keyed : (n : ℕ) (x : X) → column (row n x) 0 ≡ Int (pos n)) (n j : ℕ) (xs : List X) (rows : List Row) → n ≡ 1 + j
    → IsPermutation (map (λ (r : Row). r) (filter (has_number n) (numbered row 1 xs))) rows → rows ≡ map (row n) (option_to_list (slice_get xs j))
found_numbered row keyed n j xs rows at h =
    few (row n) (slice_get xs j) rows (subst (λ l. IsPermutation l rows) (map-id (filter (has_number n) (numbered row 1 xs)) ∙ one_numbered row keyed j 1 n xs at) h)

-- ---- by name

truth : (b : Bool) → is_true (from_truth (Some b)) ≡ b
truth true = refl
truth false = refl

text_test : (a b : List ℕ) → equals (Text a) (Text b) ≡ bytes_eq a b
unfolding binary
text_test a b = rw (value_cmp-Text a b, is_eq-slice_cmp a b) (truth (bytes_eq a b))

pub int_same : (m n : ℕ) → equals (Int (pos m)) (Int (pos n)) ≡ true → m ≡ n
int_same m n h = elim (cases_lt m n) [
  | inl less ↦ absurd (let e = rw (differs_below m n less) at h in cc)
  | inr ge ↦ elim (cases_lt n m) [ inl more ↦ absurd (let e = rw (differs_above m n more) at h in cc) | inr le ↦ omega (arith, ge, le) ]
]

int_differs : (m n : ℕ) → equals (Int (pos m)) (Int (pos n)) ≡ false → m ≢ n
int_differs m n h e = absurd (let t = equals_same m n e in cc)

nothing : {X Y : Type 0} (f : X → Y) (xs : List X) → map f xs ≡ [] → xs ≡ []
nothing f [] e = refl
nothing f (x ∷ xs) e = absurd cc

none_of : {X Y : Type 0} (f : X → Y) (xs : List X) (rows : List Y) → IsPermutation (map f xs) rows → rows ≡ [] → xs ≡ []
none_of f xs rows same is = nothing f xs (nil_from_length (map f xs) (sym (length_permutation (map f xs) rows same) ∙ ap length is))

module _ {X : Type 0} (row : ℕ → X → Row) (name_of : X → List ℕ) (keyed : (n : ℕ) (x : X) → column (row n x) 0 ≡ Int (pos n)) (called : (n : ℕ) (x : X) → column (row n x) 1 ≡ Text (name_of x)) (name : List ℕ) where
  named_none : (k : ℕ) (xs : List X) → filter (has_name name) (numbered row k xs) ≡ [] → AllByRecursion (λ x. name_of x ≢ name) xs
  named_none k [] e = tt
  named_none k (x ∷ xs) e = elim (cases_Bool (bytes_eq (name_of x) name)) [
    | inl met ↦ absurd (let f = rw (called k x, text_test (name_of x) name, met) at e in cc)
    | inr other ↦ (not_from_Decides (bytes_eq (name_of x) name) (bytes_eq-Decides (name_of x) name) other, named_none (suc k) xs (rw (called k x, text_test (name_of x) name, other) at e))
  ]

  named_some : (k n : ℕ) (xs : List X) → Contains (map key_alone (filter (has_name name) (numbered row k xs))) (number_shown n) → (x : X) × (i : ℕ) × (n ≡ k + i) × (slice_get xs i ≡ Some x) × (name_of x ≡ name)
  named_some k n [] h = absurd (omega (arith, h.1))
  named_some k n (x ∷ xs) h = elim (cases_Bool (bytes_eq (name_of x) name)) [
    | inl met ↦ elim (contains_cases (key_alone (row k x)) _ (number_shown n) (rw (called k x, text_test (name_of x) name, met) at h)) [
      | inl here ↦ (let two : column (row k x) 0 ∷ [] ≡ Int (pos n) ∷ [] = here in let one : Int (pos k) ≡ Int (pos n) = (let a = keyed k x in cc) in let same : k ≡ n = cc in (x, 0, omega (arith, same), refl, (bytes_eq-Decides (name_of x) name).0 met))
      | inr more ↦ further (named_some (suc k) n xs more)
    ]
    | inr other ↦ further (named_some (suc k) n xs (rw (called k x, text_test (name_of x) name, other) at h))
  ]
    where
      further : (y : X) × (i : ℕ) × (n ≡ suc k + i) × (slice_get xs i ≡ Some y) × (name_of y ≡ name) → (y : X) × (i : ℕ) × (n ≡ k + i) × (slice_get (x ∷ xs) i ≡ Some y) × (name_of y ≡ name)
      further (y, i, at, is, named) = (y, suc i, omega (arith, at), is, named)

  pub number_found : (found : Option ℕ) (xs : List X) (rows : List Row) → (found ≡ None → rows ≡ []) × IfSome found (λ n. Contains rows (number_shown n)) → IsPermutation (map key_alone (filter (has_name name) (numbered row 1 xs))) rows
      → IsNumberOf name_of name xs found
  number_found None xs rows reported same = named_none 1 xs (none_of key_alone (filter (has_name name) (numbered row 1 xs)) rows same (reported.0 refl))
  number_found (Some n) xs rows reported same =
      let wanted = map key_alone (filter (has_name name) (numbered row 1 xs)) in
      let it = named_some 1 n xs (Contains-permutation rows wanted (number_shown n) (IsPermutation-sym wanted rows same) reported.1) in
      let place : it.1 ≡ n - 1 = (let at = it.2 in omega (arith, at)) in
      (it.0, (let at = it.2 in omega (arith, at)), subst (λ i. slice_get xs i ≡ Some it.0) place it.3, it.4)

-- ---- by sentence and number

pair_none : (s v : ℕ) (xs : List Revision) → filter (has_pair s v) (map revision_shown xs) ≡ [] → AllByRecursion (λ (r : Revision). ¬ ((r.sent ≡ s) × (r.rev ≡ v))) xs
pair_none s v [] e = tt
pair_none s v (x ∷ xs) e = elim (cases_Bool (equals (Int (pos x.sent)) (Int (pos s)))) [
  | inl first ↦ elim (cases_Bool (equals (Int (pos x.rev)) (Int (pos v)))) [
    | inl second ↦ absurd (let f = rw (first, second) at e in cc)
    | inr other ↦ ((λ both. int_differs x.rev v other both.1), pair_none s v xs (rw (first, other) at e))
  ]
  | inr other ↦ ((λ both. int_differs x.sent s other both.0), pair_none s v xs (rw other at e))
]

pair_some : (s v : ℕ) (xs : List Revision) (r : Revision) → Contains (filter (has_pair s v) (map revision_shown xs)) (revision_shown r) → Contains xs r × (r.sent ≡ s) × (r.rev ≡ v)
pair_some s v [] r h = absurd (omega (arith, h.1))
pair_some s v (x ∷ xs) r h = elim (cases_Bool (equals (Int (pos x.sent)) (Int (pos s)))) [
  | inl first ↦ elim (cases_Bool (equals (Int (pos x.rev)) (Int (pos v)))) [
    | inl second ↦ elim (contains_cases (revision_shown x) _ (revision_shown r) (rw (first, second) at h)) [
      | inl here ↦ (let same : x ≡ r = revision_same x r here in (subst (λ y. Contains (x ∷ xs) y) same (0, omega arith, refl), sym (ap (λ (y : Revision). y.sent) same) ∙ int_same x.sent s first, sym (ap (λ (y : Revision). y.rev) same) ∙ int_same x.rev v second))
      | inr more ↦ further (pair_some s v xs r more)
    ]
    | inr other ↦ further (pair_some s v xs r (rw (first, other) at h))
  ]
  | inr other ↦ further (pair_some s v xs r (rw other at h))
]
  where
    further : Contains xs r × (r.sent ≡ s) × (r.rev ≡ v) → Contains (x ∷ xs) r × (r.sent ≡ s) × (r.rev ≡ v)
    further (within, one, two) = (contains_later x xs r within, one, two)

pub revision_found : (s v : ℕ) (found : Option Revision) (xs : List Revision) (rows : List Row) → (found ≡ None → rows ≡ []) × IfSome found (λ r. Contains rows (revision_shown r))
    → IsPermutation (filter (has_pair s v) (map revision_shown xs)) rows → IsRevisionAt s v xs found
revision_found s v None xs rows reported same = pair_none s v xs (nil_from_length _ (sym (length_permutation _ rows same) ∙ ap length (reported.0 refl)))
revision_found s v (Some r) xs rows reported same = pair_some s v xs r (Contains-permutation rows _ (revision_shown r) (IsPermutation-sym _ rows same) reported.1)

-- ---- by a number alone

kept_number : (n : ℕ) (xs : List ℕ) → Contains xs n → 0 < length (filter (has_number n) (map number_shown xs))
kept_number n [] h = absurd (omega (arith, h.1))
kept_number n (x ∷ xs) h = elim (cases_Bool (equals (Int (pos x)) (Int (pos n)))) [
  | inl met ↦ rw met (omega arith)
  | inr other ↦ elim (contains_cases x xs n h) [ inl is ↦ absurd (int_differs x n other is) | inr more ↦ rw other (kept_number n xs more) ]
]

number_kept : (n : ℕ) (xs : List ℕ) → 0 < length (filter (has_number n) (map number_shown xs)) → Contains xs n
number_kept n [] low = absurd (omega (arith, low))
number_kept n (x ∷ xs) low = elim (cases_Bool (equals (Int (pos x)) (Int (pos n)))) [
  | inl met ↦ (0, omega arith, int_same x n met)
  | inr other ↦ contains_later x xs n (number_kept n xs (rw other at low))
]

pub is_among : (n : ℕ) (xs : List ℕ) (rows : List Row) → IsPermutation (filter (has_number n) (map number_shown xs)) rows → (0 < length rows) ↔ Contains xs n
is_among n xs rows same =
    let count = length_permutation (filter (has_number n) (map number_shown xs)) rows same in
    ((λ low. number_kept n xs (omega (arith, low, count))), (λ within. let low = kept_number n xs within in omega (arith, low, count)))

-- ---- rows that can be read

module _ {X : Type 0} (Is : X → Type 0) (shown : X → Row) where
  abbrev pub Tells : Row → Type 0
  Tells row = (x : X) × Is x × (row ≡ shown x)

  pub none_unreadable : (wanted rows : List Row) → AllByRecursion Tells wanted → IsPermutation wanted rows → ¬ HasUnreadable Is shown rows
  none_unreadable wanted rows each same (row, within, none) =
      let it = All-contains Tells rows row (All-permutation Tells wanted rows same (All-from_recursion Tells wanted each)) within in
      none it.0 it.1 it.2

  reported_kept : (test : Row → Bool) (xs : List X) → AllByRecursion Is xs → AllByRecursion Tells (filter test (map shown xs))
  reported_kept test [] each = tt
  reported_kept test (x ∷ xs) each = elim (cases_Bool (test (shown x))) [
    | inl met ↦ rw met ((x, each.0, refl), reported_kept test xs each.1)
    | inr other ↦ rw other (reported_kept test xs each.1)
  ]

  pub kept_readable : (test : Row → Bool) (xs : List X) (rows : List Row) → All Is xs → IsPermutation (filter test (map shown xs)) rows → ¬ HasUnreadable Is shown rows
  kept_readable test xs rows each same = none_unreadable (filter test (map shown xs)) rows (reported_kept test xs (recursion_from_All Is xs each)) same

module _ {X : Type 0} (row : ℕ → X → Row) (keyed : (n : ℕ) (x : X) → column (row n x) 0 ≡ Int (pos n)) (test : Row → Bool) where
  reported_keys : (k : ℕ) (xs : List X) → k + length xs ≤ 2 ^ 32 → AllByRecursion (Tells (λ n. n < 2 ^ 32) number_shown) (map key_alone (filter test (numbered row k xs)))
  reported_keys k [] h = tt
  reported_keys k (x ∷ xs) h = elim (cases_Bool (test (row k x))) [
    | inl met ↦ rw met ((k, omega (arith, h), ap (λ v. v ∷ []) (keyed k x)), reported_keys (suc k) xs (omega (arith, h)))
    | inr other ↦ rw other (reported_keys (suc k) xs (omega (arith, h)))
  ]

  pub keys_readable : (xs : List X) (rows : List Row) → length xs < 2 ^ 32 → IsPermutation (map key_alone (filter test (numbered row 1 xs))) rows → ¬ HasUnreadable (λ n. n < 2 ^ 32) number_shown rows
  keys_readable xs rows low same = none_unreadable (λ n. n < 2 ^ 32) number_shown (map key_alone (filter test (numbered row 1 xs))) rows (reported_keys 1 xs (omega (arith, low))) same

pub is_some_row : (b : Bool) (n : ℕ) → b ≡ (n == 0) → IsTrue (not b) ↔ (0 < n)
is_some_row b zero e = rw e ((λ h. absurd (let off : false ≡ true = h in cc)), λ low. absurd (omega (arith, low)))
is_some_row b (suc n) e = rw e ((λ _. omega arith), λ _. ap not (eqb-suc-zero n))
