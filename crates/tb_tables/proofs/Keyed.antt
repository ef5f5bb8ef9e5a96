-- What a statement by number does to rows that show records.
use Rattle.std.proofs.Common.{◌≡◌, ℕ, suc, ◌+◌, pos, List, [], ◌∷◌, ◌++◌, length, map, true, false, not, slice_get, slice_set, Some, refl, sym, ap, subst, ◌∙◌, arith, if◌then◌else◌, ◌&&◌, filter, inl, inr, ◌==◌}
use Rattle.std.specs.Prelude.{IsPermutation}
use Rattle.std.specs.Ordering.{is_eq}
use Rattle.std.proofs.lemmas.Bool.{cases_Bool, cases_lt}
use Rattle.std.proofs.lemmas.Option.{slice_get_within}
use Rattle.std.proofs.lemmas.List.Sorted.{IsPermutation-sym, IsPermutation-trans, IsPermutation-cons, IsPermutation-append_comm, IsPermutation-map, All-permutation, length_permutation}
use Rattle.sqlite.specs.declared.types.Value.TheVariants.{Int}
use Rattle.sqlite.specs.Order.{Row, column, value_cmp}
use Rattle.sqlite.specs.Tree.{rowid, put_row, without_rowid}
use Rattle.sqlite_rules.specs.Edit.{is_taken, without_all, id_in}
use Rattle.sqlite_rules.specs.Calls.{ids_of}
use Rattle.sqlite_trees.specs.Tree.{has_rowid}
use Rattle.sqlite_trees.proofs.ListLemmas.{IsPermutation-filter, IsPermutation-flat_map, filter-filter}
use Rattle.sqlite.proofs.Callers.{one_permutation}
use Rattle.tb_tables.specs.Records.{numbered, Shows, number_view, number_shown}
use Rattle.tb_tables.proofs.Lists.{put_moves, replaced, found, found_one, equals, differs_below, differs_above, equals_same}
use Rattle.std.specs.List.{AllByRecursion}
use Rattle.std.proofs.lemmas.Int.{ints}
use Rattle.std.proofs.lemmas.Bool.Decides.{nat_tests}
use Rattle.std.proofs.lemmas.List.Elements.{All-from_recursion, recursion_from_All}
use Rattle.sqlite_value.proofs.OrderLemmas.{value_cmp-Int}

-- the record after the last has the next number
pub numbered_more : {X : Type 0} (row : ℕ → X → Row) (k : ℕ) (xs : List X) (x : X) → numbered row k (xs ++ x ∷ []) ≡ numbered row k xs ++ row (k + length xs) x ∷ []
numbered_more row k [] x = let same : k ≡ k + 0 = omega arith in ap (λ m. row m x ∷ []) same
numbered_more row k (y ∷ ys) x =
    let same : suc k + length ys ≡ k + suc (length ys) = omega arith in
    ap (λ rs. row k y ∷ rs) (numbered_more row (suc k) ys x ∙ ap (λ m. numbered row (suc k) ys ++ row m x ∷ []) same)

module _ (view : Row → Row) where
  pub one_more_shows : (shown : List Row) (new : Row) (rows : List Row) → Shows view shown rows → Shows view (shown ++ view new ∷ []) (new ∷ rows)
  one_more_shows shown new rows same = IsPermutation-trans _ _ _ (IsPermutation-append_comm shown (view new ∷ [])) (IsPermutation-cons (view new) shown (map view rows) same)

  pub put_shows : (shown : List Row) (new : Row) (rows : List Row) → is_taken rows new ≡ false → Shows view shown rows → Shows view (shown ++ view new ∷ []) (put_row new rows)
  put_shows shown new rows free same = IsPermutation-trans _ _ _ (one_more_shows shown new rows same) (IsPermutation-map view (new ∷ rows) (put_row new rows) (put_moves new rows free))

  pub put_numbered : {X : Type 0} (row : ℕ → X → Row) (n : ℕ) (xs : List X) (x : X) (new : Row) (rows : List Row) → n ≡ 1 + length xs → view new ≡ row n x → is_taken rows new ≡ false
      → Shows view (numbered row 1 xs) rows → Shows view (numbered row 1 (xs ++ x ∷ [])) (put_row new rows)
  put_numbered row n xs x new rows at is free same =
      let last : row (1 + length xs) x ∷ [] ≡ view new ∷ [] = ap (λ r. r ∷ []) (ap (λ m. row m x) (sym at) ∙ sym is) in
      subst (λ l. Shows view l (put_row new rows)) (sym (numbered_more row 1 xs x ∙ ap (λ l. numbered row 1 xs ++ l) last)) (put_shows (numbered row 1 xs) new rows free same)

pub free_without : (id : ℕ) (new : Row) (at : rowid new ≡ Int (pos id)) (rows : List Row) → is_taken (without_rowid (pos id) rows) new ≡ false
free_without id new at [] = refl
free_without id new at (r ∷ rs) = elim (cases_Bool (is_eq (value_cmp (rowid r) (Int (pos id))))) [
  | inl met ↦ rw met (free_without id new at rs)
  | inr other ↦ rw (other, at, other) (free_without id new at rs)
]

-- what WHERE keeps, as rows
abbrev pub hits : ℕ → List Row → List Row
hits n = found (λ r. r) n

found_map : {E : Type 0} (make : Row → E) (n : ℕ) (rows : List Row) → found make n rows ≡ map make (hits n rows)
found_map make n [] = refl
found_map make n (r ∷ rs) = elim (cases_Bool (equals (column r 0) (Int (pos n)))) [
  | inl met ↦ rw met (ap (λ l. make r ∷ l) (found_map make n rs))
  | inr other ↦ rw other (found_map make n rs)
]

module _ (view : Row → Row) (keeps : (r : Row) → column (view r) 0 ≡ column r 0) where
  hits_view : (n : ℕ) (rows : List Row) → hits n (map view rows) ≡ map view (hits n rows)
  hits_view n [] = refl
  hits_view n (r ∷ rs) = elim (cases_Bool (equals (column r 0) (Int (pos n)))) [
    | inl met ↦ rw (keeps r, met) (ap (λ l. view r ∷ l) (hits_view n rs))
    | inr other ↦ rw (keeps r, other) (hits_view n rs)
  ]

  without_view : (n : ℕ) (rows : List Row) → without_rowid (pos n) (map view rows) ≡ map view (without_rowid (pos n) rows)
  without_view n [] = refl
  without_view n (r ∷ rs) = elim (cases_Bool (is_eq (value_cmp (column r 0) (Int (pos n))))) [
    | inl met ↦ rw (keeps r, met) (without_view n rs)
    | inr other ↦ rw (keeps r, other) (ap (λ l. view r ∷ l) (without_view n rs))
  ]

  pub without_shows : (n : ℕ) (shown rows : List Row) → Shows view shown rows → Shows view (without_rowid (pos n) shown) (without_rowid (pos n) rows)
  without_shows n shown rows same =
      subst (IsPermutation (without_rowid (pos n) shown)) (without_view n rows) (IsPermutation-filter (λ r. not (has_rowid (pos n) r)) shown (map view rows) same)

  pub hits_show : (n : ℕ) (shown rows : List Row) → Shows view shown rows → Shows view (hits n shown) (hits n rows)
  hits_show n shown rows same =
      subst (IsPermutation (hits n shown)) (hits_view n rows) (IsPermutation-flat_map (λ r. if equals (column r 0) (Int (pos n)) && true then r ∷ [] else []) shown (map view rows) same)

  module _ {X : Type 0} (row : ℕ → X → Row) (keyed : (n : ℕ) (x : X) → rowid (row n x) ≡ Int (pos n)) where
    -- the rows with the number of a record show that record alone
    pub hit : (n j : ℕ) (xs : List X) (x : X) (rows : List Row) → n ≡ 1 + j → slice_get xs j ≡ Some x → Shows view (numbered row 1 xs) rows → map view (hits n rows) ≡ row n x ∷ []
    hit n j xs x rows at is same =
        let one : hits n (numbered row 1 xs) ≡ row n x ∷ [] = found_one row keyed (λ r. r) j 1 n xs at ∙ rw is refl in
        one_permutation (row n x) (map view (hits n rows)) (subst (λ l. IsPermutation l (map view (hits n rows))) one (hits_show n (numbered row 1 xs) rows same))

    pub replaced_shows : (n j : ℕ) (xs : List X) (x y : X) (new : Row) (rows : List Row) → n ≡ 1 + j → slice_get xs j ≡ Some y → view new ≡ row n x → rowid new ≡ Int (pos n)
        → Shows view (numbered row 1 xs) rows → Shows view (numbered row 1 (slice_set xs j x)) (put_row new (without_rowid (pos n) rows))
    replaced_shows n j xs x y new rows at is shows id same =
        let left = without_rowid (pos n) (numbered row 1 xs) in
        let kept = without_rowid (pos n) rows in
        let a = subst (IsPermutation (row n x ∷ left)) (replaced row keyed j 1 n xs x at (slice_get_within xs j y is)) (put_moves (row n x) left (free_without n (row n x) (keyed n x) (numbered row 1 xs))) in
        let b = subst (λ r. IsPermutation (row n x ∷ left) (r ∷ map view kept)) (sym shows) (IsPermutation-cons (row n x) left (map view kept) (without_shows n (numbered row 1 xs) rows same)) in
        let c = IsPermutation-map view (new ∷ kept) (put_row new kept) (put_moves new kept (free_without n new id rows)) in
        IsPermutation-trans _ _ _ (IsPermutation-sym _ _ a) (IsPermutation-trans _ _ _ b c)

-- one row whose view is known
pub one_hit : {A B : Type 0} (f : A → B) (xs : List A) (y : B) → map f xs ≡ y ∷ [] → (x : A) × (xs ≡ x ∷ []) × (f x ≡ y)
one_hit f [] y h = absurd cc
one_hit f (x ∷ []) y h = (x, refl, (let e = h in cc))
one_hit f (x ∷ z ∷ more) y h = absurd cc

pub matched : {E : Type 0} (make : Row → E) (n : ℕ) (rows : List Row) (r : Row) → hits n rows ≡ r ∷ [] → found make n rows ≡ make r ∷ []
matched make n rows r is = found_map make n rows ∙ ap (map make) is

pub matched_all : {E : Type 0} (make : Row → E) (n : ℕ) (rows : List Row) → found make n rows ≡ map make (hits n rows)
matched_all make n rows = found_map make n rows

-- ---- rows that are a number alone

pub equals_test : (m n : ℕ) → equals (Int (pos m)) (Int (pos n)) ≡ (m == n)
equals_test m n = elim (cases_lt m n) [
  | inl less ↦ differs_below m n less ∙ grind (arith, nat_tests)
  | inr ge ↦ elim (cases_lt n m) [
    | inl more ↦ differs_above m n more ∙ grind (arith, nat_tests)
    | inr le ↦ equals_same m n (omega (arith, ge, le)) ∙ grind (arith, nat_tests)
  ]
]

pub rowid_test : (m n : ℕ) → has_rowid (pos n) (number_shown m) ≡ (m == n)
rowid_test m n = ap is_eq (value_cmp-Int (pos m) (pos n)) ∙ grind (arith, ints, nat_tests)

without_numbers : (n : ℕ) (ns : List ℕ) → without_rowid (pos n) (map number_shown ns) ≡ map number_shown (filter (λ m. not (m == n)) ns)
without_numbers n [] = refl
without_numbers n (m ∷ ms) = elim (cases_Bool (m == n)) [
  | inl met ↦ rw (rowid_test m n, met) (without_numbers n ms)
  | inr other ↦ rw (rowid_test m n, other) (ap (λ l. number_shown m ∷ l) (without_numbers n ms))
]

hit_numbers : (n : ℕ) (ns : List ℕ) → AllByRecursion (λ r. r ≡ number_shown n) (hits n (map number_shown ns))
hit_numbers n [] = tt
hit_numbers n (m ∷ ms) = elim (cases_lt m n) [
  | inl less ↦ rw (differs_below m n less) (hit_numbers n ms)
  | inr ge ↦ elim (cases_lt n m) [
    | inl more ↦ rw (differs_above m n more) (hit_numbers n ms)
    | inr le ↦ let same : m ≡ n = omega (arith, ge, le) in rw (equals_same m n same) (ap number_shown same, hit_numbers n ms)
  ]
]

-- where no number is met, all stay
all_stay : (n : ℕ) (ns : List ℕ) → length (hits n (map number_shown ns)) ≡ 0 → filter (λ m. not (m == n)) ns ≡ ns
all_stay n [] none = refl
all_stay n (m ∷ ms) none = elim (cases_Bool (m == n)) [
  | inl met ↦ absurd (let e = rw (equals_test m n, met) at none in omega (arith, e))
  | inr other ↦ let rest = rw (equals_test m n, other) at none in rw other (ap (λ l. m ∷ l) (all_stay n ms rest))
]

gone_already : (n : ℕ) (rows ids : List Row) → AllByRecursion (λ r. r ≡ number_shown n) ids → without_all (without_rowid (pos n) rows) (ids_of ids) ≡ without_rowid (pos n) rows
gone_already n rows [] all = refl
gone_already n rows (r ∷ rs) all =
    let id : id_in (rowid r) ≡ pos n = ap (λ (x : Row). id_in (rowid x)) all.0 in
    let again : without_rowid (pos n) (without_rowid (pos n) rows) ≡ without_rowid (pos n) rows = filter-filter (λ x. not (has_rowid (pos n) x)) (λ x. not (has_rowid (pos n) x)) (λ x h. h) rows in
    ap (λ i. without_all (without_rowid i (without_rowid (pos n) rows)) (ids_of rs)) id ∙ ap (λ rows. without_all rows (ids_of rs)) again ∙ gone_already n rows rs all.1

-- the numbers that stay are those that differ
pub removed_shows : (n : ℕ) (ns : List ℕ) (rows ids : List Row) → IsPermutation (hits n (map number_shown ns)) ids → Shows number_view (map number_shown ns) rows
    → Shows number_view (map number_shown (filter (λ m. not (m == n)) ns)) (without_all rows (ids_of ids))
removed_shows n ns rows [] same shows =
    let none = all_stay n ns (sym (length_permutation (hits n (map number_shown ns)) [] same)) in
    subst (λ ms. Shows number_view (map number_shown ms) rows) (sym none) shows
removed_shows n ns rows (r ∷ rs) same shows =
    let all = recursion_from_All _ (r ∷ rs) (All-permutation (λ x. x ≡ number_shown n) (hits n (map number_shown ns)) (r ∷ rs) same (All-from_recursion _ (hits n (map number_shown ns)) (hit_numbers n ns))) in
    let id : id_in (rowid r) ≡ pos n = ap (λ (x : Row). id_in (rowid x)) all.0 in
    let left : without_all rows (ids_of (r ∷ rs)) ≡ without_rowid (pos n) rows = ap (λ i. without_all (without_rowid i rows) (ids_of rs)) id ∙ gone_already n rows rs all.1 in
    subst (Shows number_view (map number_shown (filter (λ m. not (m == n)) ns))) (sym left)
    (subst (λ l. Shows number_view l (without_rowid (pos n) rows)) (without_numbers n ns) (without_shows number_view (λ _. refl) n (map number_shown ns) rows shows))
