-- What SELECT with WHERE and ORDER BY shows of rows that show records.
use Rattle.std.proofs.Common.{◌≡◌, inl, inr, ℕ, suc, ◌+◌, ◌<◌, ◌≤◌, ◌^◌, pos, Bool, false, List, [], ◌∷◌, map, length, get_or, filter, flat_map, if◌then◌else◌, refl, sym, ap, ap₂, subst, ◌∙◌, arith, All, IsPermutation, is_lt, nat_eq}
use Rattle.std.specs.List.{AllByRecursion}
use Rattle.std.proofs.lemmas.Bool.{cases_Bool, eqb-true, eqb-false}
use Rattle.std.proofs.lemmas.List.Elements.{All-from_recursion, recursion_from_All}
use Rattle.std.proofs.lemmas.List.Sorted.{IsPermutation-trans, IsPermutation-map, IsNonDecreasingBy-from_all_adjacent, All-permutation}
use Rattle.sqlite.specs.declared.types.Value.TheVariants.{Int}
use Rattle.sqlite.specs.Order.{Row, column}
use Rattle.sqlite.specs.Tree.{Trees}
use Rattle.sqlite.specs.Term.{Term}
use Rattle.sqlite.specs.Query.{Query, IsAnswer, Output, output, output_cmp, inner, end, matches}
use Rattle.sqlite_value.specs.declared.keys.Key.{Key}
use Rattle.sqlite_trees.specs.Tree.{IsAscending}
use Rattle.sqlite_trees.proofs.ListLemmas.{map-map, IsPermutation-filter}
use Rattle.tb_tables.specs.Records.{Sentence, Shows, numbered, sentence_shown}
use Rattle.tb_tables.proofs.Texts.{simple}
use Rattle.tb_tables.proofs.Lists.{equals_same}
use Rattle.tb_reads.specs.Found.{equals, has_batch, work_of, work_shown, work_columns}
use Rattle.tb_reads.specs.Readable.{IsSentence, IsWork}
use Rattle.tb_reads.proofs.Order.{unique}
use Rattle.tb_reads.proofs.Ordered.{number_of, first, IsFirst}
use Rattle.tb_reads.proofs.Picked.{int_same}

-- what a row is sorted by, and what it shows
abbrev pub sorted_by : (Row → Row) → (Row → Row) → Row → Output
sorted_by keys out r = (keys r, out r)

module _ (tree : ℕ) (tests project : List Term) (order : List (Term × Key)) (params : Row) (view keys out : Row → Row) (test : Row → Bool)
    (same : (r : Row) → output (simple tree tests project order) (params ∷ r ∷ []) ≡ sorted_by keys out (view r)) (db : Trees) (rows : List Row)
    (a : IsAnswer (simple tree tests project order) db params rows)
    (is : matches db tests (inner tree end) (params ∷ []) ≡ flat_map (λ r. if test (view r) then (params ∷ r ∷ []) ∷ [] else []) (db tree)) where
  abbrev q : Query
  q = simple tree tests project order

  picks : (T : List Row) → map (output q) (flat_map (λ r. if test (view r) then (params ∷ r ∷ []) ∷ [] else []) T) ≡ map (sorted_by keys out) (filter test (map view T))
  picks [] = refl
  picks (r ∷ rs) = elim (cases_Bool (test (view r))) [
    | inl met ↦ rw met (ap₂ (λ x xs. x ∷ xs) (same r) (picks rs))
    | inr other ↦ rw other (picks rs)
  ]

  -- Where the keys of the rows that meet the test are numbers that rise, those rows in that order are the answer.
  pub sifted : (shown : List Row) (place : Output → ℕ) (IsPlaced : Output → Type 0) → IsAscending (λ x y. place x < place y) (map (sorted_by keys out) (filter test shown))
      → AllByRecursion IsPlaced (map (sorted_by keys out) (filter test shown)) → ((x y : Output) → IsPlaced x → IsPlaced y → is_lt (output_cmp q x y) ≡ false → place y ≤ place x)
      → Shows view shown (db tree) → rows ≡ map out (filter test shown)
  sifted shown place IsPlaced rises placed in_order holds =
      let keyed = sorted_by keys out in
      let wanted = map keyed (filter test shown) in
      let kept_is : a.kept ≡ map keyed (filter test (map view (db tree))) = a.distinct ∙ ap (map (output q)) (a.grouped ∙ is) ∙ picks (db tree) in
      let kept : IsPermutation wanted a.kept = subst (IsPermutation wanted) (sym kept_is) (IsPermutation-map keyed (filter test shown) (filter test (map view (db tree))) (IsPermutation-filter test shown (map view (db tree)) holds)) in
      let both = IsPermutation-trans wanted a.kept a.ordered kept a.same in
      let each = All-permutation IsPlaced wanted a.ordered both (All-from_recursion IsPlaced wanted placed) in
      let up = IsNonDecreasingBy-from_all_adjacent place a.ordered (λ k d low. in_order (get_or a.ordered (k + 1) d) (get_or a.ordered k d) (each (k + 1) d low) (each k d (omega (arith, low))) (a.sorted k d (omega arith) low)) in
      a.shown ∙ ap (map (λ (o : Output). o.1)) (unique place wanted a.ordered rises up both) ∙ map-map (λ (o : Output). o.1) keyed (filter test shown)

-- ---- in the order of the number of a record

module _ {X : Type 0} (row : ℕ → X → Row) (number : (n : ℕ) (x : X) → column (row n x) 0 ≡ Int (pos n)) (out : Row → Row) (test : Row → Bool) where
  abbrev pub by_key : Row → Output
  by_key = sorted_by (λ r. column r 0 ∷ []) out

  above : (j k : ℕ) (xs : List X) → j < k → AllByRecursion (λ o. j < first o) (map by_key (filter test (numbered row k xs)))
  above j k [] h = tt
  above j k (x ∷ xs) h = elim (cases_Bool (test (row k x))) [
    | inl met ↦ rw met ((subst (λ v. j < number_of v) (sym (number k x)) h, above j (suc k) xs (omega (arith, h))))
    | inr other ↦ rw other (above j (suc k) xs (omega (arith, h)))
  ]

  pub sifted_rise : (k : ℕ) (xs : List X) → IsAscending (λ a b. first a < first b) (map by_key (filter test (numbered row k xs)))
  sifted_rise k [] = tt
  sifted_rise k (x ∷ xs) = elim (cases_Bool (test (row k x))) [
    | inl met ↦ rw met ((subst (λ v. AllByRecursion (λ o. number_of v < first o) (map by_key (filter test (numbered row (suc k) xs)))) (sym (number k x)) (above k (suc k) xs (omega arith)), sifted_rise (suc k) xs))
    | inr other ↦ rw other (sifted_rise (suc k) xs)
  ]

  pub sifted_placed : (k : ℕ) (xs : List X) → AllByRecursion IsFirst (map by_key (filter test (numbered row k xs)))
  sifted_placed k [] = tt
  sifted_placed k (x ∷ xs) = elim (cases_Bool (test (row k x))) [
    | inl met ↦ rw met ((subst (λ v. v ≡ Int (pos (number_of v))) (sym (number k x)) refl, sifted_placed (suc k) xs))
    | inr other ↦ rw other (sifted_placed (suc k) xs)
  ]

-- ---- the sentences of a batch

number_test : (a b : ℕ) → equals (Int (pos a)) (Int (pos b)) ≡ nat_eq a b
number_test a b = elim (cases_Bool (nat_eq a b)) [
  | inl met ↦ equals_same a b (eqb-true a b met) ∙ sym met
  | inr other ↦ elim (cases_Bool (equals (Int (pos a)) (Int (pos b)))) [
    | inl equal ↦ absurd (eqb-false a b other (int_same a b equal))
    | inr differs ↦ differs ∙ sym other
  ]
]

pub work_shows : (batch k : ℕ) (xs : List Sentence) → map work_columns (filter (has_batch batch) (numbered sentence_shown k xs)) ≡ map work_shown (work_of batch k xs)
work_shows batch k [] = refl
work_shows batch k (x ∷ xs) = elim (cases_Bool (nat_eq x.batch batch)) [
  | inl met ↦ rw (number_test x.batch batch, met) (ap (λ rows. work_columns (sentence_shown k x) ∷ rows) (work_shows batch (suc k) xs))
  | inr other ↦ rw (number_test x.batch batch, other) (work_shows batch (suc k) xs)
]

work_fits : (batch k : ℕ) (xs : List Sentence) → AllByRecursion IsSentence xs → k + length xs ≤ 2 ^ 32 → AllByRecursion IsWork (work_of batch k xs)
work_fits batch k [] each low = tt
work_fits batch k (x ∷ xs) each low = elim (cases_Bool (nat_eq x.batch batch)) [
  | inl met ↦ rw met ((record { number_fits = omega (arith, low); rev_fits = each.0.rev_fits; words_fits = each.0.words_fits }, work_fits batch (suc k) xs each.1 (omega (arith, low))))
  | inr other ↦ rw other (work_fits batch (suc k) xs each.1 (omega (arith, low)))
]

pub work_readable : (batch : ℕ) (xs : List Sentence) → All IsSentence xs → length xs < 2 ^ 32 → All IsWork (work_of batch 1 xs)
work_readable batch xs each low = All-from_recursion IsWork (work_of batch 1 xs) (work_fits batch 1 xs (recursion_from_All IsSentence xs each) (omega (arith, low)))
