-- Rows that show records which are apart break no UNIQUE.
use Rattle.std.proofs.Common.{◌≡◌, ◌≢◌, inl, inr, ℕ, suc, ◌||◌, ◌&&◌, ◌==◌, Bool, true, false, not, List, [], ◌∷◌, map, refl, ap, subst, ◌∙◌, arith, Less, Equal, Greater, Ordering, Some}
use Rattle.std.specs.Ordering.{is_eq, is_ne, ordering_reverse, nat_cmp}
use Rattle.std.specs.List.{AllByRecursion, list_any, IsDistinct}
use Rattle.std.specs.Cmp.{both_ways}
use Rattle.std.proofs.lemmas.Bool.{cases_Bool}
use Rattle.std.proofs.lemmas.Bool.Decides.{nat_tests}
use Rattle.std.proofs.lemmas.Map.Keys.{IsDistinct-IsPermutation}
use Rattle.std.specs.FinMap.{slice_cmp-IsAntisymmetric, nat_cmp-IsAntisymmetric}
use Rattle.std.specs.Cmp.Lexicographic.{slice_cmp}
use Rattle.sqlite.specs.declared.types.Value.{Value}
use Rattle.sqlite.specs.declared.types.Value.TheVariants.{Text}
use Rattle.sqlite.specs.Order.{Row, value_cmp}
use Rattle.sqlite.specs.Tree.{Trees, rowid}
use Rattle.sqlite.specs.Ops.{binary, is_true, from_truth}
use Rattle.sqlite.specs.Collation.TheVariants.{Binary}
use Rattle.sqlite_sql.specs.Ops.{is_null}
use Rattle.sqlite_value.proofs.OrderLemmas.{value_cmp-Text, value_cmp_total}
use Rattle.sqlite_value.specs.Keys.{plain, first_key}
use Rattle.sqlite_schema.specs.declared.schema.Constraint.TheVariants.{Unique}
use Rattle.sqlite_schema.specs.Rules.{passes, Keeps, agree, differ, equal}
use Rattle.sqlite_rules.proofs.KeyLemmas.{agree_back}
use Rattle.sqlite_trees.proofs.ListLemmas.{all_both, all_weaker, all_of, all_from_map}
use Rattle.sqlite_rules.specs.Lists.{Has}
use Rattle.sqlite_rules.proofs.ListLemmas.{all_has, all_from, some_has, some_from}
use Rattle.tb_tables.specs.Layout.{desk_schema, batches, sentences, revisions}
use Rattle.tb_tables.specs.Records.{Tables, Batch, Sentence, Revision, Shows, numbered, batch_shown, sentence_shown, revision_shown, batch_view, sentence_view, revision_view}
use Rattle.tb_tables.specs.Failing.{Lacks, AreApart, AreUnique}
use Rattle.tb_tables.proofs.Keyed.{equals_test}

self_equal : (o : Ordering) → o ≡ ordering_reverse o → is_ne o ≡ false
self_equal Less h = absurd cc
self_equal Equal h = refl
self_equal Greater h = absurd cc

differ_self : (v : Value) → differ v v ≡ false
unfolding binary
differ_self v = elim (cases_Bool (is_null v)) [
  | inl null ↦ rw null refl
  | inr some ↦ rw (some, self_equal (value_cmp v v) (value_cmp_total.antisymm v v)) refl
]

other_order : (o : Ordering) → (o ≡ Equal → ⊥) → is_true (from_truth (Some (is_eq o))) ≡ false
other_order Less h = refl
other_order Equal h = absurd (h refl)
other_order Greater h = refl

names_differ : (a b : List ℕ) → a ≢ b → equal Binary (Text a) (Text b) ≡ false
unfolding binary
names_differ a b h = rw (value_cmp-Text a b) (other_order (slice_cmp nat_cmp a b) (λ e. h (slice_cmp-IsAntisymmetric nat_cmp-IsAntisymmetric a b e)))

and_false : (b : Bool) → (b && false) ≡ false
and_false true = refl
and_false false = refl

both_clear : (a b : Bool) → a ≡ false → b ≡ false → (a || b) ≡ false
both_clear a b ea eb = rw (ea, eb) refl

to_pass : (b : Bool) → b ≡ false → (not b && true) ≡ true
to_pass b e = rw e refl

-- ---- rows whose keys are apart do not clash

module _ (view : Row → Row) (places shown_at : List ℕ) (same : (a b : Row) → agree plain places a places b ≡ agree plain shown_at (view a) shown_at (view b)) where
  abbrev alike : Row → Row → Bool
  alike a b = agree plain shown_at a shown_at b

  abbrev clash : Row → Row → Bool
  clash row other = agree plain places other places row && differ (rowid other) (rowid row)

  flips : (a b : Row) → alike a b ≡ alike b a
  flips a b = both_ways (alike a b) (alike b a) (agree_back plain shown_at shown_at a b) (agree_back plain shown_at shown_at b a)

  no_clash : (r o : Row) → alike (view o) (view r) ≡ false → clash r o ≡ false
  no_clash r o h = rw (same o r, h) refl

  own : (r : Row) → clash r r ≡ false
  own r = rw (differ_self (rowid r)) (and_false (agree plain places r places r))

  none_before : (x : Row) (xs : List Row) → AllByRecursion (λ y. alike (view x) y ≡ false) (map view xs) → list_any (clash x) xs ≡ false
  none_before x [] h = refl
  none_before x (y ∷ ys) h = both_clear (clash x y) (list_any (clash x) ys) (no_clash x y (flips (view y) (view x) ∙ h.0)) (none_before x ys h.1)

  apart_rows : (rows : List Row) → IsDistinct alike (map view rows) → AllByRecursion (λ r. list_any (clash r) rows ≡ false) rows
  unfolding IsDistinct
  apart_rows [] h = tt
  apart_rows (x ∷ xs) h = (
    both_clear (clash x x) (list_any (clash x) xs) (own x) (none_before x xs h.0),
    all_both (λ r. alike (view x) (view r) ≡ false) (λ r. list_any (clash r) xs ≡ false) (λ r. list_any (clash r) (x ∷ xs) ≡ false) (λ r a b. both_clear (clash r x) (list_any (clash r) xs) (no_clash r x a) b) xs
        (all_from_map (λ y. alike (view x) y ≡ false) view xs h.0) (apart_rows xs h.1),
  )

  pub clear_rows : (shown rows : List Row) → Shows view shown rows → IsDistinct alike shown → AllByRecursion (λ r. list_any (clash r) rows ≡ false) rows
  clear_rows shown rows shows apart = apart_rows rows (IsDistinct-IsPermutation alike flips shown (map view rows) shows apart)

-- ---- records that are apart show rows that are

module _ {X K : Type 0} (row : ℕ → X → Row) (key : X → K) (alike : Row → Row → Bool) (differs : (m n : ℕ) (x y : X) → key x ≢ key y → alike (row m x) (row n y) ≡ false) where
  differs_all : (m k : ℕ) (x : X) (xs : List X) → Lacks (map key xs) (key x) → AllByRecursion (λ r. alike (row m x) r ≡ false) (numbered row k xs)
  differs_all m k x [] h = tt
  differs_all m k x (y ∷ ys) h = (differs m k x y h.0, differs_all m (suc k) x ys h.1)

  pub distinct : (k : ℕ) (xs : List X) → AreApart (map key xs) → IsDistinct alike (numbered row k xs)
  unfolding IsDistinct
  distinct k [] h = tt
  distinct k (x ∷ xs) h = (differs_all k (suc k) x xs h.0, distinct (suc k) xs h.1)

batches_differ : (m n : ℕ) (x y : Batch) → x.name ≢ y.name → agree plain (1 ∷ []) (batch_shown m x) (1 ∷ []) (batch_shown n y) ≡ false
unfolding first_key
batches_differ m n x y h = rw (names_differ x.name y.name h) refl

sentences_differ : (m n : ℕ) (x y : Sentence) → x.sent_id ≢ y.sent_id → agree plain (1 ∷ []) (sentence_shown m x) (1 ∷ []) (sentence_shown n y) ≡ false
unfolding first_key
sentences_differ m n x y h = rw (names_differ x.sent_id y.sent_id h) refl

pairs_differ : (a b c d : ℕ) → ◌≢◌ {A = ℕ × ℕ} (a, b) (c, d) → ((a == c) && ((b == d) && true)) ≡ false
pairs_differ a b c d h = elim (cases_Bool (a == c)) [
  | inl first ↦ elim (cases_Bool (b == d)) [
    | inl second ↦ absurd (let e : a ≡ c = grind (arith, nat_tests) in let f : b ≡ d = grind (arith, nat_tests) in h (rw (e, f) refl))
    | inr other ↦ rw (first, other) refl
  ]
  | inr other ↦ rw other refl
]

revisions_differ : (m n : ℕ) (x y : Revision) → ◌≢◌ {A = ℕ × ℕ} (x.sent, x.rev) (y.sent, y.rev) → agree plain (0 ∷ 1 ∷ []) (revision_shown x) (0 ∷ 1 ∷ []) (revision_shown y) ≡ false
unfolding first_key
revisions_differ m n x y h = rw (equals_test x.sent y.sent, equals_test x.rev y.rev) (pairs_differ x.sent x.rev y.sent y.rev h)

shown_numbered : (k : ℕ) (rs : List Revision) → numbered (λ _ r. revision_shown r) k rs ≡ map revision_shown rs
shown_numbered k [] = refl
shown_numbered k (r ∷ rs) = ap (λ l. revision_shown r ∷ l) (shown_numbered (suc k) rs)

-- ---- the three tables that have a UNIQUE

clear_fewer : (clash : Row → Row → Bool) (more fewer : List Row) → ((x : Row) → Has fewer x → Has more x) → AllByRecursion (λ r. list_any (clash r) more ≡ false) more → AllByRecursion (λ r. list_any (clash r) fewer ≡ false) fewer
clear_fewer clash more fewer within clear = all_from (λ r. list_any (clash r) fewer ≡ false) fewer (λ r h. elim (cases_Bool (list_any (clash r) fewer)) [
  | inl met ↦ let x = some_has (clash r) fewer met in let there = some_from (clash r) more x.0 (within x.0 x.1) x.2 in let none = all_has (λ y. list_any (clash y) more ≡ false) more r clear (within r h) in absurd cc
  | inr none ↦ none
])

-- the revisions are among rows that show them
pub keeps_unique_among : (d : Tables) (db : Trees) (more : List Row) → ((x : Row) → Has (db 5) x → Has more x) → Shows batch_view (numbered batch_shown 1 d.batches) (db 1)
    → Shows sentence_view (numbered sentence_shown 1 d.sentences) (db 3) → Shows revision_view (map revision_shown d.revisions) more → AreUnique d → Keeps Unique desk_schema db
keeps_unique_among d db more within shows_batches shows_sentences shows_revisions unique =
    let first = clear_rows batch_view (2 ∷ []) (1 ∷ []) (λ a b. refl) _ (db 1) shows_batches (distinct batch_shown (λ (b : Batch). b.name) _ batches_differ 1 d.batches unique.batches) in
    let second = clear_rows sentence_view (2 ∷ []) (1 ∷ []) (λ a b. refl) _ (db 3) shows_sentences (distinct sentence_shown (λ (s : Sentence). s.sent_id) _ sentences_differ 1 d.sentences unique.sentences) in
    let third = clear_fewer (λ row other. agree plain (1 ∷ 2 ∷ []) other (1 ∷ 2 ∷ []) row && differ (rowid other) (rowid row)) more (db 5) within (clear_rows revision_view (1 ∷ 2 ∷ []) (0 ∷ 1 ∷ []) (λ a b. refl) _ more shows_revisions
    (subst (IsDistinct _) (shown_numbered 1 d.revisions) (distinct (λ _ r. revision_shown r) (λ (r : Revision). (r.sent, r.rev)) _ revisions_differ 1 d.revisions unique.revisions))) in (
      all_of _ (λ row. refl) (db 0),
      (
        all_weaker _ (λ row. passes Unique desk_schema db batches row ≡ true) (λ row h. to_pass _ h) (db 1) first,
        (
          all_weaker _ (λ row. passes Unique desk_schema db sentences row ≡ true) (λ row h. to_pass _ h) (db 3) second,
          (all_weaker _ (λ row. passes Unique desk_schema db revisions row ≡ true) (λ row h. to_pass _ h) (db 5) third, (all_of _ (λ row. refl) (db 7), (all_of _ (λ row. refl) (db 8), (all_of _ (λ row. refl) (db 9), tt)))),
        ),
      ),
    )

pub keeps_unique : (d : Tables) (db : Trees) → Shows batch_view (numbered batch_shown 1 d.batches) (db 1) → Shows sentence_view (numbered sentence_shown 1 d.sentences) (db 3) → Shows revision_view (map revision_shown d.revisions) (db 5)
    → AreUnique d → Keeps Unique desk_schema db
keeps_unique d db = keeps_unique_among d db (db 5) (λ x h. h)
