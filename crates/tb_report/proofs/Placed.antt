-- Entries put in by key, and rows put into the order of their keys.
use Rattle.std.proofs.Common.{◌≡◌, ℕ, Bool, false, cond, List, [], ◌∷◌, Some, None, refl, sym, ap, ◌∙◌}
use Rattle.std.specs.BTreeMap.{is_at, insert_entry}
use Rattle.std.specs.Cmp.{IsTotalOrder}
use Rattle.std.specs.Cmp.Lexicographic.{slice_cmp, nat_list_cmp_total}
use Rattle.std.specs.List.{AllByRecursion, IsDistinct}
use Rattle.std.specs.List.Sorted.{IsStrictlySortedBy, IsPermutation}
use Rattle.std.specs.Map.{keys_of, lookup}
use Rattle.std.specs.declared.cmp.Ordering.{Ordering}
use Rattle.std.specs.declared.cmp.Ordering.TheVariants.{Less, Equal, Greater}
use Rattle.std.specs.Ordering.{nat_cmp, is_eq, eq_by_cmp, match_ordering, ordering_reverse}
use Rattle.std.proofs.lemmas.Cmp.{eq_by_cmp_equiv}
use Rattle.std.proofs.lemmas.List.Sorted.{IsPermutation-cons, IsPermutation-map, IsPermutation-middle, IsPermutation-refl, IsPermutation-trans}
use Rattle.std.proofs.lemmas.Map.Keys.{IsDistinct-IsPermutation, IsDistinct-head, IsDistinct-tail}
use Rattle.std.proofs.lemmas.Option.{none-some}
use Rattle.tb_report.specs.Kept.{in_order}
use Rattle.tb_report.specs.Tables.{Row}

module _ {K X : Type 0} (R : K → K → Ordering) (k : K) (v : X) where
  module _ (e : K × X) (es : List (K × X)) where
    -- what is put in before, at and after the first entry
    abbrev put : Ordering → List (K × X)
    put r = match_ordering r ((k, v) ∷ e ∷ es) ((e.0, v) ∷ es) (e ∷ insert_entry R es k v)

    abbrev Lacks : Ordering → Type 0
    Lacks r = cond (is_eq r) (Some e.1) (lookup (is_at (R k)) es) ≡ None

    all_step : (P : K × X → Type 0) (r : Ordering) → Lacks r → AllByRecursion P (e ∷ es) → P (k, v)
        → (lookup (is_at (R k)) es ≡ None → AllByRecursion P (insert_entry R es k v)) → AllByRecursion P (put r)
    all_step P Less none all new rest = (new, all)
    all_step P Equal none all new rest = absurd (none-some e.1 (sym none))
    all_step P Greater none all new rest = (all.0, rest none)

    keys_step : (P : K → Type 0) (r : Ordering) → AllByRecursion P (keys_of (e ∷ es)) → P k → AllByRecursion P (keys_of (insert_entry R es k v)) → AllByRecursion P (keys_of (put r))
    keys_step P Less all new rest = (new, all)
    keys_step P Equal all new rest = all
    keys_step P Greater all new rest = (all.0, rest)

    moved_step : (r : Ordering) → Lacks r → (lookup (is_at (R k)) es ≡ None → IsPermutation ((k, v) ∷ es) (insert_entry R es k v)) → IsPermutation ((k, v) ∷ e ∷ es) (put r)
    moved_step Less none rest = IsPermutation-refl ((k, v) ∷ e ∷ es)
    moved_step Equal none rest = absurd (none-some e.1 (sym none))
    moved_step Greater none rest =
        IsPermutation-trans ((k, v) ∷ e ∷ es) (e ∷ (k, v) ∷ es) (e ∷ insert_entry R es k v) (IsPermutation-middle ((k, v) ∷ []) e es)
        (IsPermutation-cons e ((k, v) ∷ es) (insert_entry R es k v) (rest none))

  -- of an entry at a new key, what holds of it and of all others
  pub all_put : (P : K × X → Type 0) (es : List (K × X)) → lookup (is_at (R k)) es ≡ None → AllByRecursion P es → P (k, v) → AllByRecursion P (insert_entry R es k v)
  all_put P [] none all new = (new, tt)
  all_put P (e ∷ es) none all new = all_step e es P (R k e.0) none all new (λ rest. all_put P es rest all.1 new)

  -- a new key
  pub moved_put : (es : List (K × X)) → lookup (is_at (R k)) es ≡ None → IsPermutation ((k, v) ∷ es) (insert_entry R es k v)
  moved_put [] none = IsPermutation-refl ((k, v) ∷ [])
  moved_put (e ∷ es) none = moved_step e es (R k e.0) none (λ rest. moved_put es rest)

  pub keys_put : (P : K → Type 0) (es : List (K × X)) → AllByRecursion P (keys_of es) → P k → AllByRecursion P (keys_of (insert_entry R es k v))
  keys_put P [] all new = (new, tt)
  keys_put P (e ∷ es) all new = keys_step e es P (R k e.0) all new (keys_put P es all.1 new)

  module _ (o : IsTotalOrder R) where
    below_all : (q : K) (ys : List K) → R k q ≡ Less → AllByRecursion (λ y. R q y ≡ Less) ys → AllByRecursion (λ y. R k y ≡ Less) ys
    below_all q [] less all = tt
    below_all q (y ∷ ys) less all = (o.trans k q y less all.0, below_all q ys less all.1)

    sorted_step : (e : K × X) (es : List (K × X)) (r : Ordering) → R k e.0 ≡ r → IsStrictlySortedBy R (keys_of (e ∷ es)) → IsStrictlySortedBy R (keys_of (insert_entry R es k v))
        → IsStrictlySortedBy R (keys_of (put e es r))
    unfolding IsStrictlySortedBy
    sorted_step e es Less at up rest = ((at, below_all e.0 (keys_of es) at up.0), up)
    sorted_step e es Equal at up rest = up
    sorted_step e es Greater at up rest = (keys_put (λ y. R e.0 y ≡ Less) es up.0 (o.antisymm e.0 k ∙ ap ordering_reverse at), rest)

    pub sorted_put : (es : List (K × X)) → IsStrictlySortedBy R (keys_of es) → IsStrictlySortedBy R (keys_of (insert_entry R es k v))
    unfolding IsStrictlySortedBy
    sorted_put [] up = (tt, tt)
    sorted_put (e ∷ es) up = sorted_step e es (R k e.0) refl up (sorted_put es up.1)

-- ---- rows

abbrev same : List ℕ → List ℕ → Bool
same = eq_by_cmp (slice_cmp nat_cmp)

lacks : (key : List ℕ) (rows : List Row) → AllByRecursion (λ other. same key other ≡ false) (keys_of rows) → lookup (is_at (slice_cmp nat_cmp key)) rows ≡ None
lacks key [] apart = refl
lacks key (row ∷ rows) apart = (λ i. cond (apart.0 i) (Some row.1) (lookup (is_at (slice_cmp nat_cmp key)) rows)) ∙ lacks key rows apart.1

pub sorted_rows : (rows : List Row) → IsStrictlySortedBy (slice_cmp nat_cmp) (keys_of (in_order rows))
unfolding IsStrictlySortedBy
sorted_rows [] = tt
sorted_rows (row ∷ rows) = sorted_put (slice_cmp nat_cmp) row.0 row.1 nat_list_cmp_total (in_order rows) (sorted_rows rows)

pub moved_rows : (rows : List Row) → IsDistinct (eq_by_cmp (slice_cmp nat_cmp)) (keys_of rows) → IsPermutation rows (in_order rows)
moved_rows [] apart = IsPermutation-refl []
moved_rows (row ∷ rows) apart =
    let both : IsPermutation (row ∷ rows) (row ∷ in_order rows) = IsPermutation-cons row rows (in_order rows) (moved_rows rows (IsDistinct-tail same row.0 (keys_of rows) apart)) in
    let keys = IsPermutation-map (λ (r : Row). r.0) (row ∷ rows) (row ∷ in_order rows) both in
    let others = IsDistinct-IsPermutation same (λ x y. (eq_by_cmp_equiv nat_list_cmp_total).symm x y) (keys_of (row ∷ rows)) (keys_of (row ∷ in_order rows)) keys apart in
    let none = lacks row.0 (in_order rows) (IsDistinct-head same row.0 (keys_of (in_order rows)) others) in
    IsPermutation-trans (row ∷ rows) (row ∷ in_order rows) (in_order (row ∷ rows)) both (moved_put (slice_cmp nat_cmp) row.0 row.1 (in_order rows) none)
