-- One more of a key in a map.
use Rattle.std.proofs.Common.{◌≡◌, ℕ, ◌+◌, ◌<◌, ◌≤◌, Bool, true, false, cond, List, [], ◌∷◌, ◌++◌, String, BTreeMap, Some, None, IsSome, refl, sym, ap, ◌∙◌, subst, arith, string_bytes, unwrap_or, sum}
use Rattle.std.specs.BTreeMap.{is_at, get_by_text, IsOrdered, UpdatesBy, WritesThrough, insert_entry}
use Rattle.std.specs.Cmp.Lexicographic.{slice_cmp, bytes_decides, nat_list_eq_equiv}
use Rattle.std.specs.List.{All}
use Rattle.std.specs.Map.{values_of, lookup}
use Rattle.std.specs.Ordering.{nat_cmp}
use Rattle.std.specs.Str.{bytes_eq}
use Rattle.std.specs.String.{string_cmp, string_cmp_total}
use Rattle.std.proofs.lemmas.List.Sums.{sum_by_push}
use Rattle.std.proofs.lemmas.Map.Entries.{sum_by-set_value, sum_by-insert_entry}
use Rattle.std.proofs.lemmas.Map.Steps.{lookup-le-sum}
use Rattle.std.proofs.lemmas.Map.Text.{btree_map_updates_text}
use Rattle.std.proofs.lemmas.Map.Views.{All-values-set_value, All-values-insert_entry}
use Rattle.tb_report.specs.Tables.{Row, IsTable, IsTableOf, CountsOneMore, count_in, total_of, one_if_same}
use Rattle.tb_report.specs.Kept.{rows_of}
use Rattle.tb_report.proofs.Rows.{lookup_rows, values_rows, ascending_rows}

module _ {Y : Type 0} (m n : BTreeMap (String Y) ℕ) (key : List ℕ) where
  -- the count at any bytes, once the key's count is one more
  one_more_at : (v : ℕ) → unwrap_or (get_by_text m key) 0 ≡ v → (other : List ℕ) (b : Bool) → bytes_eq key other ≡ b
      → unwrap_or (cond (bytes_eq key other) (Some (v + 1)) (get_by_text m other)) 0 ≡ unwrap_or (get_by_text m other) 0 + one_if_same other key
  one_more_at v had other true same = rw (nat_list_eq_equiv.symm other key, same) (ap (λ w. w + 1) (sym had ∙ ap (λ bs. unwrap_or (get_by_text m bs) 0) ((bytes_decides key other).0 same)))
  one_more_at v had other false differs = rw (nat_list_eq_equiv.symm other key, differs) (omega arith)

  counts_at : (v : ℕ) → unwrap_or (get_by_text m key) 0 ≡ v → UpdatesBy string_cmp (λ k. slice_cmp nat_cmp key (string_bytes k)) m n (Some (v + 1))
      → (other : List ℕ) → count_in (rows_of n.entries) other ≡ count_in (rows_of m.entries) other + one_if_same other key
  counts_at v had sets other =
      ap (λ o. unwrap_or o 0) (lookup_rows other n.entries ∙ btree_map_updates_text key m n (Some (v + 1)) sets other)
      ∙ one_more_at v had other (bytes_eq key other) refl
      ∙ ap (λ o. unwrap_or o 0 + one_if_same other key) (sym (lookup_rows other m.entries))

  total_at : (v : ℕ) → sum (values_of n.entries) ≡ sum (values_of m.entries) + 1 → total_of (rows_of n.entries) ≡ total_of (rows_of m.entries) + 1
  total_at v e = ap sum (values_rows n.entries) ∙ e ∙ ap (λ vs. sum vs + 1) (sym (values_rows m.entries))

  pub counted_again : (v : ℕ) → IsTable (rows_of m.entries) → Some v ≡ get_by_text m key
      → WritesThrough string_cmp (λ k. slice_cmp nat_cmp key (string_bytes k)) m (v + 1) n → CountsOneMore (rows_of m.entries) (rows_of n.entries) key
  counted_again v t found wrote =
      let old : All (λ x. 0 < x) (values_of m.entries) = subst (All (λ x. 0 < x)) (values_rows m.entries) t.counted in
      let new : All (λ x. 0 < x) (values_of n.entries) = rw wrote.0 (All-values-set_value (is_at (λ k. slice_cmp nat_cmp key (string_bytes k))) (λ x. 0 < x) m.entries (v + 1) old (omega arith)) in
      let s = sum_by-set_value (λ x. x) (is_at (λ k. slice_cmp nat_cmp key (string_bytes k))) m.entries v (v + 1) (sym found) in
      let e : sum (values_of n.entries) ≡ sum (values_of m.entries) + 1 = rw wrote.0 (omega (arith, s)) in
      record {
        is_table = record { ascending = ascending_rows n.entries wrote.4; counted = subst (All (λ x. 0 < x)) (sym (values_rows n.entries)) new };
        counts = counts_at v (ap (λ o. unwrap_or o 0) (sym found)) (wrote.3 (subst IsSome found refl));
        total = total_at v e;
      }

  pub counted_first : IsTable (rows_of m.entries) → (k : String Y) → string_bytes k ≡ key → get_by_text m key ≡ None
      → n.entries ≡ insert_entry string_cmp m.entries k 1 → UpdatesBy string_cmp (λ q. slice_cmp nat_cmp key (string_bytes q)) m n (Some 1)
      → IsOrdered string_cmp m → IsOrdered string_cmp n → CountsOneMore (rows_of m.entries) (rows_of n.entries) key
  counted_first t k text absent put sets up up' =
      let old : All (λ x. 0 < x) (values_of m.entries) = subst (All (λ x. 0 < x)) (values_rows m.entries) t.counted in
      let new : All (λ x. 0 < x) (values_of n.entries) = rw put (All-values-insert_entry string_cmp k 1 (λ x. 0 < x) m.entries old (omega arith)) in
      let none : lookup (is_at (string_cmp k)) m.entries ≡ None = subst (λ bs. lookup (is_at (λ q. slice_cmp nat_cmp bs (string_bytes q))) m.entries ≡ None) (sym text) absent in
      let s = sum_by-insert_entry (λ x. x) string_cmp_total m.entries k 1 up in
      let e : sum (values_of n.entries) ≡ sum (values_of m.entries) + 1 = let s2 = rw none at s in rw put (omega (arith, s2)) in
      record {
        is_table = record { ascending = ascending_rows n.entries up'; counted = subst (All (λ x. 0 < x)) (sym (values_rows n.entries)) new };
        counts = counts_at 0 (ap (λ o. unwrap_or o 0) absent) sets;
        total = total_at 0 e;
      }

-- a count is at most the sum of all
pub below_total : {Y : Type 0} (m : BTreeMap (String Y) ℕ) (key : List ℕ) (v : ℕ) → Some v ≡ get_by_text m key → v ≤ total_of (rows_of m.entries)
below_total m key v found =
    let all : v ≤ sum (values_of m.entries) = subst (λ o. unwrap_or o 0 ≤ sum (values_of m.entries)) (sym found) (lookup-le-sum (is_at (λ k. slice_cmp nat_cmp key (string_bytes k))) m.entries) in
    rw (values_rows m.entries) all

-- a key that the map lacks isn't counted
pub not_counted : {Y : Type 0} (m : BTreeMap (String Y) ℕ) (key : List ℕ) → get_by_text m key ≡ None → count_in (rows_of m.entries) key ≡ 0
not_counted m key absent = ap (λ o. unwrap_or o 0) (lookup_rows key m.entries ∙ absent)

-- the table of keys becomes that of the keys and one more
pub table_of_more : (old new : List Row) (key : List ℕ) (keys : List (List ℕ)) → CountsOneMore old new key → IsTableOf keys old → IsTableOf (keys ++ key ∷ []) new
table_of_more old new key keys more was = record {
  is_table = more.is_table;
  counts = λ other. more.counts other ∙ ap (λ n. n + one_if_same other key) (was.counts other) ∙ sym (sum_by_push (λ k. cond (bytes_eq other k) 1 0) keys key);
}
