-- The rows of a table, sorted, are its ranking.
use Rattle.std.proofs.Common.{◌≡◌, ℕ, ◌+◌, ◌<◌, false, List, [], map, length, get_or, refl, sym, ap, ◌∙◌, arith, true≢false}
use denote.Ref.{Bor}
use Rattle.std.specs.declared.cmp.Reverse.{Reverse}
use Rattle.std.specs.declared.cmp.Ordering.{Ordering}
use Rattle.std.specs.declared.cmp.Ordering.TheVariants.{Less, Equal, Greater}
use Rattle.std.specs.Cmp.{IsTotalOrder, then_total, on_total, back_total, nat_cmp_total}
use Rattle.std.specs.Cmp.Lexicographic.{slice_cmp, nat_list_cmp_total}
use Rattle.std.specs.List.{IsDistinct}
use Rattle.std.specs.List.Sorted.{IsPermutation, IsSorted}
use Rattle.std.specs.Map.{keys_of, values_of}
use Rattle.std.specs.Ordering.{nat_cmp, is_lt, is_eq, eq_by_cmp, ordering_then, ordering_reverse}
use Rattle.std.proofs.lemmas.Cmp.{eq_by_cmp_equiv}
use Rattle.std.proofs.lemmas.List.{get_or-map, length-map}
use Rattle.std.proofs.lemmas.List.Sorted.{IsPermutation-map, IsPermutation-sym, IsPermutation-trans, sum_by-IsPermutation}
use Rattle.std.proofs.lemmas.Map.Keys.{IsDistinct-from_sorted, IsDistinct-IsPermutation, apart_from_distinct, sorted_from_all_adjacent}
use Rattle.tb_report.specs.Tables.{Row, IsTable, IsRankingOf, rank, total_of}
use Rattle.tb_report.specs.Kept.{ranked_row}

pub rank_total : IsTotalOrder rank
rank_total = then_total (on_total (λ (r : Row). r.1) (back_total nat_cmp_total)) (on_total (λ (r : Row). r.0) nat_list_cmp_total)

pub equal_after : (r s : Ordering) → ordering_then r s ≡ Equal → s ≡ Equal
equal_after Less s e = absurd (true≢false (ap is_lt e))
equal_after Equal s e = e
equal_after Greater s e = absurd (true≢false (ap (λ o. is_lt (ordering_reverse o)) e))

-- rows of two keys stand in one order alone
in_order_by : (a b : Row) (r : Ordering) → rank a b ≡ r → eq_by_cmp (slice_cmp nat_cmp) a.0 b.0 ≡ false → is_lt (rank b a) ≡ false → rank a b ≡ Less
in_order_by a b Less e apart up = e
in_order_by a b Equal e apart up = absurd (true≢false (sym (ap is_eq (equal_after (nat_cmp b.1 a.1) (slice_cmp nat_cmp a.0 b.0) e)) ∙ apart))
in_order_by a b Greater e apart up = absurd (true≢false (sym (ap is_lt (rank_total.antisymm b a ∙ ap ordering_reverse e)) ∙ up))

no_rank : Reverse ℕ × Bor (List ℕ)
no_rank = (record { 0 = 0 }, record { ref_ptr = (0, 0); now = [] })

distinct_keys : (table rows : List Row) → IsTable table → IsPermutation table rows → IsDistinct (eq_by_cmp (slice_cmp nat_cmp)) (keys_of rows)
distinct_keys table rows t moved =
    IsDistinct-IsPermutation (eq_by_cmp (slice_cmp nat_cmp)) (λ x y. (eq_by_cmp_equiv nat_list_cmp_total).symm x y) (keys_of table) (keys_of rows)
    (IsPermutation-map (λ (r : Row). r.0) table rows moved) (IsDistinct-from_sorted (slice_cmp nat_cmp) (keys_of table) t.ascending)

-- neighbours stand in order
adjacent : (table : List Row) (ys : List (Reverse ℕ × Bor (List ℕ))) → IsTable table → IsPermutation table (map ranked_row ys)
    → IsSorted (λ x y. rank (ranked_row x) (ranked_row y)) ys → (d : Reverse ℕ × Bor (List ℕ)) (k : ℕ) → k + 1 < length (map ranked_row ys)
    → rank (get_or (map ranked_row ys) k (ranked_row d)) (get_or (map ranked_row ys) (k + 1) (ranked_row d)) ≡ Less
adjacent table ys t moved up d k inside =
    let rows : List Row = map ranked_row ys in
    let long : length rows ≡ length ys = length-map ys ranked_row in
    let a : get_or rows k (ranked_row d) ≡ ranked_row (get_or ys k d) = get_or-map ranked_row ys k d (ranked_row d) (omega (arith, long)) in
    let b : get_or rows (k + 1) (ranked_row d) ≡ ranked_row (get_or ys (k + 1) d) = get_or-map ranked_row ys (k + 1) d (ranked_row d) (omega (arith, long)) in
    let wide : length (keys_of rows) ≡ length rows = length-map rows (λ (r : Row). r.0) in
    let here : get_or (keys_of rows) k d.1.now ≡ (get_or rows k (ranked_row d)).0 = get_or-map (λ (r : Row). r.0) rows k (ranked_row d) d.1.now (omega arith) in
    let next : get_or (keys_of rows) (k + 1) d.1.now ≡ (get_or rows (k + 1) (ranked_row d)).0 = get_or-map (λ (r : Row). r.0) rows (k + 1) (ranked_row d) d.1.now inside in
    let apart = apart_from_distinct (eq_by_cmp (slice_cmp nat_cmp)) (keys_of rows) k (k + 1) d.1.now (distinct_keys table rows t moved) (omega arith) (omega (arith, wide)) in
    let sorted : is_lt (rank (ranked_row (get_or ys (k + 1) d)) (ranked_row (get_or ys k d))) ≡ false = up k d (omega arith) (omega (arith, long)) in
    let p : Row = get_or rows k (ranked_row d) in
    let q : Row = get_or rows (k + 1) (ranked_row d) in
    in_order_by p q (rank p q) refl (sym (λ i. eq_by_cmp (slice_cmp nat_cmp) (here i) (next i)) ∙ apart) ((λ i. is_lt (rank (b i) (a i))) ∙ sorted)

pub ranking_from_sorted : (table : List Row) (xs ys : List (Reverse ℕ × Bor (List ℕ))) → IsTable table → IsPermutation (map ranked_row xs) table → IsPermutation xs ys
    → IsSorted (λ x y. rank (ranked_row x) (ranked_row y)) ys → IsRankingOf table (map ranked_row ys)
ranking_from_sorted table xs ys t same moved up =
    let all : IsPermutation table (map ranked_row ys) =
    IsPermutation-trans table (map ranked_row xs) (map ranked_row ys) (IsPermutation-sym (map ranked_row xs) table same) (IsPermutation-map ranked_row xs ys moved) in
    record {
      same_rows = all;
      in_order = sorted_from_all_adjacent rank_total (map ranked_row ys) (ranked_row no_rank) (adjacent table ys t all up no_rank);
    }

-- the counts of a ranking sum to those of its table
pub same_total : (table rows : List Row) → IsRankingOf table rows → total_of rows ≡ total_of table
same_total table rows r = sum_by-IsPermutation (λ x. x) (values_of table) (values_of rows) (IsPermutation-map (λ (row : Row). row.1) table rows r.same_rows)
