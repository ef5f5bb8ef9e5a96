-- The table of the short keys and the long ones.
use Rattle.std.proofs.Common.{◌≡◌, ℕ, ◌+◌, ◌<◌, ◌≤◌, Bool, true, false, cond, List, [], ◌∷◌, ◌++◌, String, Some, length, string_bytes, unwrap_or, sum, refl, sym, ap, ◌∙◌, subst, arith}
use Rattle.std.specs.BTreeMap.{insert_entry}
use Rattle.std.specs.Cmp.Lexicographic.{slice_cmp}
use Rattle.std.specs.List.{All, AllByRecursion}
use Rattle.std.specs.List.Sorted.{IsPermutation, IsStrictlySortedBy}
use Rattle.std.specs.Map.{keys_of, values_of, lookup}
use Rattle.std.specs.Ordering.{nat_cmp, eq_by_cmp}
use Rattle.std.specs.Str.{bytes_eq}
use Rattle.std.specs.String.{string_cmp}
use Rattle.std.proofs.lemmas.List.{map-append}
use Rattle.std.proofs.lemmas.List.Elements.{All-cons}
use Rattle.std.proofs.lemmas.List.Sorted.{IsPermutation-map, sum_by-IsPermutation}
use Rattle.std.proofs.lemmas.List.Sums.{sum_by-append, sum_by-cons}
use Rattle.std.proofs.lemmas.Map.Keys.{IsDistinct-from_sorted, sorted_tail}
use Rattle.std.proofs.lemmas.Map.Text.{is_eq-slice_cmp}
use Rattle.std.proofs.lemmas.Map.Views.{All-map-IsPermutation}
use Rattle.tb_report.specs.Kept.{AddsOne, AreLong, AreShort, IsNumbered, counted_in, rows_of, short_rows, table_of}
use Rattle.tb_report.specs.Tables.{Row, CountsOneMore, IsTable, count_in, one_if_same, total_of}
use Rattle.tb_report.proofs.OneTable.{past_first}
use Rattle.tb_report.proofs.Placed.{keys_put, moved_rows, sorted_rows}
use Rattle.tb_report.proofs.Shorts.{apart, keys_apart}

-- ---- rows where no key stands twice

count_step : (q : List ℕ) (row : Row) (rows : List Row) → IsStrictlySortedBy (slice_cmp nat_cmp) (keys_of (row ∷ rows)) → (b : Bool) → bytes_eq q row.0 ≡ b
    → counted_in rows q ≡ count_in rows q → cond b row.1 0 + counted_in rows q ≡ unwrap_or (cond b (Some row.1) (lookup (bytes_eq q) rows)) 0
count_step q row rows up true same rest =
    let none : count_in rows q ≡ 0 = ap (λ o. unwrap_or o 0) (past_first q row rows up same) in
    omega (arith, rest, none)
count_step q row rows up false same rest = omega (arith, rest)

pub same_count : (q : List ℕ) (rows : List Row) → IsStrictlySortedBy (slice_cmp nat_cmp) (keys_of rows) → counted_in rows q ≡ count_in rows q
same_count q [] up = refl
same_count q (row ∷ rows) up =
    sum_by-cons (λ (r : Row). cond (bytes_eq q r.0) r.1 0) row rows
    ∙ count_step q row rows up (bytes_eq q row.0) refl (same_count q rows (sorted_tail (slice_cmp nat_cmp) row.0 (keys_of rows) up))

none_counted : (q : List ℕ) (rows : List Row) → AllByRecursion (λ other. eq_by_cmp (slice_cmp nat_cmp) q other ≡ false) (keys_of rows) → counted_in rows q ≡ 0
none_counted q [] all = refl
none_counted q (row ∷ rows) all =
    let rest = none_counted q rows all.1 in
    let test : bytes_eq q row.0 ≡ false = sym (is_eq-slice_cmp q row.0) ∙ all.0 in
    let here : cond (bytes_eq q row.0) row.1 0 ≡ 0 = ap (λ b. cond b row.1 0) test in
    let both = sum_by-cons (λ (r : Row). cond (bytes_eq q r.0) r.1 0) row rows in
    omega (arith, rest, here, both)

-- ---- keys of other lengths

longer : {Z : Type 0} (key : List ℕ) → length key ≤ 15 → (es : List (String Z × ℕ)) → AllByRecursion (λ k. 15 < length (string_bytes k)) (keys_of es)
    → AllByRecursion (λ other. eq_by_cmp (slice_cmp nat_cmp) key other ≡ false) (keys_of (rows_of es))
longer key short [] all = tt
longer key short (e ∷ es) all =
    let long = all.0 in
    (apart key (string_bytes e.0) (λ same. let l = ap length same in omega (arith, l, long, short)), longer key short es all.1)

shorter : {Y : Type 0} (key : List ℕ) → 15 < length key → (es : List (ℕ × (String Y × ℕ))) → AllByRecursion IsNumbered es
    → AllByRecursion (λ other. eq_by_cmp (slice_cmp nat_cmp) key other ≡ false) (keys_of (short_rows es))
shorter key long [] all = tt
shorter key long (e ∷ es) all =
    let short = all.0.short in
    (apart key (string_bytes e.1.0) (λ same. let l = ap length same in omega (arith, l, long, short)), shorter key long es all.1)

all_counted : {Y : Type 0} (es : List (ℕ × (String Y × ℕ))) (rows : List Row) → AllByRecursion IsNumbered es → All (λ n. 0 < n) (values_of rows) → All (λ n. 0 < n) (values_of (short_rows es ++ rows))
all_counted [] rows all rest = rest
all_counted (e ∷ es) rows all rest = All-cons (λ n. 0 < n) e.1.1 (values_of (short_rows es ++ rows)) all.0.counted (all_counted es rows all.1 rest)

-- ---- both maps

module _ {Y Z : Type 0} (short : List (ℕ × (String Y × ℕ))) (long : List (String Z × ℕ)) (s : AreShort short) (l : AreLong long) where
  pub moved : IsPermutation (short_rows short ++ rows_of long) (table_of short long)
  moved = moved_rows (short_rows short ++ rows_of long)
      (keys_apart (rows_of long) short s.ascending s.numbered (λ key few. longer key few long l.long) (IsDistinct-from_sorted (slice_cmp nat_cmp) (keys_of (rows_of long)) l.table.ascending))

  pub is_table : IsTable (table_of short long)
  is_table = record {
    ascending = sorted_rows (short_rows short ++ rows_of long);
    counted = All-map-IsPermutation (λ (row : Row). row.1) (λ n. 0 < n) (short_rows short ++ rows_of long) (table_of short long) moved (all_counted short (rows_of long) s.numbered l.table.counted);
  }

  pub counts_of_both : (q : List ℕ) → count_in (table_of short long) q ≡ counted_in (short_rows short) q + counted_in (rows_of long) q
  counts_of_both q =
      sym (same_count q (table_of short long) (sorted_rows (short_rows short ++ rows_of long)))
      ∙ sum_by-IsPermutation (λ (r : Row). cond (bytes_eq q r.0) r.1 0) (short_rows short ++ rows_of long) (table_of short long) moved
      ∙ sum_by-append (λ (r : Row). cond (bytes_eq q r.0) r.1 0) (short_rows short) (rows_of long)

  pub total_of_both : total_of (table_of short long) ≡ total_of (short_rows short) + total_of (rows_of long)
  total_of_both =
      sum_by-IsPermutation (λ x. x) (values_of (short_rows short ++ rows_of long)) (values_of (table_of short long)) (IsPermutation-map (λ (r : Row). r.1) (short_rows short ++ rows_of long) (table_of short long) moved)
      ∙ ap sum (map-append (λ (r : Row). r.1) (short_rows short) (rows_of long))
      ∙ sum_by-append (λ x. x) (values_of (short_rows short)) (values_of (rows_of long))

  pub counted_short : (key : List ℕ) → length key ≤ 15 → count_in (table_of short long) key ≡ counted_in (short_rows short) key
  counted_short key few =
      let none = none_counted key (rows_of long) (longer key few long l.long) in
      let both = counts_of_both key in
      omega (arith, none, both)

  pub counted_long : (key : List ℕ) → 15 < length key → count_in (table_of short long) key ≡ counted_in (rows_of long) key
  counted_long key many =
      let none = none_counted key (short_rows short) (shorter key many short s.numbered) in
      let both = counts_of_both key in
      omega (arith, none, both)

module _ {Y Z : Type 0} (short more : List (ℕ × (String Y × ℕ))) (long : List (String Z × ℕ)) (key : List ℕ) (s : AreShort short) (t : AreShort more) (l : AreLong long) where
  pub short_once_more : AddsOne (short_rows short) (short_rows more) key → CountsOneMore (table_of short long) (table_of more long) key
  short_once_more adds = record {
    is_table = is_table more long t l;
    counts = λ other.
        let old = counts_of_both short long s l other in
        let new = counts_of_both more long t l other in
        let one = adds.counts other in
        omega (arith, old, new, one);
    total =
        let old = total_of_both short long s l in
        let new = total_of_both more long t l in
        let one = adds.total in
        omega (arith, old, new, one);
  }

module _ {Y Z : Type 0} (short : List (ℕ × (String Y × ℕ))) (long more : List (String Z × ℕ)) (key : List ℕ) (s : AreShort short) (l : AreLong long) (m : AreLong more) where
  pub long_once_more : AddsOne (rows_of long) (rows_of more) key → CountsOneMore (table_of short long) (table_of short more) key
  long_once_more adds = record {
    is_table = is_table short more s m;
    counts = λ other.
        let old = counts_of_both short long s l other in
        let new = counts_of_both short more s m other in
        let one = adds.counts other in
        omega (arith, old, new, one);
    total =
        let old = total_of_both short long s l in
        let new = total_of_both short more s m in
        let one = adds.total in
        omega (arith, old, new, one);
  }

-- a table that counts a key once more
pub adds_one : (old new : List Row) (key : List ℕ) → IsTable old → CountsOneMore old new key → AddsOne old new key
adds_one old new key was more = record {
  counts = λ other. same_count other new more.is_table.ascending ∙ more.counts other ∙ ap (λ n. n + one_if_same other key) (sym (same_count other old was.ascending));
  total = more.total;
}

-- one more long key
pub long_with : {Z : Type 0} (es fs : List (String Z × ℕ)) (key : String Z) (n : ℕ) → fs ≡ insert_entry string_cmp es key n → AllByRecursion (λ k. 15 < length (string_bytes k)) (keys_of es)
    → IsTable (rows_of fs) → 15 < length (string_bytes key) → AreLong fs
long_with es fs key n put all table long = record {
  table = table;
  long = subst (λ l. AllByRecursion (λ k. 15 < length (string_bytes k)) (keys_of l)) (sym put) (keys_put string_cmp key n (λ k. 15 < length (string_bytes k)) es all long);
}
