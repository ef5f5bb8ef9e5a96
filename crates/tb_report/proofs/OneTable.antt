-- Laws of tables.
use Rattle.std.proofs.Common.{◌≡◌, ℕ, ◌+◌, ◌<◌, Bool, true, false, cond, not, List, [], ◌∷◌, ◌++◌, length, filter, Option, Some, None, refl, sym, ap, ◌∙◌, subst, arith, sum, unwrap_or}
use Rattle.std.specs.BTreeMap.{is_at}
use Rattle.std.specs.Cmp.Lexicographic.{slice_cmp, nat_list_cmp_total, bytes_decides}
use Rattle.std.specs.List.{All}
use Rattle.std.specs.List.Sorted.{IsPermutation, IsStrictlySortedBy}
use Rattle.std.specs.Map.{keys_of, values_of, lookup}
use Rattle.std.specs.Option.{IfSome}
use Rattle.std.specs.declared.cmp.Ordering.{Ordering}
use Rattle.std.specs.declared.cmp.Ordering.TheVariants.{Less, Equal, Greater}
use Rattle.std.specs.Ordering.{nat_cmp, ordering_reverse}
use Rattle.std.specs.Str.{bytes_eq}
use Rattle.std.proofs.lemmas.Option.{none-some}
use Rattle.std.proofs.lemmas.Cmp.{eq_by_cmp_equiv}
use Rattle.std.proofs.lemmas.List.{get_or-map, length-map}
use Rattle.std.proofs.lemmas.List.Filters.{length-filter_both}
use Rattle.std.proofs.lemmas.List.Sums.{length-filter, sum_by-cons, sum_by-append}
use Rattle.std.proofs.lemmas.List.Sorted.{sum_by-IsPermutation}
use Rattle.std.proofs.lemmas.Map.{lookup-none}
use Rattle.std.proofs.lemmas.Map.Entries.{All-lookup, none_past_head, none_below_head}
use Rattle.std.proofs.lemmas.Map.Keys.{IsDistinct-from_sorted, sorted_tail}
use Rattle.std.proofs.lemmas.Map.Lookups.{exact_bytes}
use Rattle.std.proofs.lemmas.Map.Text.{is_eq-slice_cmp}
use Rattle.tb_report.specs.Tables.{Row, IsTable, IsTableOf, count_in, total_of, times}

-- ---- one table

positive : (o p : Option ℕ) → IfSome o (λ n. 0 < n) → IfSome p (λ n. 0 < n) → unwrap_or o 0 ≡ unwrap_or p 0 → o ≡ p
positive None None h k e = refl
positive None (Some n) h k e = absurd (omega (arith, k, e))
positive (Some m) None h k e = absurd (omega (arith, h, e))
positive (Some m) (Some n) h k e = ap Some e

counted : (t : List Row) → All (λ n. 0 < n) (values_of t) → All (λ (r : Row). 0 < r.1) t
counted t all = λ k d h. subst (λ n. 0 < n) (get_or-map (λ (r : Row). r.1) t k d d.1 h) (all k d.1 (omega (arith, h, length-map t (λ (r : Row). r.1))))

same_test : (q : List ℕ) (t : List Row) → lookup (is_at (slice_cmp nat_cmp q)) t ≡ lookup (bytes_eq q) t
same_test q [] = refl
same_test q (e ∷ t) = λ i. cond (is_eq-slice_cmp q e.0 i) (Some e.1) (same_test q t i)

itself : (k : List ℕ) → bytes_eq k k ≡ true
itself k = (bytes_decides k k).1 refl

found_first : (e : Row) (t : List Row) → lookup (bytes_eq e.0) (e ∷ t) ≡ Some e.1
found_first e t = ap (λ b. cond b (Some e.1) (lookup (bytes_eq e.0) t)) (itself e.0)

-- a key below the first one isn't there
below_first : (q : List ℕ) (e : Row) (t : List Row) → IsStrictlySortedBy (slice_cmp nat_cmp) (keys_of (e ∷ t)) → slice_cmp nat_cmp q e.0 ≡ Less → lookup (bytes_eq q) (e ∷ t) ≡ None
below_first q e t up less = sym (same_test q (e ∷ t)) ∙ lookup-none (is_at (slice_cmp nat_cmp q)) (e ∷ t) (none_below_head nat_list_cmp_total q e t up less)

-- nor is the first key among the others
pub past_first : (q : List ℕ) (e : Row) (t : List Row) → IsStrictlySortedBy (slice_cmp nat_cmp) (keys_of (e ∷ t)) → bytes_eq q e.0 ≡ true → lookup (bytes_eq q) t ≡ None
past_first q e t up same =
    let none = none_past_head (eq_by_cmp_equiv nat_list_cmp_total) q e t (IsDistinct-from_sorted (slice_cmp nat_cmp) (keys_of (e ∷ t)) up) (is_eq-slice_cmp q e.0 ∙ same) in
    sym (same_test q t) ∙ lookup-none (is_at (slice_cmp nat_cmp q)) t none

absent : (n : ℕ) → Some n ≡ None → ⊥
absent n e = none-some n (sym e)

module _ (e f : Row) (t u : List Row) (up : IsStrictlySortedBy (slice_cmp nat_cmp) (keys_of (e ∷ t))) (up' : IsStrictlySortedBy (slice_cmp nat_cmp) (keys_of (f ∷ u)))
    (same : (q : List ℕ) → lookup (bytes_eq q) (e ∷ t) ≡ lookup (bytes_eq q) (f ∷ u)) where
  first_key : (r : Ordering) → slice_cmp nat_cmp e.0 f.0 ≡ r → e.0 ≡ f.0
  first_key Less c = absurd (absent e.1 (sym (found_first e t) ∙ same e.0 ∙ below_first e.0 f u up' c))
  first_key Equal c = exact_bytes e.0 f.0 c
  first_key Greater c = absurd (absent f.1 (sym (found_first f u) ∙ sym (same f.0) ∙ below_first f.0 e t up (nat_list_cmp_total.antisymm f.0 e.0 ∙ ap ordering_reverse c)))

  first_row : e.0 ≡ f.0 → e ≡ f
  first_row k =
      let some : Some e.1 ≡ Some f.1 = sym (found_first e t) ∙ same e.0 ∙ ap (λ q. lookup (bytes_eq q) (f ∷ u)) k ∙ found_first f u in
      λ i. (k i, ap (λ o. unwrap_or o 0) some i)

  others_same : e.0 ≡ f.0 → (q : List ℕ) (b : Bool) → bytes_eq q e.0 ≡ b → lookup (bytes_eq q) t ≡ lookup (bytes_eq q) u
  others_same k q true here = past_first q e t up here ∙ sym (past_first q f u up' (ap (bytes_eq q) (sym k) ∙ here))
  others_same k q false other =
      sym (ap (λ b. cond b (Some e.1) (lookup (bytes_eq q) t)) other) ∙ same q ∙ ap (λ b. cond b (Some f.1) (lookup (bytes_eq q) u)) (ap (bytes_eq q) (sym k) ∙ other)

same_rows : (t u : List Row) → IsStrictlySortedBy (slice_cmp nat_cmp) (keys_of t) → IsStrictlySortedBy (slice_cmp nat_cmp) (keys_of u)
    → ((q : List ℕ) → lookup (bytes_eq q) t ≡ lookup (bytes_eq q) u) → t ≡ u
same_rows [] [] up up' same = refl
same_rows [] (f ∷ u) up up' same = absurd (none-some f.1 (same f.0 ∙ found_first f u))
same_rows (e ∷ t) [] up up' same = absurd (absent e.1 (sym (found_first e t) ∙ same e.0))
same_rows (e ∷ t) (f ∷ u) up up' same =
    let key : e.0 ≡ f.0 = first_key e f t u up up' same (slice_cmp nat_cmp e.0 f.0) refl in
    let first : e ≡ f = first_row e f t u up up' same key in
    let rest : t ≡ u = same_rows t u (sorted_tail (slice_cmp nat_cmp) e.0 (keys_of t) up) (sorted_tail (slice_cmp nat_cmp) f.0 (keys_of u) up')
    (λ q. others_same e f t u up up' same key q (bytes_eq q e.0) refl) in
    λ i. first i ∷ rest i

pub one_table : (keys : List (List ℕ)) (t u : List Row) → IsTableOf keys t → IsTableOf keys u → t ≡ u
one_table keys t u a b =
    let found : (v : List Row) → IsTable v → (q : List ℕ) → IfSome (lookup (bytes_eq q) v) (λ n. 0 < n) = λ v is q. All-lookup (λ n. 0 < n) (bytes_eq q) v (counted v is.counted) in
    same_rows t u a.is_table.ascending b.is_table.ascending
    (λ q. positive (lookup (bytes_eq q) t) (lookup (bytes_eq q) u) (found t a.is_table q) (found u b.is_table q) (a.counts q ∙ sym (b.counts q)))

-- ---- sums

pub moved_keys : (keys moved : List (List ℕ)) (t : List Row) → IsPermutation keys moved → IsTableOf keys t → IsTableOf moved t
moved_keys keys moved t p a = record {
  is_table = a.is_table;
  counts = λ key. a.counts key ∙ sym (sum_by-IsPermutation (λ k. cond (bytes_eq key k) 1 0) keys moved p);
}

pub added_tables : (keys more : List (List ℕ)) (t u both : List Row) → IsTableOf keys t → IsTableOf more u → IsTableOf (keys ++ more) both
    → (key : List ℕ) → count_in both key ≡ count_in t key + count_in u key
added_tables keys more t u both a b c key =
    c.counts key ∙ sum_by-append (λ k. cond (bytes_eq key k) 1 0) keys more ∙ λ i. sym (a.counts key) i + sym (b.counts key) i

-- ---- the sum of all counts

module _ (q k x : List ℕ) (xs : List (List ℕ)) where
  skips : bytes_eq q k ≡ false → times q (filter (λ y. not (bytes_eq k y)) xs) ≡ times q xs → (b : Bool) → bytes_eq k x ≡ b
      → times q (filter (λ y. not (bytes_eq k y)) (x ∷ xs)) ≡ times q (x ∷ xs)
  skips apart rest true same =
      let no : bytes_eq q x ≡ false = sym (ap (bytes_eq q) ((bytes_decides k x).0 same)) ∙ apart in
      let head : times q (x ∷ xs) ≡ cond (bytes_eq q x) 1 0 + times q xs = sum_by-cons (λ y. cond (bytes_eq q y) 1 0) x xs in
      let gone : cond (bytes_eq q x) 1 0 + times q xs ≡ times q xs = rw no (omega arith) in
      let kept : times q (filter (λ y. not (bytes_eq k y)) (x ∷ xs)) ≡ times q (filter (λ y. not (bytes_eq k y)) xs) =
      ap (λ b. times q (cond (not b) (x ∷ filter (λ y. not (bytes_eq k y)) xs) (filter (λ y. not (bytes_eq k y)) xs))) same in
      kept ∙ rest ∙ sym (head ∙ gone)
  skips apart rest false differs =
      let kept : times q (filter (λ y. not (bytes_eq k y)) (x ∷ xs)) ≡ times q (x ∷ filter (λ y. not (bytes_eq k y)) xs) =
      ap (λ b. times q (cond (not b) (x ∷ filter (λ y. not (bytes_eq k y)) xs) (filter (λ y. not (bytes_eq k y)) xs))) differs in
      kept ∙ sum_by-cons (λ y. cond (bytes_eq q y) 1 0) x (filter (λ y. not (bytes_eq k y)) xs) ∙ ap (λ n. cond (bytes_eq q x) 1 0 + n) rest
      ∙ sym (sum_by-cons (λ y. cond (bytes_eq q y) 1 0) x xs)

module _ (k x : List ℕ) (xs : List (List ℕ)) where
  drops : times k (filter (λ y. not (bytes_eq k y)) xs) ≡ 0 → (b : Bool) → bytes_eq k x ≡ b → times k (filter (λ y. not (bytes_eq k y)) (x ∷ xs)) ≡ 0
  drops rest true same =
      ap (λ b. times k (cond (not b) (x ∷ filter (λ y. not (bytes_eq k y)) xs) (filter (λ y. not (bytes_eq k y)) xs))) same ∙ rest
  drops rest false differs =
      let head : times k (x ∷ filter (λ y. not (bytes_eq k y)) xs) ≡ 0 =
      sum_by-cons (λ y. cond (bytes_eq k y) 1 0) x (filter (λ y. not (bytes_eq k y)) xs) ∙ λ i. cond (differs i) 1 0 + rest i in
      ap (λ b. times k (cond (not b) (x ∷ filter (λ y. not (bytes_eq k y)) xs) (filter (λ y. not (bytes_eq k y)) xs))) differs ∙ head

times_without : (q k : List ℕ) (keys : List (List ℕ)) → bytes_eq q k ≡ false → times q (filter (λ x. not (bytes_eq k x)) keys) ≡ times q keys
times_without q k [] apart = refl
times_without q k (x ∷ xs) apart = skips q k x xs apart (times_without q k xs apart) (bytes_eq k x) refl

times_gone : (k : List ℕ) (keys : List (List ℕ)) → times k (filter (λ x. not (bytes_eq k x)) keys) ≡ 0
times_gone k [] = refl
times_gone k (x ∷ xs) = drops k x xs (times_gone k xs) (bytes_eq k x) refl

-- the rows below the first one are the table of the other keys
module _ (e : Row) (t : List Row) (keys : List (List ℕ)) (up : IsStrictlySortedBy (slice_cmp nat_cmp) (keys_of (e ∷ t))) (counts : (q : List ℕ) → count_in (e ∷ t) q ≡ times q keys) where
  first_count : e.1 ≡ times e.0 keys
  first_count = sym (ap (λ b. unwrap_or (cond b (Some e.1) (lookup (bytes_eq e.0) t)) 0) (itself e.0)) ∙ counts e.0

  other_counts : (q : List ℕ) (b : Bool) → bytes_eq q e.0 ≡ b → count_in t q ≡ times q (filter (λ x. not (bytes_eq e.0 x)) keys)
  other_counts q true same =
      let here : q ≡ e.0 = (bytes_decides q e.0).0 same in
      ap (λ o. unwrap_or o 0) (past_first q e t up same) ∙ sym (times_gone e.0 keys) ∙ ap (λ k. times k (filter (λ x. not (bytes_eq e.0 x)) keys)) (sym here)
  other_counts q false differs =
      sym (ap (λ b. unwrap_or (cond b (Some e.1) (lookup (bytes_eq q) t)) 0) differs) ∙ counts q ∙ sym (times_without q e.0 keys differs)

pub total_length : (t : List Row) (keys : List (List ℕ)) → IsStrictlySortedBy (slice_cmp nat_cmp) (keys_of t) → ((q : List ℕ) → count_in t q ≡ times q keys) → sum (values_of t) ≡ length keys
total_length [] [] up counts = refl
total_length [] (k ∷ ks) up counts =
    let some : times k (k ∷ ks) ≡ 1 + times k ks = sum_by-cons (λ x. cond (bytes_eq k x) 1 0) k ks ∙ ap (λ b. cond b 1 0 + times k ks) (itself k) in
    let none : 0 ≡ times k (k ∷ ks) = counts k in
    absurd (omega (arith, some, none))
total_length (e ∷ t) keys up counts =
    let others : List (List ℕ) = filter (λ x. not (bytes_eq e.0 x)) keys in
    let rest : sum (values_of t) ≡ length others = total_length t others (sorted_tail (slice_cmp nat_cmp) e.0 (keys_of t) up) (λ q. other_counts e t keys up counts q (bytes_eq q e.0) refl) in
    let all : length (filter (bytes_eq e.0) keys) + length others ≡ length keys = length-filter_both (bytes_eq e.0) (λ x. not (bytes_eq e.0 x)) (λ x. refl) keys in
    let here : length (filter (bytes_eq e.0) keys) ≡ times e.0 keys = length-filter (bytes_eq e.0) keys in
    let first : e.1 ≡ times e.0 keys = first_count e t keys up counts in
    sum_by-cons (λ x. x) e.1 (values_of t) ∙ (λ i. first i + rest i) ∙ ap (λ n. n + length others) (sym here) ∙ all

pub table_total : (keys : List (List ℕ)) (t : List Row) → IsTableOf keys t → total_of t ≡ length keys
table_total keys t a = total_length t keys a.is_table.ascending a.counts
