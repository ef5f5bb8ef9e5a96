-- Frequency tables: keys as bytes, each with the number of its occurrences.
use Rattle.std.specs.Prelude.{◌≡◌, ℕ, ◌+◌, ◌<◌, List, if◌then◌else◌, count_by, sum, unwrap_or}
use Rattle.std.specs.List.{All}
use Rattle.std.specs.List.Sorted.{IsStrictlySortedBy, IsPermutation}
use Rattle.std.specs.Map.{keys_of, values_of, lookup}
use Rattle.std.specs.Cmp.Lexicographic.{slice_cmp}
use Rattle.std.specs.Ordering.{nat_cmp, ordering_then}
use Rattle.std.specs.declared.cmp.Ordering.{Ordering}
use Rattle.std.specs.Str.{bytes_eq}

-- a key with its count
abbrev pub Row : Type 0
Row = List ℕ × ℕ

-- the count of a key, 0 where it is not in the table
abbrev pub count_in : List Row → List ℕ → ℕ
count_in table key = unwrap_or (lookup (bytes_eq key) table) 0

-- the sum of all counts
abbrev pub total_of : List Row → ℕ
total_of table = sum (values_of table)

-- how often the list has the key
abbrev pub times : List ℕ → List (List ℕ) → ℕ
times key keys = count_by (bytes_eq key) keys

-- 1 for the same key, 0 for any other
abbrev pub one_if_same : List ℕ → List ℕ → ℕ
one_if_same key other = if bytes_eq key other then 1 else 0

-- a table: its keys ascend by their bytes, so each occurs once, and no count is 0
pub record IsTable (table : List Row) : Type 0 where
  pub ascending : IsStrictlySortedBy (slice_cmp nat_cmp) (keys_of table)
  pub counted : All (λ n. 0 < n) (values_of table)

-- the table of a list of keys: the count of a key is how often the list has it
pub record IsTableOf (keys : List (List ℕ)) (table : List Row) : Type 0 where
  pub is_table : IsTable table
  pub counts : (key : List ℕ) → count_in table key ≡ times key keys

-- one more of the key, and all other counts as they were
pub record CountsOneMore (old new : List Row) (key : List ℕ) : Type 0 where
  pub is_table : IsTable new
  pub counts : (other : List ℕ) → count_in new other ≡ count_in old other + one_if_same other key
  pub total : total_of new ≡ total_of old + 1

-- by count, the greatest first; rows with the same count by the bytes of the key
abbrev pub rank : Row → Row → Ordering
rank row other = ordering_then (nat_cmp other.1 row.1) (slice_cmp nat_cmp row.0 other.0)

-- the rows of a table, each once, in the order of a report
pub record IsRankingOf (table rows : List Row) : Type 0 where
  pub same_rows : IsPermutation table rows
  pub in_order : IsStrictlySortedBy rank rows
