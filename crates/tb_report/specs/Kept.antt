-- The rows of a table, as the code keeps them.
use Rattle.std.specs.Prelude.{◌≡◌, ℕ, ◌+◌, ◌*◌, ◌<◌, ◌≤◌, List, [], ◌∷◌, ◌++◌}
use Rattle.std.specs.Prelude.{String, if◌then◌else◌, length, map, string_bytes}
use denote.Ref.{Bor}
use Rattle.std.specs.BTreeMap.{insert_entry}
use Rattle.std.specs.Cmp.Lexicographic.{slice_cmp}
use Rattle.std.specs.List.{AllByRecursion, sum_by}
use Rattle.std.specs.List.Sorted.{IsStrictlySortedBy}
use Rattle.std.specs.Map.{keys_of, values_of}
use Rattle.std.specs.Ordering.{nat_cmp}
use Rattle.std.specs.Str.{bytes_eq}
use Rattle.std.specs.declared.cmp.Reverse.{Reverse}
use Rattle.tb_report.specs.Tables.{Row, IsTable, total_of, one_if_same}

-- a key that is a `String`, and its count
abbrev pub text_row : {Y : Type 0} → String Y × ℕ → Row
text_row e = (string_bytes e.0, e.1)

-- the entries of a map
abbrev pub rows_of : {Y : Type 0} → List (String Y × ℕ) → List Row
rows_of entries = map text_row entries

-- a row as a pair of the count, in reverse order, and the key
abbrev pub ranked_row : Reverse ℕ × Bor (List ℕ) → Row
ranked_row r = (r.1.now, r.0.0)

-- ---- short keys and long ones

-- n, followed by the bytes as digits to the base 256
abbrev pub number_after : ℕ → List ℕ → ℕ
number_after n [] = n
number_after n (byte ∷ bytes) = number_after (n * 256 + byte) bytes

-- the number of a key; its leading 1 shows how many bytes follow
abbrev pub number_of : List ℕ → ℕ
number_of key = number_after 1 key

-- an entry of the map of short keys: the number of a key, and the key with its count
pub record IsNumbered {Y : Type 0} (e : ℕ × (String Y × ℕ)) : Type 0 where
  pub number : e.0 ≡ number_of (string_bytes e.1.0)
  pub short : length (string_bytes e.1.0) ≤ 15
  pub bytes : AllByRecursion (λ byte. byte < 256) (string_bytes e.1.0)
  pub counted : 0 < e.1.1

-- the map of short keys
pub record AreShort {Y : Type 0} (entries : List (ℕ × (String Y × ℕ))) : Type 0 where
  pub ascending : IsStrictlySortedBy nat_cmp (keys_of entries)
  pub numbered : AllByRecursion IsNumbered entries

-- the map of long keys
pub record AreLong {Y : Type 0} (entries : List (String Y × ℕ)) : Type 0 where
  pub table : IsTable (rows_of entries)
  pub long : AllByRecursion (λ key. 15 < length (string_bytes key)) (keys_of entries)

abbrev pub short_rows : {Y : Type 0} → List (ℕ × (String Y × ℕ)) → List Row
short_rows entries = rows_of (values_of entries)

-- the rows, in the order of their keys
abbrev pub in_order : List Row → List Row
in_order [] = []
in_order (row ∷ rows) = insert_entry (slice_cmp nat_cmp) (in_order rows) row.0 row.1

-- the table that both maps hold together
abbrev pub table_of : {Y Z : Type 0} → List (ℕ × (String Y × ℕ)) → List (String Z × ℕ) → List Row
table_of short long = in_order (short_rows short ++ rows_of long)

-- ---- rows in any order

-- how often the key was counted
abbrev pub counted_in : List Row → List ℕ → ℕ
counted_in rows key = sum_by (λ (row : Row). if bytes_eq key row.0 then row.1 else 0) rows

-- one more of the key, and all other counts as they were
pub record AddsOne (old new : List Row) (key : List ℕ) : Type 0 where
  pub counts : (other : List ℕ) → counted_in new other ≡ counted_in old other + one_if_same other key
  pub total : total_of new ≡ total_of old + 1
