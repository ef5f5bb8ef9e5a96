-- Inner: no contract beyond this crate cites a definition of this module.
-- Rows of bits, kept in words of 64 bits, and tables of such rows. The bit of place j is bit j % 64 of word j / 64 of
-- its row.
use Rattle.std.specs.Prelude.{◌≡◌, ℕ, zero, suc, ◌+◌, ◌*◌, ◌/◌, ◌%◌, ◌<◌, ◌≤◌, List, slice_index}
use Rattle.std.specs.Int.{bit_at}
use Rattle.tb_match.specs.Match.{Chain}

-- place j is in the row that begins at word `from`
unfoldable pub InRow : List ℕ → ℕ → ℕ → Type 0
InRow cells from j = bit_at (slice_index cells (from + j / 64)) (j % 64) ≡ 1

-- row i of a table whose rows have w words has place j
abbrev pub InTable : List ℕ → ℕ → ℕ → ℕ → Type 0
InTable cells w i j = InRow cells (i * w) j

-- a link leads from row i of `links` on to a place below `below`, whose row of `table` has place j
abbrev pub Through : List ℕ → List ℕ → ℕ → ℕ → ℕ → ℕ → Type 0
Through links table w i below j = (k : ℕ) × (i ≤ k) × (k < below) × InTable links w i k × InTable table w k j

-- a link of the table from i that leads forward or stays, up to the last place
abbrev pub Link : List ℕ → ℕ → ℕ → ℕ → ℕ → Type 0
Link cells w last i j = (i ≤ j) × (j ≤ last) × InTable cells w i j

-- where a link leads from row i on, the steps after are more than those before
abbrev pub IsCounted : List ℕ → ℕ → ℕ → ℕ → ℕ → ℕ → Type 0
IsCounted cells w last i before after = (j : ℕ) → Link cells w last i j → before < after

-- a link of the table that leads strictly forward
abbrev pub Forward : List ℕ → ℕ → ℕ → ℕ → ℕ → Type 0
Forward cells w last i j = (i < j) × (j ≤ last) × InTable cells w i j

-- each link of the table leads forward or stays
abbrev pub IsForward : List ℕ → ℕ → ℕ → Type 0
IsForward cells w last = (i j : ℕ) → i ≤ last → j ≤ last → InTable cells w i j → i ≤ j

-- at most t links of the table lead from i to j
abbrev pub Within : List ℕ → ℕ → ℕ → ℕ → ℕ → ℕ → Type 0
Within cells w last t i j = (k : ℕ) × (k ≤ t) × Chain (Link cells w last) k i j

-- each row from place `first` on includes the row of each of its places
abbrev pub IsClosed : List ℕ → ℕ → ℕ → ℕ → Type 0
IsClosed cells w first last = (i k j : ℕ) → first ≤ i → i ≤ last → k ≤ last → j ≤ last
    → InTable cells w i k → InTable cells w k j → InTable cells w i j

-- each row includes the links of each of its places
abbrev pub HasLinksOf : List ℕ → List ℕ → ℕ → ℕ → Type 0
HasLinksOf cells links w last = (i k j : ℕ) → i ≤ last → k ≤ last → InTable cells w i k
    → Link links w last k j → InTable cells w i j

-- the row includes the table's row of each of its places
abbrev pub HasRowsOf : List ℕ → List ℕ → ℕ → ℕ → Type 0
HasRowsOf row cells w last = (k j : ℕ) → k ≤ last → j ≤ last → InRow row 0 k → InTable cells w k j
    → InRow row 0 j

-- the sum of the numbers from 1 to n: how many pairs i ≤ j there are of n places
abbrev pub triangle : ℕ → ℕ
triangle zero = 0
triangle (suc n) = (suc n) + triangle n

-- the links, put before the table's relation this many times
abbrev pub Repeated : List ℕ → List ℕ → ℕ → ℕ → ℕ → ℕ → ℕ → Type 0
Repeated L T w last zero i j = InTable T w i j
Repeated L T w last (suc t) i j = (k : ℕ) × Link L w last i k × Repeated L T w last t k j
