-- The first line of bytes and the lines after it, and one field of a line.
use Rattle.std.proofs.Common.{◌≡◌, ℕ, ◌+◌, ◌<◌, ◌≤◌, List, [], ◌∷◌, Option, Some, None, take, drop, length}
use Rattle.std.proofs.Common.{option_map, ◌∙◌, ap, subst, arith, get_or, cond, nat_lt, Bor, unwrap_or}
use Rattle.std.proofs.lemmas.Bool.Decides.{nat_tests}
use Rattle.std.proofs.lemmas.List.Splits.{slice_split_first, slice_split_none}
use Rattle.std.proofs.lemmas.List.Sums.{fails_before_first}
use Rattle.std.proofs.lemmas.Option.{unwrap_or-slice_get}
use Rattle.std.specs.List.{position, position_or_len, slice_get}
use Rattle.tb_words.specs.FileLines.{is_line_feed, lines_in}

-- the clause of `position`, without its test
some_place : (n l end : ℕ) → cond (nat_lt n l) (Some n) None ≡ Some end → (n ≡ end) × (n < l)
some_place n l end is = grind (arith, nat_tests)

no_place : (n l : ℕ) → cond (nat_lt n l) (Some n) None ≡ None → l ≤ n
no_place n l is = grind (arith, nat_tests)

pub cut_at : (bytes : List ℕ) (end : ℕ) → position is_line_feed bytes ≡ Some end
    → lines_in bytes ≡ take end bytes ∷ lines_in (drop (end + 1) bytes)
cut_at bytes end is =
    let h = some_place (position_or_len is_line_feed bytes) (length bytes) end is in
    subst (λ (n : ℕ). lines_in bytes ≡ take n bytes ∷ lines_in (drop (n + 1) bytes)) h.0
    (slice_split_first is_line_feed bytes 0 h.1)

pub cut_nowhere : (bytes : List ℕ) → position is_line_feed bytes ≡ None → lines_in bytes ≡ bytes ∷ []
cut_nowhere bytes is =
    let far = no_place (position_or_len is_line_feed bytes) (length bytes) is in
    slice_split_none is_line_feed bytes (λ k d within. fails_before_first is_line_feed bytes k d (omega arith))

-- an item behind a reference, or nothing
pub item_or_none : (o : Option (Bor (List ℕ))) (none : Bor (List ℕ)) (xs : List (List ℕ)) (k : ℕ)
    → option_map (λ (x : Bor (List ℕ)). x.now) o ≡ slice_get xs k → none.now ≡ []
    → (unwrap_or o none).now ≡ get_or xs k []
item_or_none None none xs k is empty =
    empty ∙ (ap (λ (o : Option (List ℕ)). unwrap_or o []) is ∙ unwrap_or-slice_get xs k [])
item_or_none (Some x) none xs k is empty =
    ap (λ (o : Option (List ℕ)). unwrap_or o []) is ∙ unwrap_or-slice_get xs k []
