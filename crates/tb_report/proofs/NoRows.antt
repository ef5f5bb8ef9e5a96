-- A table without a row: both maps are empty, and so is each list of its rows.
use Rattle.std.proofs.Common.{◌≡◌, ◌+◌, ◌++◌, ℕ, List, [], String, length, map, sym, ap, ◌∙◌, arith}
use Rattle.std.specs.List.Sorted.{IsPermutation}
use Rattle.std.specs.Map.{values_of}
use Rattle.std.proofs.lemmas.List.{length-append, length-map}
use Rattle.std.proofs.lemmas.List.Sorted.{length_permutation}
use Rattle.tb_core.proofs.Lists.{nothing_more}
use Rattle.tb_report.specs.Kept.{rows_of, short_rows, table_of, text_row}
use Rattle.tb_report.specs.Tables.{Row}

pub both_empty : {Y Z : Type 0} (short : List (ℕ × (String Y × ℕ))) (long : List (String Z × ℕ)) → IsPermutation (short_rows short ++ rows_of long) (table_of short long) → table_of short long ≡ []
    → (short ≡ []) × (long ≡ [])
both_empty short long moved none =
    let size = sym (length_permutation (short_rows short ++ rows_of long) (table_of short long) moved) ∙ ap length none in
    let parts : length (short_rows short) + length (rows_of long) ≡ 0 = sym (length-append (short_rows short) (rows_of long)) ∙ size in
    let shorts : length (short_rows short) ≡ length short = length-map (values_of short) text_row ∙ length-map short (λ e. e.1) in
    let longs : length (rows_of long) ≡ length long = length-map long text_row in
    (nothing_more short (omega (arith, parts, shorts, longs)), nothing_more long (omega (arith, parts, shorts, longs)))

-- the rows of a table without one
pub no_rows : {X : Type 0} (f : X → Row) (xs : List X) (table : List Row) → IsPermutation table (map f xs) → table ≡ [] → xs ≡ []
no_rows f xs table moved none = nothing_more xs (sym (length-map xs f) ∙ length_permutation table (map f xs) moved ∙ ap length none)
