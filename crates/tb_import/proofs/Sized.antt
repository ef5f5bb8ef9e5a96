-- The sentences of an import are short enough to be stored, and no more of them than their text has bytes.
use Rattle.std.proofs.Common.{◌≡◌, ℕ, ◌+◌, ◌<◌, ◌≤◌, List, [], ◌∷◌, ◌++◌, length, map, All, ◌∙◌, ap, arith, append-nil, length-append}
use Rattle.std.specs.List.{AllByRecursion}
use Rattle.std.proofs.lemmas.List.Concat.{flat_map-append}
use Rattle.std.proofs.lemmas.List.Elements.{All-map, All-from_recursion}
use Rattle.sqlite.specs.Order.{Row}
use Rattle.tb_conllu.specs.Text.{BlockText, text_of, lines_of, block_lines, row_line, ended}
use Rattle.tb_tables.specs.Failing.{IsShort, HasRowids}
use Rattle.tb_tables.specs.Premises.{IsShortItem}
use Rattle.tb_refine.specs.Written.{item_of}
use Rattle.tb_refine.proofs.Short.{short_id}

text_more : (b : BlockText) (bs : List BlockText) → length (text_of (b ∷ bs)) ≡ length (text_of (b ∷ [])) + length (text_of bs)
text_more b bs =
    ap length (ap ended (flat_map-append block_lines (b ∷ []) bs) ∙ flat_map-append (λ (l : List ℕ). l ++ 10 ∷ []) (lines_of (b ∷ [])) (lines_of bs))
    ∙ length-append (text_of (b ∷ [])) (text_of bs)

-- each line has its line feed
lines_fit : (ls : List (List ℕ)) → length ls ≤ length (ended ls)
lines_fit [] = omega arith
lines_fit (l ∷ ls) = simp (length-append) (omega (arith, lines_fit ls))

has_text : (b : BlockText) → 0 < length (text_of (b ∷ []))
has_text b =
    let fit = lines_fit (lines_of (b ∷ [])) in
    let one = ap length (append-nil (block_lines b)) in
    let all = length-append b.comments (map row_line b.rows ++ [] ∷ []) in
    let last = length-append (map row_line b.rows) ([] ∷ []) in
    omega (arith, fit, one, all, last)

pub few : (bs : List BlockText) → length bs ≤ length (text_of bs)
few [] = omega arith
few (b ∷ bs) = omega (arith, text_more b bs, has_text b, few bs)

each_short : (top : ℕ) (bs : List BlockText) → length (text_of bs) ≤ top → AllByRecursion (λ (b : BlockText). length (text_of (b ∷ [])) ≤ top) bs
each_short top [] fits = tt
each_short top (b ∷ bs) fits =
    let more = text_more b bs in
    (omega (arith, more, fits), each_short top bs (omega (arith, more, fits)))

items_short : (bs : List BlockText) → AllByRecursion (λ (b : BlockText). IsShort (text_of (b ∷ []))) bs → AllByRecursion (λ (b : BlockText). IsShortItem (item_of b)) bs
items_short [] h = tt
items_short (b ∷ bs) h = (record { sent_id = short_id b h.0; body = h.0 }, items_short bs h.1)

pub short_items : (bs : List BlockText) → IsShort (text_of bs) → All IsShortItem (map item_of bs)
short_items bs short = All-map IsShortItem item_of bs (All-from_recursion (λ (b : BlockText). IsShortItem (item_of b)) bs (items_short bs (each_short 400000000 bs short)))

-- rowids for many rows are rowids for fewer
pub fewer_rowids : (many some : ℕ) (rows : List Row) → some ≤ many → HasRowids many rows → HasRowids some rows
fewer_rowids many some rows fit has = record { ascend = has.ascend; keyed = has.keyed; room = λ i low. has.room i (omega (arith, fit, low)) }
