-- A table has one ranking.
use Rattle.std.proofs.Common.{◌≡◌, List, sym}
use Rattle.std.specs.BTreeMap.{is_at}
use Rattle.std.specs.declared.cmp.Ordering.{Ordering}
use Rattle.std.specs.declared.cmp.Ordering.TheVariants.{Less, Equal, Greater}
use Rattle.std.specs.Cmp.Lexicographic.{slice_cmp}
use Rattle.std.specs.List.Sorted.{IsPermutation}
use Rattle.std.specs.Ordering.{nat_cmp, ordering_then}
use Rattle.std.proofs.lemmas.List.Sorted.{IsPermutation-sym, IsPermutation-trans, list_any-IsPermutation}
use Rattle.std.proofs.lemmas.Map.Lookups.{btree_set_from_contains, exact_bytes, exact_unsigned}
use Rattle.tb_report.specs.Tables.{Row, IsRankingOf, rank}
use Rattle.tb_report.proofs.Ranking.{rank_total, equal_after}

equal_first : (r s : Ordering) → ordering_then r s ≡ Equal → r ≡ Equal
equal_first Less s e = e
equal_first Equal s e = λ i. Equal
equal_first Greater s e = e

exact_rank : (x y : Row) → rank x y ≡ Equal → x ≡ y
exact_rank x y e =
    let counts : y.1 ≡ x.1 = exact_unsigned y.1 x.1 (equal_first (nat_cmp y.1 x.1) (slice_cmp nat_cmp x.0 y.0) e) in
    let keys : x.0 ≡ y.0 = exact_bytes x.0 y.0 (equal_after (nat_cmp y.1 x.1) (slice_cmp nat_cmp x.0 y.0) e) in
    λ i. (keys i, sym counts i)

pub one_ranking : (table rows others : List Row) → IsRankingOf table rows → IsRankingOf table others → rows ≡ others
one_ranking table rows others a b =
    let moved : IsPermutation rows others = IsPermutation-trans rows table others (IsPermutation-sym table rows a.same_rows) b.same_rows in
    btree_set_from_contains rank_total (record { keys = rows }) (record { keys = others }) a.in_order b.in_order (λ q. list_any-IsPermutation (is_at (rank q)) rows others moved) exact_rank
