use Rattle.std.proofs.Common.{List, map, sym, subst, ◌∙◌}
use Rattle.std.proofs.lemmas.Bool.{false≢true}
use Rattle.std.specs.List.Sorted.{IsPermutation}
use Rattle.tb_report.specs.Kept.{ranked_row, table_of}
use Rattle.tb_report.specs.Tables.{Row}
use Rattle.tb_report.proofs.NoRows.{both_empty}
use Rattle.tb_report.proofs.Joined.{moved}
use Rattle.tb_report.proofs.Ranking.{ranking_from_sorted}
use Rattle.tb_report.proofs.freq.Freq.ranking.Goals as goal

pub returns-clause-ranking : goal.returns-clause-ranking
returns-clause-ranking c =
    let short = c.self.inside.short.entries in
    let long = c.self.inside.long.entries in
    let sorted = c.sort_unstable.ensures in
    let all = moved short long c.self.invariant.2 c.self.invariant.3 in
    let rows : IsPermutation (map ranked_row c.in_ok-ranks.ranks.items) (table_of short long) = subst (λ (l : List Row). IsPermutation l (table_of short long)) (sym c.in_ok-ranks.ensures.ranks) all in
    rw (← c.self.view_is) (ranking_from_sorted (table_of short long) c.in_ok-ranks.ranks.items c.sort_unstable.new.self.items c.self.invariant.1 rows sorted.permutation sorted.sorted)

pub returns-in_err-ranks-clause-sure : goal.returns-in_err-ranks-clause-sure
returns-in_err-ranks-clause-sure c none =
    let short = c.self.inside.short.entries in
    let long = c.self.inside.long.entries in
    let empty = both_empty short long (moved short long c.self.invariant.2 c.self.invariant.3) (c.self.view_is ∙ none) in
    absurd (false≢true (c.in_err-ranks.ensures.sure empty.0 empty.1))
