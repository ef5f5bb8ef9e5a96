use Rattle.std.proofs.Common.{◌≡◌, ◌+◌, drop, arith, ap}
use Rattle.tb_match.specs.Trees.{tree, trees}
use Rattle.tb_match.specs.Weight.{weight_of, weight_of_all}
use Rattle.tb_match.proofs.Parts.{next_part, weight_ahead}
use Rattle.tb_prefilter.proofs.needing.+is_needed.Goals as goal

pub is_needed_by_some-is_needed-requires : goal.is_needed_by_some-is_needed-requires
is_needed_by_some-is_needed-requires t c =
    let ps = c.args.parts.now in
    let k = c.loop-part.part-index in
    let x = c.part-item.result in
    let next = next_part ps k x c.loop-part-test.true c.part-item.is (λ qs. qs) in
    let e : weight_of_all (trees (drop k ps)) ≡ weight_of (tree x) + 1 + weight_of_all (trees (drop (k + 1) ps)) = ap weight_of_all next in
    let ahead = weight_ahead ps k in
    (omega (arith, c.decreases), tt)
