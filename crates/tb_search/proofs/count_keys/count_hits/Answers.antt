use Rattle.std.proofs.Common.{◌≡◌, ◌<◌, ◌++◌, ◌∷◌, [], ◌∙◌, ℕ, List, get_or, map, take, length, subst, ap, arith}
use Rattle.std.proofs.Math.Seq.{take-length}
use Rattle.tb_conllu.specs.Text.{BlockText}
use Rattle.tb_report.specs.Keywords.{key_of}
use Rattle.tb_report.specs.Tables.{IsTableOf}
use Rattle.tb_search.proofs.Found.{one_more_key}
use Rattle.tb_search.proofs.count_keys.count_hits.Goals as goal

pub loop-hit-preserved : goal.loop-hit-preserved
loop-hit-preserved c =
    let same : c.count_hit.new.walk ≡ c.args.block.now = c.count_hit.ensures.unchanged ∙ c.loop-hit.invariant.0 in (
      same,
      λ ks are.
          let hits = c.args.hits.now in
          let i = c.loop-hit.hit-index in
          let low : i < length hits = omega (arith, c.loop-hit-test.true) in
          let before = ks ++ map (key_of c.args.column c.args.block.now) (take i hits) in
          let more = c.in_ok-count_hit.ensures.counted before (c.loop-hit.invariant.1 ks are) in
          let here = subst (λ (b : BlockText). IsTableOf (before ++ key_of c.args.column b (get_or hits i (0, 0)) ∷ []) c.count_hit.new.table) c.loop-hit.invariant.0 more in
          subst (λ (l : List (List ℕ)). IsTableOf l c.count_hit.new.table) (one_more_key c.args.column c.args.block.now hits i (0, 0) ks low) here,
    )

pub returns-clause-counted : goal.returns-clause-counted
returns-clause-counted c ks are =
    let hits = c.args.hits.now in
    let i = c.loop-hit.hit-index in
    let end : i ≡ length hits = omega (arith, c.loop-hit-test.false, c.loop-hit.auto.hit-index-end) in
    let all : take i hits ≡ hits = ap (λ m. take m hits) end ∙ take-length hits in
    subst (λ (l : List (ℕ × ℕ)). IsTableOf (ks ++ map (key_of c.args.column c.args.block.now) l) c.loop-hit.table) all (c.loop-hit.invariant.1 ks are)
