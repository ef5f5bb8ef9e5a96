use Rattle.std.proofs.Common.{◌≡◌, ◌+◌, ◌<◌, length, drop, sym, ap, subst, ◌∙◌, arith}
use Rattle.std.specs.List.{AllByRecursion}
use Rattle.tb_refine.specs.Listed.{is_listed}
use Rattle.tb_lists.specs.Counted.{IsOfSoMany, change_of, counted, count_all}
use Rattle.tb_lists.proofs.Summed.{drop_here, drop_end}
use Rattle.tb_lists.proofs.counting.put_all.Goals as goal

pub loop-row-preserved : goal.loop-row-preserved
loop-row-preserved c =
    let i = c.loop-row.row-index in
    let rows = c.args.rows.now in
    let pulled = c.args.pulled.now in
    let row = c.row-item.result in
    let before = c.loop-row.invariant in
    let low : i < length rows = omega (arith, c.loop-row-test.true) in
    let at : c.from.result ≡ i = c.from.ensures ∙ before.0 in
    let seen : c.loop-row.seen + 1 ≡ i + 1 = ap (λ n. n + 1) before.0 in (
      seen,
      subst (λ n. AllByRecursion (IsOfSoMany (n + 1)) c.put_one.new.counts.items) at c.put_one.ensures.bound,
      λ up.
          let flag = c.is_among-is_pulled.ensures up ∙ ap (λ n. is_listed n pulled) seen in
          let put = c.put_one.ensures.value ∙ ap (λ n. change_of (counted (n + 1) row.words c.is_among-is_pulled.result) row.batch c.loop-row.counts.items) at
          ∙ ap (λ t. change_of (counted (i + 1) row.words t) row.batch c.loop-row.counts.items) flag in
          ap (count_all pulled (i + 1 + 1) (drop (i + 1) rows)) put ∙ ap (λ l. count_all pulled (i + 1) l c.loop-row.counts.items) (sym (drop_here rows i row low c.row-item.is)) ∙ before.2 up,
    )

pub returns : goal.returns
returns c up =
    let past = drop_end c.args.rows.now c.loop-row.row-index (omega (arith, c.loop-row-test.false)) in
    sym (ap (λ l. count_all c.args.pulled.now (c.loop-row.row-index + 1) l c.loop-row.counts.items) past) ∙ c.loop-row.invariant.2 up
