use Rattle.std.proofs.Common.{◌≡◌, ◌+◌, ◌*◌, ◌/◌, ◌<◌, ◌↔◌, length, arith, sym, subst}
use Rattle.std.proofs.lemmas.Nat.{div-add-mod'}
use Rattle.tb_match.specs.Bits.{InTable}
use Rattle.tb_match.proofs.Runs.{Run, run_over}
use Rattle.tb_match.proofs.token.run_on.Goals as goal

pub returns-then-shape-eq1 : goal.returns-then-shape-eq1
returns-then-shape-eq1 c = record {
  rows = λ i j p q.
      let t = c.args.truth.now in
      let T = c.args.table.now in
      let one = c.if-shape-eq1.true in
      let long : length T ≡ (t.words + 1) * 1 = subst (λ n. length T ≡ (t.words + 1) * n) one c.requires.table in
      let short : c.args.shape.last / 64 < 1 = subst (λ n. c.args.shape.last / 64 < n) one c.args.shape.wide in
      let below : t.words < 64 = omega (arith, div-add-mod' c.args.shape.last 64, c.requires.words) in
      subst (λ n. InTable c.run_words.new.table n i j ↔ Run T n i t.words t c.args.expr j) (sym one)
      (run_over T c.run_words.new.table t c.args.expr c.ends_of.result i j c.ends_of.ensures q below (c.run_words.ensures.rows i j (omega arith) (omega arith)));
}
