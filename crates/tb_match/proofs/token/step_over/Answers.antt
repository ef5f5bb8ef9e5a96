use Rattle.std.proofs.Common.{◌≡◌, ◌+◌, ◌*◌, ◌/◌, ◌<◌, ◌↔◌, length, arith, sym, subst, ap}
use Rattle.std.proofs.lemmas.Nat.{div-add-mod'}
use Rattle.tb_match.specs.Bits.{InTable}
use Rattle.tb_match.specs.Stays.{MayStay}
use Rattle.tb_match.proofs.Repeats.{lent}
use Rattle.tb_match.proofs.Runs.{Stepped, stepped_over}
use Rattle.tb_match.proofs.token.step_over.Goals as goal

pub returns-then-shape-eq1-clause-rows : goal.returns-then-shape-eq1-clause-rows
returns-then-shape-eq1-clause-rows c = λ i j p q.
    let t = c.args.truth.now in
    let T = c.args.table.items in
    let one = c.if-shape-eq1.true in
    let v : c.deref_mut.result.now ≡ T = c.deref_mut.ensures.value in
    let same : length c.deref_mut.result.now ≡ length T = ap length v in
    let back = lent c.args.table.len c.step_words.new.table T (omega (arith, c.args.table.ok.0)) in
    let long : length T ≡ (t.words + 1) * 1 = subst (λ n. length T ≡ (t.words + 1) * n) one c.requires.table in
    let short : c.args.shape.last / 64 < 1 = subst (λ n. c.args.shape.last / 64 < n) one c.args.shape.wide in
    let below : t.words < 64 = omega (arith, div-add-mod' c.args.shape.last 64, c.requires.words) in
    let stepped : InTable c.step_words.new.table 1 i j ↔ Stepped T 1 i (MayStay c.args.stay) t c.args.expr (t.words + 1) j =
    subst (λ xs. InTable c.step_words.new.table 1 i j ↔ Stepped xs 1 i (MayStay c.args.stay) t c.args.expr (t.words + 1) j) v
    (stepped_over c.deref_mut.result.now c.step_words.new.table t c.args.expr c.ends_of.result i j c.ends_of.ensures q (MayStay c.args.stay) (c.step_words.ensures.rows i j (omega arith) (omega arith))) in
    subst (λ xs. InTable xs c.args.shape.width i j ↔ Stepped T c.args.shape.width i (MayStay c.args.stay) t c.args.expr (t.words + 1) j) (sym back)
    (subst (λ n. InTable c.step_words.new.table n i j ↔ Stepped T n i (MayStay c.args.stay) t c.args.expr (t.words + 1) j) (sym one) stepped)
