use Rattle.std.proofs.Common.{◌≡◌, ◌≤◌, ◌↔◌, ℕ, arith}
use Rattle.std.proofs.lemmas.Result.{IfOk-weaker}
use Rattle.tb_match.specs.Bits.{InTable}
use Rattle.tb_match.specs.Stays.{MayStay}
use Rattle.tb_match.proofs.Runs.{from_itself}
use Rattle.tb_match.proofs.token.token_rows.Goals as goal

pub returns-then-shape-eq1-clause-rows : goal.returns-then-shape-eq1-clause-rows
returns-then-shape-eq1-clause-rows c =
    let t = c.args.truth.now in
    let count : c.args.shape.last ≡ t.words = c.requires.words in
    let D = c.in_ok-places.places.items in
    let alone : (a b : ℕ) → a ≤ t.words → b ≤ t.words → InTable D c.args.shape.width a b ↔ (a ≡ b) = λ a b p q. c.in_ok-places.ensures.rows a b (omega arith) (omega arith) in
    IfOk-weaker c.step_over.result _ _ (λ v h i j p q.
    let r = h i j p q in
    let s = from_itself D c.args.shape.width t.words i j t c.args.expr (MayStay c.args.stay) alone p in
    (λ x. s.0 (r.0 x), λ x. r.1 (s.1 x)))
    c.step_over.ensures.rows
