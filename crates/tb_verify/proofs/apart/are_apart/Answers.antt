use Rattle.std.proofs.Common.{◌+◌, ◌∷◌, map, drop, string_bytes, sym, ◌∙◌, ap, arith}
use Rattle.tb_verify.proofs.Filed.{mapped_drop, no_more}
use Rattle.tb_verify.proofs.Seen.{one_passed, not_apart, all_passed, reported_false, reported_true}
use Rattle.tb_verify.proofs.apart.are_apart.Goals as goal

pub returns-then-not-branch-clause-apart : goal.returns-then-not-branch-clause-apart
returns-then-not-branch-clause-apart g c =
    let text = g.R.Titled.text in
    let i = c.loop-row.row-index in
    let later = map text (drop (i + 1) c.args.rows.now) in
    let parts = mapped_drop text c.args.rows.now i c.row-item.result (omega (arith, c.loop-row-test.true)) c.row-item.is ∙ ap (λ z. z ∷ later) (sym c.own_text.ensures) in
    let twice = not_apart (map text c.args.rows.now) (map string_bytes c.loop-row.seen.keys) (map string_bytes c.add.new.seen.keys) (map text (drop i c.args.rows.now)) later c.own_text.result.now c.in_ok-add.field-0 c.loop-row.invariant parts c.in_ok-add.ensures c.if-not-branch.true in
    reported_false twice

pub loop-row-preserved : goal.loop-row-preserved
loop-row-preserved g c =
    let text = g.R.Titled.text in
    let i = c.loop-row.row-index in
    let later = map text (drop (i + 1) c.args.rows.now) in
    let parts = mapped_drop text c.args.rows.now i c.row-item.result (omega (arith, c.loop-row-test.true)) c.row-item.is ∙ ap (λ z. z ∷ later) (sym c.own_text.ensures) in
    one_passed (map text c.args.rows.now) (map string_bytes c.loop-row.seen.keys) (map string_bytes c.add.new.seen.keys) (map text (drop i c.args.rows.now)) later c.own_text.result.now c.in_ok-add.field-0 c.loop-row.invariant parts c.in_ok-add.ensures c.if-not-branch.false

pub returns-clause-apart : goal.returns-clause-apart
returns-clause-apart g c =
    let text = g.R.Titled.text in
    let all = all_passed (map text c.args.rows.now) (map string_bytes c.loop-row.seen.keys) (map text (drop c.loop-row.row-index c.args.rows.now)) c.loop-row.invariant (no_more text c.args.rows.now c.loop-row.row-index (omega (arith, c.loop-row-test.false))) in
    reported_true all
