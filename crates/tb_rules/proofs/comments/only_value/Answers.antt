use Rattle.std.proofs.Common.{sym, ap, ◌∙◌}
use Rattle.tb_rules.specs.Comments.{value_under}
use Rattle.tb_rules.proofs.Values.{first_value, second_value, no_value}
use Rattle.tb_rules.proofs.comments.only_value.Goals as goal
use Rattle.tb_rules.proofs.comments.only_value.Goals.{in-Some+else-is_some, in_default}

pub returns-then-is_some : goal.returns-then-is_some
returns-then-is_some g c =
    second_value g.T.Text.bytes c.args.key.now c.args.comments.now c.loop-comment.comment-index c.comment-item.result c.loop-comment.found c.in-Some.value.now c.loop-comment-test.true c.comment-item.is c.loop-comment.invariant c.if-is_some.ensures (ap (value_under c.args.key.now) (sym c.text.ensures) ∙ sym c.in-Some.ensures)

pub loop-comment-preserved : goal.loop-comment-preserved
loop-comment-preserved g c =
    elim c.match-value_with.branch [
      | in-Some+else-is_some w ↦
          (rw w.found-is (first_value g.T.Text.bytes c.args.key.now c.args.comments.now c.loop-comment.comment-index c.comment-item.result c.loop-comment.found w.in-Some.value.now c.loop-comment-test.true c.comment-item.is c.loop-comment.invariant (sym w.is_some.ensures ∙ w.if-is_some.false) (ap (value_under c.args.key.now) (sym c.text.ensures) ∙ sym w.in-Some.ensures)))
      | in_default w ↦
          (rw w.found-is (no_value g.T.Text.bytes c.args.key.now c.args.comments.now c.loop-comment.comment-index c.comment-item.result _ c.loop-comment-test.true c.comment-item.is c.loop-comment.invariant (ap (value_under c.args.key.now) (sym c.text.ensures) ∙ sym w.in_default.ensures)))
    ]
