use Rattle.std.proofs.Common.{Bor, List, [], ℕ, get_or, sym, ◌∙◌}
use Rattle.std.proofs.lemmas.List.{get_or_default}
use Rattle.tb_rules.proofs.Values.{first_value, second_value, no_value}
use Rattle.tb_rules.proofs.comments.only_borrowed.Goals as goal
use Rattle.tb_rules.proofs.comments.only_borrowed.Goals.{in-Some+else-is_some, in_default}

bytes : Bor (List ℕ) → List ℕ
bytes text = text.now

-- the comment at a place
item : List (Bor (List ℕ)) → ℕ → Bor (List ℕ)
item comments i = get_or comments i (record { ref_ptr = (0, 0); now = [] })

pub returns-then-is_some : goal.returns-then-is_some
unfolding bytes item
returns-then-is_some c =
    let at = item c.args.comments.now c.loop-comment.comment-index in
    let here = get_or_default c.args.comments.now c.loop-comment.comment-index (record { ref_ptr = (0, 0); now = [] }) at c.loop-comment-test.true in
    second_value bytes c.args.key.now c.args.comments.now c.loop-comment.comment-index at c.loop-comment.first c.in-Some.value.now c.loop-comment-test.true here c.loop-comment.invariant c.if-is_some.ensures (sym c.in-Some.ensures)

pub loop-comment-preserved : goal.loop-comment-preserved
unfolding bytes item
loop-comment-preserved c =
    let at = item c.args.comments.now c.loop-comment.comment-index in
    let here = get_or_default c.args.comments.now c.loop-comment.comment-index (record { ref_ptr = (0, 0); now = [] }) at c.loop-comment-test.true in
    elim c.match-value_with.branch [
      | in-Some+else-is_some w ↦
          (rw w.first-is (first_value bytes c.args.key.now c.args.comments.now c.loop-comment.comment-index at c.loop-comment.first w.in-Some.value.now c.loop-comment-test.true here c.loop-comment.invariant (sym w.is_some.ensures ∙ w.if-is_some.false) (sym w.in-Some.ensures)))
      | in_default w ↦
          (rw w.first-is (no_value bytes c.args.key.now c.args.comments.now c.loop-comment.comment-index at _ c.loop-comment-test.true here c.loop-comment.invariant (sym w.in_default.ensures)))
    ]
