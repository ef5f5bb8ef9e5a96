use Rattle.std.proofs.Common.{ap, sym, ◌∙◌, true≢false}
use Rattle.tb_conllu.specs.Lines.{is_comment}
use Rattle.tb_conllu.proofs.Recut.{comment_next, comments_end, comment_ends, comments_taken, comment_added}
use Rattle.tb_conllu.proofs.known.take_comments.Goals as goal

pub returns-in_default-clause-taken : goal.returns-in_default-clause-taken
returns-in_default-clause-taken c cs rest h last whole =
    let come = c.loop-left.invariant.1 cs rest h last whole in
    absurd (comment_ends c.loop-left.left.now rest come.0 last (sym c.is_hashed.ensures ∙ c.loop-left-test.true) come.4 c.in_default.ensures)

pub returns-in_default-clause-left : goal.returns-in_default-clause-left
returns-in_default-clause-left c cs rest h last whole =
    let come = c.loop-left.invariant.1 cs rest h last whole in
    absurd (comment_ends c.loop-left.left.now rest come.0 last (sym c.is_hashed.ensures ∙ c.loop-left-test.true) come.4 c.in_default.ensures)

pub loop-left-preserved : goal.loop-left-preserved
loop-left-preserved c = (
  search,
  λ cs rest h last whole.
      let come = c.loop-left.invariant.1 cs rest h last whole in
      let next = comment_next c.in-Some.line.now c.in-Some.after.now c.loop-left.left.now rest come.0 come.1 last (sym c.is_hashed.ensures ∙ c.loop-left-test.true) come.4 c.in-Some.ensures.0 c.in-Some.ensures.1 in
      let added = comment_added c.args.block.now c.loop-left.block c.add_comment.new.block c.in-Some.line.now cs come.0 next.0 come.2 next.1 come.3 c.in_ok-add_comment.ensures.ok in
      (next.0, next.2, added.0, added.1, next.3),
  λ none. absurd (true≢false (sym c.loop-left-test.true ∙ (c.is_hashed.ensures ∙ (ap is_comment (c.loop-left.invariant.2 none) ∙ none)))),
)

pub returns-clause-taken : goal.returns-clause-taken
returns-clause-taken c cs rest h last whole =
    let come = c.loop-left.invariant.1 cs rest h last whole in
    let all = comments_end c.loop-left.left.now rest come.0 come.1 (sym c.is_hashed.ensures ∙ c.loop-left-test.false) come.4 in
    comments_taken c.args.block.now c.loop-left.block cs come.0 come.2 all.0 come.3

pub returns-clause-left : goal.returns-clause-left
returns-clause-left c cs rest h last whole =
    let come = c.loop-left.invariant.1 cs rest h last whole in
    (comments_end c.loop-left.left.now rest come.0 come.1 (sym c.is_hashed.ensures ∙ c.loop-left-test.false) come.4).1

pub returns-in_err-add_comment-clause-none : goal.returns-in_err-add_comment-clause-none
returns-in_err-add_comment-clause-none c = λ none.
    absurd (true≢false (sym c.loop-left-test.true ∙ (c.is_hashed.ensures ∙ (ap is_comment (c.loop-left.invariant.2 none) ∙ none))))
