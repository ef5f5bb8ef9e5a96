use Rattle.std.proofs.Common.{◌∷◌, [], ◌++◌, ◌∙◌, List, ℕ, subst}
use Rattle.tb_conllu.specs.Sunk.{AppendsPart}
use Rattle.std.specs.Io.KnownBytes.{Appends}
use Rattle.tb_conllu.proofs.SunkParts.{item_refused, part_here, part_later, refused}
use Rattle.tb_conllu.proofs.writer.put_comments.Goals as goal

pub returns-in_err-put-clause-part : goal.returns-in_err-put-clause-part
returns-in_err-put-clause-part g c =
    let bytes = g.T.Text.bytes in
    let before = g.S.Sink.held c.loop-comment.out in
    let after = g.S.Sink.held c.put.new.self in
    let P : List ℕ → Type 0 = AppendsPart before after in
    let here = subst P (c.as_bytes.ensures.value ∙ c.text.ensures) c.in_err-put.ensures.part in
    refused c.from_residual.result (item_refused (λ comment. bytes comment ++ 10 ∷ []) c.args.comments.now c.loop-comment.comment-index c.comment-item.result (g.S.Sink.held c.args.out.now) before after c.loop-comment-test.true c.comment-item.is c.loop-comment.invariant (part_here before after (bytes c.comment-item.result) (10 ∷ []) here))

pub returns-in_err-put-2-clause-part : goal.returns-in_err-put-2-clause-part
returns-in_err-put-2-clause-part g c =
    let bytes = g.T.Text.bytes in
    let before = g.S.Sink.held c.loop-comment.out in
    let text = g.S.Sink.held c.put.new.self in
    let after = g.S.Sink.held c.put-in-loop-comment.new.self in
    let P : List ℕ → Type 0 = Appends before text in
    let put = subst P (c.as_bytes.ensures.value ∙ c.text.ensures) c.in_ok-put.ensures.taken in
    refused c.from_residual-in_err-put-2.result (item_refused (λ comment. bytes comment ++ 10 ∷ []) c.args.comments.now c.loop-comment.comment-index c.comment-item.result (g.S.Sink.held c.args.out.now) before after c.loop-comment-test.true c.comment-item.is c.loop-comment.invariant (part_later before text after (bytes c.comment-item.result) (10 ∷ []) put c.in_err-put-2.ensures.part))
