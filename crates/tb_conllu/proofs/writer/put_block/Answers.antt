use Rattle.std.proofs.Common.{[], ◌∷◌, ◌++◌, List, subst}
use Rattle.std.specs.Io.KnownBytes.{Appends}
use Rattle.std.specs.List.{flat_map}
use Rattle.std.proofs.lemmas.Result.{on_ok_weaker}
use Rattle.tb_conllu.specs.Text.{RowText, BlockText, row_line, text_of}
use Rattle.tb_conllu.proofs.Appended.{block_appended}
use Rattle.std.proofs.lemmas.Result.{on_err_weaker}
use Rattle.tb_conllu.specs.Sunk.{AppendsPart}
use Rattle.tb_conllu.proofs.SunkParts.{block_at_comments, block_at_end, block_at_rows, refused}
use Rattle.tb_conllu.proofs.writer.put_block.Goals as goal

pub returns-clause-put : goal.returns-clause-put
returns-clause-put g c =
    let bytes = g.T.Text.bytes in
    let before = g.S.Sink.held c.args.out.now in
    let after_comments = g.S.Sink.held c.put_comments.new.out in
    let after_rows = g.S.Sink.held c.put_rows.new.out in
    let after = g.S.Sink.held c.put.new.self in
    let comments = subst (λ cs. Appends before after_comments (flat_map (λ comment. bytes comment ++ 10 ∷ []) cs)) c.deref.ensures.value c.in_ok-put_comments.ensures.put in
    let rows = subst (λ (rs : List RowText). Appends after_comments after_rows (flat_map (λ row. row_line row ++ 10 ∷ []) rs)) c.deref-2.ensures.value c.in_ok-put_rows.ensures.put in
    let one = block_appended bytes c.block.inside.comments.items c.block.inside.rows.items before after_comments after_rows after comments rows in
    on_ok_weaker c.put.result (λ blank. subst (λ (b : BlockText). Appends before after (text_of (b ∷ []))) c.block.view_is (one blank)) c.put.ensures.taken

pub returns-in_err-put_comments-clause-part : goal.returns-in_err-put_comments-clause-part
returns-in_err-put_comments-clause-part g c =
    let bytes = g.T.Text.bytes in
    let before = g.S.Sink.held c.args.out.now in
    let after_comments = g.S.Sink.held c.put_comments.new.out in
    let comments = subst (λ cs. AppendsPart before after_comments (flat_map (λ comment. bytes comment ++ 10 ∷ []) cs)) c.deref.ensures.value c.in_err-put_comments.ensures.part in
    refused c.from_residual.result (subst (λ (b : BlockText). AppendsPart before after_comments (text_of (b ∷ []))) c.block.view_is (block_at_comments bytes c.block.inside.comments.items c.block.inside.rows.items before after_comments comments))

pub returns-in_err-put_rows-clause-part : goal.returns-in_err-put_rows-clause-part
returns-in_err-put_rows-clause-part g c =
    let bytes = g.T.Text.bytes in
    let before = g.S.Sink.held c.args.out.now in
    let after_comments = g.S.Sink.held c.put_comments.new.out in
    let after_rows = g.S.Sink.held c.put_rows.new.out in
    let comments = subst (λ cs. Appends before after_comments (flat_map (λ comment. bytes comment ++ 10 ∷ []) cs)) c.deref.ensures.value c.in_ok-put_comments.ensures.put in
    let rows = subst (λ (rs : List RowText). AppendsPart after_comments after_rows (flat_map (λ row. row_line row ++ 10 ∷ []) rs)) c.deref-2.ensures.value c.in_err-put_rows.ensures.part in
    refused c.from_residual-in_err-put_rows.result (subst (λ (b : BlockText). AppendsPart before after_rows (text_of (b ∷ []))) c.block.view_is (block_at_rows bytes c.block.inside.comments.items c.block.inside.rows.items before after_comments after_rows comments rows))

pub returns-clause-part : goal.returns-clause-part
returns-clause-part g c =
    let bytes = g.T.Text.bytes in
    let before = g.S.Sink.held c.args.out.now in
    let after_comments = g.S.Sink.held c.put_comments.new.out in
    let after_rows = g.S.Sink.held c.put_rows.new.out in
    let after = g.S.Sink.held c.put.new.self in
    let comments = subst (λ cs. Appends before after_comments (flat_map (λ comment. bytes comment ++ 10 ∷ []) cs)) c.deref.ensures.value c.in_ok-put_comments.ensures.put in
    let rows = subst (λ (rs : List RowText). Appends after_comments after_rows (flat_map (λ row. row_line row ++ 10 ∷ []) rs)) c.deref-2.ensures.value c.in_ok-put_rows.ensures.put in
    on_err_weaker c.put.result (λ blank. subst (λ (b : BlockText). AppendsPart before after (text_of (b ∷ []))) c.block.view_is (block_at_end bytes c.block.inside.comments.items c.block.inside.rows.items before after_comments after_rows after comments rows blank)) c.put.ensures.part
