use Rattle.std.proofs.Common.{◌∙◌, ◌++◌, ap, subst, sym}
use Rattle.tb_answer.proofs.Failing.{on_then}
use Rattle.tb_answer.proofs.OrReply.{text_made, text_unmade}
use Rattle.tb_answer.proofs.listed.text_of.Goals as goal

pub returns-clause-text : goal.returns-clause-text
returns-clause-text g c =
    let has = g.T.Table.HasCsv c.args.table.now in
    text_made (λ v. has v.items) c.write_csv.result c.or_memory.result _ c.or_memory.ensures
    (on_then _ _ c.write_csv.result c.write_csv.ensures.written (λ put. subst has (sym (put.2 ∙ ap (λ before. before ++ put.0) c.new-text.ensures.items)) put.1))

pub returns-clause-failed : goal.returns-clause-failed
returns-clause-failed g c = text_unmade c.write_csv.result c.or_memory.result _ c.or_memory.ensures
