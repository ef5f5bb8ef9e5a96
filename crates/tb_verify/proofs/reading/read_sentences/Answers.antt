use Rattle.tb_refine.specs.DeskTables.{tables_of}
use Rattle.tb_reads.proofs.Shown.{if_ok}
use Rattle.tb_verify.proofs.TableReads.{read_reported}
use Rattle.tb_verify.proofs.Rises.{sentences_fit}
use Rattle.tb_verify.proofs.reading.read_sentences.Goals as goal

pub returns : goal.returns
returns g c = read_reported g.S.Store c.args.conn.now c.sentences.new.conn c.sentences.result c.reported.result _ _ c.reported.ensures.value c.reported.ensures.form c.reported.ensures.cause c.reported.ensures.never_refuses c.reported.ensures.output c.sentences.ensures.sees
    c.sentences.ensures.ok
    (λ clean. if_ok c.sentences.result (c.sentences.ensures.ok clean) (λ v read has s reach stands. tt))
    (λ clean failed has s reach stands. c.sentences.ensures.form clean failed has (tables_of s).sentences (sentences_fit (tables_of s).sentences (c.desk_rows_are_readable.ensures s reach).sentences) stands.sentences)
    c.sentences.ensures.untouched c.sentences.ensures.cause c.sentences.ensures.read_only
