use Rattle.tb_refine.specs.DeskTables.{tables_of}
use Rattle.tb_reads.proofs.Shown.{if_ok}
use Rattle.tb_verify.proofs.TableReads.{read_reported}
use Rattle.tb_verify.proofs.Rises.{moves_fit}
use Rattle.tb_verify.proofs.reading.read_moves.Goals as goal

pub returns : goal.returns
returns g c = read_reported g.S.Store c.args.conn.now c.moves.new.conn c.moves.result c.reported.result _ _ c.reported.ensures.value c.reported.ensures.form c.reported.ensures.cause c.reported.ensures.never_refuses c.reported.ensures.output c.moves.ensures.sees
    c.moves.ensures.ok
    (λ clean. if_ok c.moves.result (c.moves.ensures.ok clean) (λ v read has s reach stands. tt))
    (λ clean failed has s reach stands. c.moves.ensures.form clean failed has (tables_of s).moves (moves_fit (tables_of s).moves (c.desk_rows_are_readable.ensures s reach).moves) stands.moves)
    c.moves.ensures.untouched c.moves.ensures.cause c.moves.ensures.read_only
