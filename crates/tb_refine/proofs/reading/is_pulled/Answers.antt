use Rattle.tb_reads.proofs.Shown.{if_ok}
use Rattle.tb_refine.specs.DeskTables.{tables_of}
use Rattle.tb_refine.specs.Faults.{fault_of_read}
use Rattle.tb_refine.proofs.Finds.{flag_reported}
use Rattle.tb_refine.proofs.DeskReads.{read_of}
use Rattle.tb_refine.proofs.Reported.{reported_if}
use Rattle.tb_refine.proofs.reading.is_pulled.Goals as goal

pub returns-clause-answered : goal.returns-clause-answered
returns-clause-answered g c clean =
    rw c.reported.ensures.value (reported_if fault_of_read _ c.is_pulled.result (if_ok c.is_pulled.result (c.is_pulled.ensures.ok clean) (λ pulled read s desk x there.
    flag_reported s c.args.number x pulled c.requires there (read desk.holds.schema (tables_of s).pulled desk.holds.stands.pulled))))

pub returns-clause-read : goal.returns-clause-read
returns-clause-read g c =
    read_of c.reported.result c.reported.ensures.never_refuses c.reported.ensures.output c.is_pulled.result c.reported.ensures.value c.is_pulled.ensures.fails c.is_pulled.ensures.cause c.is_pulled.ensures.read_only
    (λ clean s desk unfit. c.is_pulled.ensures.form unfit)
