-- Between crates: no contract of a front door cites a definition of this module.
-- A revision that is to be written, as a record.
use Rattle.tb_tables.specs.Records.{Revision}
use Rattle.tb_tables.specs.declared.rows.RevisionWrite.{RevisionWrite}

abbrev pub revision_written : RevisionWrite → Revision
revision_written r = record { sent = r.sent; rev = r.rev; who = r.who.now; body = r.body.now }
