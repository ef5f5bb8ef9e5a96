use Rattle.sqlite.specs.Held.{state}
use Rattle.tb_tables.proofs.Meaning.{desk_listed}
use Rattle.tb_tables.proofs.layout.desk_schema_is_listed.Goals as goal

pub returns : goal.returns
returns g c opened has = desk_listed (state g.S.Store c.args.conn.now).now (c.schema-schema.ensures.live opened).0 has
