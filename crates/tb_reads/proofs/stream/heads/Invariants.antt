use Rattle.std.proofs.Common.{◌≡◌, [], map, true}
use Rattle.sqlite.specs.State.{HasCleanDisk}
use Rattle.sqlite.specs.Held.{state}
use Rattle.sqlite.specs.Given.{HasGiven}
use Rattle.tb_tables.specs.Layout.{desk_schema}
use Rattle.tb_reads.specs.Streams.{head_shown}
use Rattle.tb_reads.specs.ReadOnly.{IsReadOnly}
use Rattle.tb_reads.proofs.Queries.{select_heads}
use Rattle.tb_reads.proofs.stream.heads.Given as goal

abbrev pub invariant-rows : goal.invariant-rows
invariant-rows g l =
    let old = state g.S.Store l.fn.conn in
    let now = state g.S.Store l.rows.conn.now in
    (l.rows.conn.ghost_name ≡ l.initial.rows.conn.ghost_name) × IsReadOnly g.S.Store l.fn.conn l.rows.conn.now true
    × (HasCleanDisk now → old.now.schema ≡ desk_schema → HasGiven g.S.Store select_heads [] l.rows.conn.now (map head_shown l.found.items))
