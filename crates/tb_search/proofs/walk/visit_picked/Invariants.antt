use Rattle.std.proofs.Common.{◌≡◌, true, List, map, All}
use Rattle.sqlite.specs.State.{HasCleanDisk}
use Rattle.sqlite.specs.Held.{state}
use Rattle.sqlite_trees.specs.Tree.{IsAscending}
use Rattle.tb_tables.specs.Layout.{desk_schema}
use Rattle.tb_tables.specs.Records.{Revision, Shows, revision_shown, revision_view}
use Rattle.tb_reads.specs.Readable.{IsRevision, ComesBefore}
use Rattle.tb_reads.specs.ReadOnly.{IsReadOnly}
use Rattle.tb_search.proofs.Walking.{IsWalked}
use Rattle.tb_search.proofs.walk.visit_picked.Given as goal

abbrev pub invariant-rows : goal.invariant-rows
invariant-rows g l =
    let old = state g.S.Store l.fn.conn in
    let now = state g.S.Store l.rows.conn.now in
    (l.rows.conn.ghost_name ≡ l.initial.rows.conn.ghost_name) × IsReadOnly g.S.Store l.fn.conn l.rows.conn.now true
    × (HasCleanDisk now → old.now.schema ≡ desk_schema → (xs : List Revision) → All IsRevision xs → IsAscending ComesBefore xs → Shows revision_view (map revision_shown xs) (old.now.trees 5)
    → IsWalked g.S.Store g.V.BodyVisitor.Takes l.rows.conn.now l.picks l.next l.initial.visitor l.initial.filled l.visitor l.filled xs)
