use Rattle.std.proofs.Common.{rules, [], ◌∷◌, pos, option_map}
use Rattle.sqlite.specs.declared.types.Value.TheVariants.{Int}
use Rattle.sqlite.specs.Held.{state}
use Rattle.sqlite.specs.Values.{bound_value}
use Rattle.sqlite_value.specs.Value.{owned}
use Rattle.tb_tables.specs.Values.{revision_of}
use Rattle.tb_tables.specs.Records.{revision_shown}
use Rattle.tb_reads.specs.Readable.{IsRevision}
use Rattle.tb_reads.specs.Found.{has_pair}
use Rattle.tb_reads.proofs.Picked.{revision_found, kept_readable}
use Rattle.tb_reads.proofs.Queries.{select_revision}
use Rattle.tb_reads.proofs.Failing.{reads_at, revision_reads}
use Rattle.tb_reads.proofs.Picks.{revision_shows, first_among}
use Rattle.tb_reads.proofs.Shown.{if_ok, shown_at}
use Rattle.tb_reads.proofs.single.revision.Goals as goal

pub fetch_first-requires : goal.fetch_first-requires
fetch_first-requires g c = reads_at select_revision (Int (pos c.args.sent) ∷ Int (pos c.args.rev) ∷ []) (bound_value (owned c.params-to_sql.result) ∷ bound_value (owned c.params-to_sql-2.result) ∷ []) (revision_reads c.args.sent c.args.rev) (search rules)

pub returns-clause-ok : goal.returns-clause-ok
returns-clause-ok g c clean = if_ok c.fetch_first.result (c.fetch_first.ensures.shown clean) (λ found it has xs holds.
    let old = state g.S.Store c.args.conn.now in
    let new = state g.S.Store c.fetch_first.new.conn in
    let shown = shown_at select_revision old new it.0 (Int (pos c.args.sent) ∷ Int (pos c.args.rev) ∷ []) _ it.1 (search rules) in
    revision_found c.args.sent c.args.rev (option_map revision_of found) xs it.0 (first_among revision_of revision_shown it.0 found it.2) (revision_shows old new has it.0 c.args.sent c.args.rev shown xs holds))

pub returns-clause-form : goal.returns-clause-form
returns-clause-form g c clean failed has xs each holds =
    let old = state g.S.Store c.args.conn.now in
    let new = state g.S.Store c.fetch_first.new.conn in
    let it = c.fetch_first.ensures.form clean failed in
    let shown = shown_at select_revision old new it.0 (Int (pos c.args.sent) ∷ Int (pos c.args.rev) ∷ []) _ it.1 (search rules) in
    kept_readable IsRevision revision_shown (has_pair c.args.sent c.args.rev) xs it.0 each (revision_shows old new has it.0 c.args.sent c.args.rev shown xs holds) it.2
