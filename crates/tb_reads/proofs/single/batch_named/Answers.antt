use Rattle.std.proofs.Common.{rules, refl, [], ◌∷◌}
use Rattle.sqlite.specs.declared.types.Value.TheVariants.{Text}
use Rattle.sqlite.specs.Held.{state}
use Rattle.sqlite.specs.Values.{bound_value}
use Rattle.sqlite_value.specs.Value.{owned}
use Rattle.tb_tables.specs.Records.{Batch, batch_shown}
use Rattle.tb_reads.specs.Found.{has_name}
use Rattle.tb_reads.proofs.Picked.{number_found, keys_readable}
use Rattle.tb_reads.proofs.Queries.{select_named_batch}
use Rattle.tb_reads.proofs.Failing.{reads_at, named_batch_reads}
use Rattle.tb_reads.proofs.Picks.{named_batch_shows, number_among}
use Rattle.tb_reads.proofs.Shown.{if_ok, shown_at}
use Rattle.tb_reads.proofs.single.batch_named.Goals as goal

pub fetch_first-requires : goal.fetch_first-requires
fetch_first-requires g c = reads_at select_named_batch (Text c.args.name.now ∷ []) (bound_value (owned c.params-to_sql.result) ∷ []) (named_batch_reads c.args.name.now) (search rules)

pub returns-clause-ok : goal.returns-clause-ok
returns-clause-ok g c clean = if_ok c.fetch_first.result (c.fetch_first.ensures.shown clean) (λ found it has xs holds.
    let name = c.args.name.now in
    let old = state g.S.Store c.args.conn.now in
    let new = state g.S.Store c.fetch_first.new.conn in
    let shown = shown_at select_named_batch old new it.0 (Text name ∷ []) _ it.1 (search rules) in
    number_found batch_shown (λ (x : Batch). x.name) (λ _ _. refl) (λ _ _. refl) name found xs it.0 (number_among it.0 found it.2) (named_batch_shows old new has it.0 name shown xs holds))

pub returns-clause-form : goal.returns-clause-form
returns-clause-form g c clean failed has xs low holds =
    let name = c.args.name.now in
    let old = state g.S.Store c.args.conn.now in
    let new = state g.S.Store c.fetch_first.new.conn in
    let it = c.fetch_first.ensures.form clean failed in
    let shown = shown_at select_named_batch old new it.0 (Text name ∷ []) _ it.1 (search rules) in
    keys_readable batch_shown (λ _ _. refl) (has_name name) xs it.0 low (named_batch_shows old new has it.0 name shown xs holds) it.2
