use Rattle.std.proofs.Common.{◌≡◌, ◌-◌, rules, ap, ◌∙◌, slice_get, map, [], ◌∷◌, pos}
use Rattle.sqlite.specs.declared.types.Value.TheVariants.{Int}
use Rattle.sqlite.specs.Held.{state}
use Rattle.sqlite.specs.Values.{bound_value}
use Rattle.sqlite_value.specs.Value.{owned}
use Rattle.std.specs.Option.{option_to_list}
use Rattle.tb_tables.specs.Records.{batch_shown}
use Rattle.tb_tables.specs.Values.{batch_of}
use Rattle.tb_reads.specs.Readable.{IsBatch}
use Rattle.tb_reads.proofs.Queries.{select_batch}
use Rattle.tb_reads.proofs.Failing.{reads_at, batch_reads}
use Rattle.tb_reads.proofs.Picks.{batch_shows, batch_same, one_found, one_readable}
use Rattle.tb_reads.proofs.Shown.{if_ok, shown_at}
use Rattle.tb_reads.proofs.single.batch.Goals as goal

pub fetch_first-requires : goal.fetch_first-requires
fetch_first-requires g c = reads_at select_batch (Int (pos c.args.number) ∷ []) (bound_value (owned c.params-to_sql.result) ∷ []) (batch_reads c.args.number) (search rules)

pub returns-clause-ok : goal.returns-clause-ok
returns-clause-ok g c clean = if_ok c.fetch_first.result (c.fetch_first.ensures.shown clean) (λ found it has xs holds.
    let n = c.args.number in
    let old = state g.S.Store c.args.conn.now in
    let new = state g.S.Store c.fetch_first.new.conn in
    let shown = shown_at select_batch old new it.0 (Int (pos n) ∷ []) _ it.1 (search rules) in
    let number : n ≡ c.from.result = search rules in
    one_found batch_of (batch_shown c.from.result) it.0 (batch_same c.from.result) found (slice_get xs (n - 1)) it.2
    (batch_shows old new has it.0 n c.requires.row shown xs holds ∙ ap (λ m. map (batch_shown m) (option_to_list (slice_get xs (n - 1)))) number))

pub returns-clause-form : goal.returns-clause-form
returns-clause-form g c clean failed has xs each holds =
    let n = c.args.number in
    let old = state g.S.Store c.args.conn.now in
    let new = state g.S.Store c.fetch_first.new.conn in
    let it = c.fetch_first.ensures.form clean failed in
    let shown = shown_at select_batch old new it.0 (Int (pos n) ∷ []) _ it.1 (search rules) in
    let number : n ≡ c.from.result = search rules in
    one_readable IsBatch (batch_shown c.from.result) it.0 xs (n - 1) each
    (batch_shows old new has it.0 n c.requires.row shown xs holds ∙ ap (λ m. map (batch_shown m) (option_to_list (slice_get xs (n - 1)))) number) it.2
