use Rattle.std.proofs.Common.{rules, sym, ap, map, map-id, ◌∙◌, [], ◌∷◌, pos}
use Rattle.sqlite.specs.declared.types.Value.TheVariants.{Int}
use Rattle.sqlite.specs.Held.{state}
use Rattle.sqlite.specs.Values.{bound_value}
use Rattle.sqlite_value.specs.Value.{owned}
use Rattle.tb_reads.specs.Found.{work_of, work_shown}
use Rattle.tb_reads.proofs.Queries.{select_work}
use Rattle.tb_reads.proofs.Failing.{reads_at, work_reads}
use Rattle.tb_reads.proofs.Ordered.{same_work}
use Rattle.tb_reads.proofs.Picks.{work_is_shown}
use Rattle.tb_reads.proofs.Reading.{numbered_flat}
use Rattle.tb_reads.proofs.Sifted.{work_readable}
use Rattle.tb_reads.proofs.Shown.{if_ok, shown_at}
use Rattle.tb_reads.proofs.work.sentences_of.Goals as goal

pub fetch_all-requires : goal.fetch_all-requires
fetch_all-requires g c = reads_at select_work (Int (pos c.args.batch) ∷ []) (bound_value (owned c.params-to_sql.result) ∷ []) (work_reads c.args.batch) (search rules)

pub returns-clause-ok : goal.returns-clause-ok
returns-clause-ok g c clean = if_ok c.fetch_all.result (c.fetch_all.ensures.shown clean) (λ v given has xs holds.
    let old = state g.S.Store c.args.conn.now in
    let new = state g.S.Store c.fetch_all.new.conn in
    let shown = shown_at select_work old new _ (Int (pos c.args.batch) ∷ []) _ given (search rules) in
    let flat = numbered_flat work_shown 1 (map (λ w. w) v.items) ∙ ap (map work_shown) (map-id v.items) in
    same_work v.items (work_of c.args.batch 1 xs) (sym flat ∙ work_is_shown old new has _ c.args.batch shown xs holds))

pub returns-clause-form : goal.returns-clause-form
returns-clause-form g c clean failed has xs each low holds =
    let old = state g.S.Store c.args.conn.now in
    let new = state g.S.Store c.fetch_all.new.conn in
    let it = c.fetch_all.ensures.form clean failed in
    let shown = shown_at select_work old new it.0 (Int (pos c.args.batch) ∷ []) _ it.1 (search rules) in
    let listed = work_of c.args.batch 1 xs in
    it.2 listed (work_readable c.args.batch xs each low) (work_is_shown old new has it.0 c.args.batch shown xs holds ∙ sym (numbered_flat work_shown 1 listed))
