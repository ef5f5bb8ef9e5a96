use Rattle.std.proofs.Common.{sym, subst, ◌∙◌}
use Rattle.sqlite.specs.Held.{state}
use Rattle.tb_tables.specs.Records.{Shows, number_shown, number_view}
use Rattle.tb_reads.proofs.Failing.{pulled_reads}
use Rattle.tb_reads.proofs.Ordered.{same_numbers}
use Rattle.tb_reads.proofs.Reading.{numbered_flat}
use Rattle.tb_reads.proofs.Shown.{if_ok}
use Rattle.tb_reads.proofs.Tables.{pulled_all, pulled_order, numbers_flat}
use Rattle.tb_reads.proofs.whole.pulled.Goals as goal

pub fetch_all-requires : goal.fetch_all-requires
fetch_all-requires g c = pulled_reads

pub returns-clause-ok : goal.returns-clause-ok
returns-clause-ok g c clean = if_ok c.fetch_all.result (c.fetch_all.ensures.shown clean) (λ v shown has.
    let old = state g.S.Store c.args.conn.now in
    subst (λ rows. Shows number_view rows (old.now.trees 9)) (numbers_flat v.items) (pulled_all old (state g.S.Store c.fetch_all.new.conn) has _ shown))

pub returns-clause-order : goal.returns-clause-order
returns-clause-order g c clean = if_ok c.fetch_all.result (c.fetch_all.ensures.shown clean) (λ v shown has ns up holds.
    same_numbers v.items ns (sym (numbers_flat v.items) ∙ pulled_order (state g.S.Store c.args.conn.now) (state g.S.Store c.fetch_all.new.conn) has _ shown ns up holds))

pub returns-clause-form : goal.returns-clause-form
returns-clause-form g c clean failed has ns each up holds =
    let it = c.fetch_all.ensures.form clean failed in
    it.2 ns each (pulled_order (state g.S.Store c.args.conn.now) (state g.S.Store c.fetch_all.new.conn) has it.0 it.1 ns up holds ∙ sym (numbered_flat number_shown 1 ns))
