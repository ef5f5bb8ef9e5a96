use Rattle.sqlite.specs.Held.{state}
use Rattle.tb_reads.proofs.Failing.{moves_reads}
use Rattle.tb_reads.proofs.Shown.{if_ok}
use Rattle.tb_reads.proofs.Tables.{moves_all, moves_order}
use Rattle.tb_reads.proofs.whole.moves.Goals as goal

pub fetch_all-requires : goal.fetch_all-requires
fetch_all-requires g c = moves_reads

pub returns-clause-ok : goal.returns-clause-ok
returns-clause-ok g c clean = if_ok c.fetch_all.result (c.fetch_all.ensures.shown clean) (λ v shown has.
    moves_all (state g.S.Store c.args.conn.now) (state g.S.Store c.fetch_all.new.conn) has _ shown)

pub returns-clause-form : goal.returns-clause-form
returns-clause-form g c clean failed has xs each holds =
    let it = c.fetch_all.ensures.form clean failed in
    it.2 xs each (moves_order (state g.S.Store c.args.conn.now) (state g.S.Store c.fetch_all.new.conn) has it.0 it.1 xs holds)
