use Rattle.std.proofs.Common.{◌<◌, ◌-◌, arith, subst}
use Rattle.sqlite.specs.Held.{state}
use Rattle.tb_tables.specs.Changes.{Changes}
use Rattle.tb_tables.specs.Values.{total_of}
use Rattle.tb_tables.proofs.Numbers.{is_there, total_replaced_is}
use Rattle.tb_tables.proofs.recording.write_total.Goals as goal

pub returns-clause-ok : goal.returns-clause-ok
returns-clause-ok g c clean inside d low stands =
    let old = state g.S.Store c.args.tx.now.conn.now in
    let new = state g.S.Store c.update_total.new.tx.conn.now in
    let positive : 0 < c.args.in_state = omega arith in
    let there = is_there d.totals (c.args.in_state - 1) (omega (arith, low)) in
    let made = c.in_ok-update_total.ensures.ok clean inside d there.0 there.1 stands in
    subst (Changes old new d) (total_replaced_is d c.args.in_state (total_of c.args.total.now) positive) made
