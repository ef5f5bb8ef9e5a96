use Rattle.std.proofs.Common.{◌≡◌, ◌+◌, ◌-◌, arith}
use Rattle.sqlite.specs.Held.{state}
use Rattle.sqlite.specs.State.{HasCleanDisk}
use Rattle.tb_reads.proofs.Shown.{if_ok}
use Rattle.tb_import.proofs.Left.{left_from, stays_from, desk_stays}
use Rattle.tb_import.proofs.Looks.{look_next, look_of, look_well}
use Rattle.tb_refine.proofs.DeskReads.{read_stopped}
use Rattle.tb_import.proofs.naming.find_name.Goals as goal

pub returns-clause-answered : goal.returns-clause-answered
returns-clause-answered g c clean = if_ok c.compare.result (c.compare.ensures.answered clean) (λ found reported s desk.
    let mid : HasCleanDisk (state g.S.Store c.batch_number.new.conn) = omega (arith, clean, c.compare.ensures.look.left.commits_nothing.clean) in
    let stays = stays_from c.in_ok-number.ensures.read.read_only in
    let here = desk_stays g.S.Store c.args.conn.now c.batch_number.new.conn stays mid s desk in
    let number = rw c.in-Some.is at (c.in_ok-number.ensures.answered mid s desk) in
    let at : c.in-Some.number ≡ (c.in-Some.number - 1) + 1 = (let above = number.1 in omega (arith, above)) in
    reported s c.args.name.now (c.in-Some.number - 1) number.0 here (record { there = number.2; named = number.3 }) at)

pub returns-in_err-number-clause-look : goal.returns-in_err-number-clause-look
returns-in_err-number-clause-look g c =
    look_of c.from_residual.result (read_stopped c.from_residual.result c.in_err-number.field-0.0 c.from_residual.ensures.1 c.in_err-number.ensures.read (λ clean s desk fails on. on fails))

pub returns-in_default-clause-look : goal.returns-in_default-clause-look
returns-in_default-clause-look g c = look_well (left_from c.batch_number.ensures.read.read_only) (stays_from c.in_ok-number.ensures.read.read_only) (λ s fine. fine)

pub returns-clause-look : goal.returns-clause-look
returns-clause-look g c =
    look_next (left_from c.batch_number.ensures.read.read_only) (stays_from c.in_ok-number.ensures.read.read_only) c.compare.ensures.look (λ mid s desk fails.
    let number = rw c.in-Some.is at (c.in_ok-number.ensures.answered mid s desk) in
    let at : c.in-Some.number ≡ (c.in-Some.number - 1) + 1 = (let above = number.1 in omega (arith, above)) in
    fails c.args.name.now (c.in-Some.number - 1) number.0 (record { there = number.2; named = number.3 }) at)
