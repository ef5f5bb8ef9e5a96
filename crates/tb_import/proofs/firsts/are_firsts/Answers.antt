use Rattle.std.proofs.Common.{◌<◌, ◌≤◌, length, arith}
use Rattle.sqlite.specs.Held.{state}
use Rattle.sqlite.specs.State.{HasCleanDisk}
use Rattle.tb_import.proofs.Left.{left_then, stays_then, desk_stays}
use Rattle.tb_import.proofs.Follows.{next_of, one_more, other_text, ended}
use Rattle.tb_import.proofs.Looks.{look_ended, look_well}
use Rattle.tb_import.proofs.firsts.are_firsts.Goals as goal

pub returns-in_default-clause-answered : goal.returns-in_default-clause-answered
returns-in_default-clause-answered g c clean s bs desk firsts =
    let inv = c.loop-one.invariant in
    let i = c.loop-one.one-index in
    let low : i < length c.args.work.now = omega (arith, c.loop-one-test.true) in
    let mid : HasCleanDisk (state g.S.Store c.loop-one.conn) = omega (arith, clean, c.after_first.ensures.look.left.commits_nothing.clean) in
    let here = desk_stays g.S.Store c.args.conn.now c.loop-one.conn inv.1 mid s desk in
    let next = next_of s c.args.work.now bs i low firsts in
    let reported = rw c.in_default.is at (c.in_ok-more.ensures.answered clean s next.body here next.work.first) in
    other_text s c.args.work.now bs c.args.text.now firsts i c.loop-one.rest.now next (inv.2 mid s bs firsts desk) reported

pub loop-one-preserved : goal.loop-one-preserved
loop-one-preserved g c =
    let inv = c.loop-one.invariant in
    let i = c.loop-one.one-index in
    let low : i < length c.args.work.now = omega (arith, c.loop-one-test.true) in
    let read = c.after_first.ensures.look.left in (
      left_then g.S.Store c.args.conn.now c.loop-one.conn c.after_first.new.conn inv.0 inv.1 read,
      stays_then g.S.Store c.args.conn.now c.loop-one.conn c.after_first.new.conn inv.1 read c.in_ok-more.ensures.look.stays,
      λ clean s bs firsts desk.
          let mid : HasCleanDisk (state g.S.Store c.loop-one.conn) = omega (arith, clean, read.commits_nothing.clean) in
          let here = desk_stays g.S.Store c.args.conn.now c.loop-one.conn inv.1 mid s desk in
          let next = next_of s c.args.work.now bs i low firsts in
          let reported = rw c.in-Some.is at (c.in_ok-more.ensures.answered clean s next.body here next.work.first) in
          one_more s c.args.work.now bs c.args.text.now firsts i c.loop-one.rest.now c.in-Some.more.now next (inv.2 mid s bs firsts desk) reported,
    )

pub returns-clause-answered : goal.returns-clause-answered
returns-clause-answered g c clean s bs desk firsts =
    let past : length c.args.work.now ≤ c.loop-one.one-index = omega (arith, c.loop-one-test.false) in
    ended s c.args.work.now bs c.args.text.now firsts c.loop-one.one-index c.loop-one.rest.now c.is_empty.result past (c.loop-one.invariant.2 clean s bs firsts desk) c.is_empty.ensures

pub returns-in_err-more-clause-look : goal.returns-in_err-more-clause-look
returns-in_err-more-clause-look g c =
    let inv = c.loop-one.invariant in
    let i = c.loop-one.one-index in
    let low : i < length c.args.work.now = omega (arith, c.loop-one-test.true) in
    look_ended c.from_residual.result c.in_err-more.field-0.0 c.from_residual.ensures.1 inv.0 inv.1 c.in_err-more.ensures.look (λ mid s desk fails on bs firsts.
    let next = next_of s c.args.work.now bs i low firsts in
    on (fails next.body next.work.first))

pub returns-in_default-clause-look : goal.returns-in_default-clause-look
returns-in_default-clause-look g c =
    let inv = c.loop-one.invariant in
    let read = c.in_ok-more.ensures.look in
    look_well (left_then g.S.Store c.args.conn.now c.loop-one.conn c.after_first.new.conn inv.0 inv.1 read.left) (stays_then g.S.Store c.args.conn.now c.loop-one.conn c.after_first.new.conn inv.1 read.left read.stays) (λ s fine bs firsts. fine)

pub returns-clause-look : goal.returns-clause-look
returns-clause-look g c = look_well c.loop-one.invariant.0 c.loop-one.invariant.1 (λ s fine bs firsts. fine)
