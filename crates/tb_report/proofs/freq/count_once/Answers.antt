use Rattle.std.proofs.Common.{refl, arith}
use Rattle.std.proofs.lemmas.Result.{on_ok_weaker}
use Rattle.tb_report.proofs.Joined.{counted_long, counted_short, long_once_more, short_once_more, total_of_both}
use Rattle.tb_report.proofs.freq.count_once.Goals as goal

pub count_short-requires-clause-room : goal.count_short-requires-clause-room
count_short-requires-clause-room c =
    let both = total_of_both c.args.short.now.entries c.args.long.now.entries c.requires.are_short c.requires.are_long in
    let room = c.requires.room in
    omega (arith, both, room)

pub returns-then-is_short-clause-counted : goal.returns-then-is_short-clause-counted
returns-then-is_short-clause-counted c =
    on_ok_weaker c.count_short.result
    (short_once_more c.args.short.now.entries c.count_short.new.counts.entries c.args.long.now.entries c.args.key.now c.requires.are_short c.count_short.ensures.are_short c.requires.are_long)
    c.count_short.ensures.counted

pub returns-then-is_short-clause-known : goal.returns-then-is_short-clause-known
returns-then-is_short-clause-known c = λ known.
    let same = counted_short c.args.short.now.entries c.args.long.now.entries c.requires.are_short c.requires.are_long c.args.key.now (c.if-is_short.ensures.yes refl) in
    c.count_short.ensures.known (omega (arith, known, same))

pub count_long-requires-clause-room : goal.count_long-requires-clause-room
count_long-requires-clause-room c =
    let both = total_of_both c.args.short.now.entries c.args.long.now.entries c.requires.are_short c.requires.are_long in
    let room = c.requires.room in
    omega (arith, both, room)

pub returns-clause-counted : goal.returns-clause-counted
returns-clause-counted c =
    on_ok_weaker c.count_long.result
    (long_once_more c.args.short.now.entries c.args.long.now.entries c.count_long.new.counts.entries c.args.key.now c.requires.are_short c.requires.are_long c.count_long.ensures.are_long)
    c.count_long.ensures.counted

pub returns-clause-known : goal.returns-clause-known
returns-clause-known c = λ known.
    let same = counted_long c.args.short.now.entries c.args.long.now.entries c.requires.are_short c.requires.are_long c.args.key.now (c.if-is_short.ensures.no refl) in
    c.count_long.ensures.known (omega (arith, known, same))
