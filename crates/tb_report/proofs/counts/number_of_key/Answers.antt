use Rattle.std.proofs.Common.{◌≡◌, ◌*◌, ◌^◌, ◌<◌, suc, ◌+◌, length, drop, sym, ap, subst, ◌∙◌, arith, add-one}
use Rattle.tb_report.specs.Kept.{number_after, number_of}
use Rattle.tb_report.proofs.Numbers.{all_taken, next_after, one_more, room_after}
use Rattle.tb_report.proofs.counts.number_of_key.Goals as goal

pub overflow_mul-number : goal.overflow_mul-number
overflow_mul-number c =
    let long = ap length c.as_bytes-byte-items.ensures.value in
    let short = c.requires in
    let inside = c.loop-byte-test.true in
    let room = room_after c.loop-byte.byte-index c.loop-byte.number 0 (omega (arith, long, short, inside)) c.loop-byte.invariant.1 (omega arith) in
    omega (arith, room)

pub overflow_add-number : goal.overflow_add-number
overflow_add-number c =
    let long = ap length c.as_bytes-byte-items.ensures.value in
    let short = c.requires in
    let inside = c.loop-byte-test.true in
    let byte = c.type_inv.byte-items c.loop-byte.byte-index in
    let from = c.from.ensures in
    let room = room_after c.loop-byte.byte-index c.loop-byte.number c.from.result (omega (arith, long, short, inside)) c.loop-byte.invariant.1 (omega (arith, byte, from)) in
    omega (arith, room)

pub loop-byte-preserved : goal.loop-byte-preserved
loop-byte-preserved c =
    let i = c.loop-byte.byte-index in
    let items = c.as_bytes-byte-items.result.now in
    let byte = c.type_inv.byte-items i in
    let from = c.from.ensures in
    let turn : number_after c.loop-byte.number (drop i items) ≡ number_after (c.loop-byte.number * 256 + c.from.result) (drop (suc i) items) =
    next_after c.loop-byte.number i items c.loop-byte-test.true ∙ ap (λ b. number_after (c.loop-byte.number * 256 + b) (drop (suc i) items)) (sym from) in
    subst (λ k. (number_after (c.loop-byte.number * 256 + c.from.result) (drop k items) ≡ number_of c.args.key.now) × (c.loop-byte.number * 256 + c.from.result < 2 * 256 ^ k)) (sym (add-one i))
    (sym turn ∙ c.loop-byte.invariant.0, one_more i c.loop-byte.number c.from.result c.loop-byte.invariant.1 (omega (arith, byte, from)))

pub returns : goal.returns
returns c = sym (all_taken c.loop-byte.number c.loop-byte.byte-index c.as_bytes-byte-items.result.now c.loop-byte-test.false) ∙ c.loop-byte.invariant.0
