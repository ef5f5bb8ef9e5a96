use Rattle.std.proofs.Common.{rules, ◌≡◌, ◌+◌, ◌*◌, arith, sym, subst, w64}
use Rattle.std.specs.Int.{trailing_zeros}
use Rattle.tb_match.specs.Bits.{InRow}
use Rattle.tb_match.proofs.Walks.{in_word, none_before, lowest, no_bits}
use Rattle.tb_match.proofs.walk.next_place.Goals as goal

pub returns-then-bits-ne0-clause-order : goal.returns-then-bits-ne0-clause-order
returns-then-bits-ne0-clause-order c = λ h.
    let bits = c.bits_from-bits.result in
    let low = lowest bits c.if-bits-ne0.true (search rules) in
    let on = ((c.bits_from-bits.ensures (trailing_zeros w64 bits) low.0).0 low.1).1 in
    omega (arith, on, c.min.ensures, h)

pub returns-then-bits-ne0-clause-there : goal.returns-then-bits-ne0-clause-there
returns-then-bits-ne0-clause-there c = λ h.
    let cells = c.args.cells.now in
    let bits = c.bits_from-bits.result in
    let low = lowest bits c.if-bits-ne0.true (search rules) in
    let z = trailing_zeros w64 bits in
    let e : c.min.result ≡ c.loop-word.word * 64 + z = omega (arith, c.min.ensures, h) in
    subst (InRow cells c.args.at) (sym e) ((in_word cells c.args.at c.loop-word.word z low.0).1 ((c.bits_from-bits.ensures z low.0).0 low.1).0)

pub returns-then-bits-ne0-clause-none : goal.returns-then-bits-ne0-clause-none
returns-then-bits-ne0-clause-none c = λ j start end.
    let cells = c.args.cells.now in
    let bits = c.bits_from-bits.result in
    let word = c.loop-word.word in
    let low = lowest bits c.if-bits-ne0.true (search rules) in
    let z = trailing_zeros w64 bits in
    none_before (InRow cells c.args.at) word c.args.from bits z j
    (λ i h q on. (c.bits_from-bits.ensures i h).1 ((in_word cells c.args.at word i h).0 q, on))
    low.2 (omega (arith, low.0)) c.loop-word.invariant start (omega (arith, c.min.ensures))

pub loop-word-preserved : goal.loop-word-preserved
loop-word-preserved c = λ j start end.
    let cells = c.args.cells.now in
    let bits = c.bits_from-bits.result in
    let word = c.loop-word.word in
    none_before (InRow cells c.args.at) word c.args.from bits 64 j
    (λ i h q on. (c.bits_from-bits.ensures i h).1 ((in_word cells c.args.at word i h).0 q, on))
    (λ i _. no_bits bits i c.if-bits-ne0.false) (omega arith) c.loop-word.invariant start (omega arith)
