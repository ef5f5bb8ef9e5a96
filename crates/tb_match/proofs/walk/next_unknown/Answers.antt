use Rattle.std.proofs.Common.{rules, ◌≡◌, ◌+◌, ◌*◌, ◌<◌, ◌^◌, get_or, arith, sym, subst, w64, ⊎_elim}
use Rattle.std.specs.Int.{trailing_zeros}
use Rattle.tb_match.specs.Bits.{InRow}
use Rattle.tb_match.proofs.Walks.{IsUnknown, unknown_in_word, in_row_or_not, none_before, lowest, no_bits}
use Rattle.tb_match.proofs.walk.next_unknown.Goals as goal

pub returns-then-bits-ne0-clause-order : goal.returns-then-bits-ne0-clause-order
returns-then-bits-ne0-clause-order c = λ h.
    let bits = c.bits_from-bits.result in
    let low = lowest bits c.if-bits-ne0.true (search rules) in
    let on = ((c.bits_from-bits.ensures (trailing_zeros w64 bits) low.0).0 low.1).1 in
    omega (arith, on, c.min.ensures, h)

pub returns-then-bits-ne0-clause-there : goal.returns-then-bits-ne0-clause-there
returns-then-bits-ne0-clause-there c = λ h.
    let cells = c.args.cells.now in
    let known = c.args.known.now in
    let bits = c.bits_from-bits.result in
    let word = c.loop-word.word in
    let fits = c.type_inv.known word in
    let small : get_or known word 0 < 2 ^ 64 = omega (arith, fits) in
    let low = lowest bits c.if-bits-ne0.true (search rules) in
    let z = trailing_zeros w64 bits in
    let e : c.min.result ≡ word * 64 + z = omega (arith, c.min.ensures, h) in
    subst (InRow cells c.args.at) (sym e)
    ((unknown_in_word cells known c.args.at word z low.0 small).0 ((c.bits_from-bits.ensures z low.0).0 low.1).0).0

pub returns-then-bits-ne0-clause-none : goal.returns-then-bits-ne0-clause-none
returns-then-bits-ne0-clause-none c = λ j start end here.
    let cells = c.args.cells.now in
    let known = c.args.known.now in
    let bits = c.bits_from-bits.result in
    let word = c.loop-word.word in
    let fits = c.type_inv.known word in
    let small : get_or known word 0 < 2 ^ 64 = omega (arith, fits) in
    let low = lowest bits c.if-bits-ne0.true (search rules) in
    let z = trailing_zeros w64 bits in
    let none = none_before (IsUnknown cells c.args.at known) word c.args.from bits z j
    (λ i h q on. (c.bits_from-bits.ensures i h).1 ((unknown_in_word cells known c.args.at word i h small).1 q, on))
    low.2 (omega (arith, low.0)) (λ k a b q. q.1 (c.loop-word.invariant k a b q.0)) start (omega (arith, c.min.ensures)) in
    ⊎_elim (λ is. is) (λ isnt. absurd (none (here, isnt))) (in_row_or_not known 0 j)

pub loop-word-preserved : goal.loop-word-preserved
loop-word-preserved c = λ j start end here.
    let cells = c.args.cells.now in
    let known = c.args.known.now in
    let bits = c.bits_from-bits.result in
    let word = c.loop-word.word in
    let fits = c.type_inv.known word in
    let small : get_or known word 0 < 2 ^ 64 = omega (arith, fits) in
    let none = none_before (IsUnknown cells c.args.at known) word c.args.from bits 64 j
    (λ i h q on. (c.bits_from-bits.ensures i h).1 ((unknown_in_word cells known c.args.at word i h small).1 q, on))
    (λ i _. no_bits bits i c.if-bits-ne0.false) (omega arith) (λ k a b q. q.1 (c.loop-word.invariant k a b q.0)) start (omega arith) in
    ⊎_elim (λ is. is) (λ isnt. absurd (none (here, isnt))) (in_row_or_not known 0 j)

pub returns-then-bits-ne0-clause-unknown : goal.returns-then-bits-ne0-clause-unknown
returns-then-bits-ne0-clause-unknown c = λ h.
    let cells = c.args.cells.now in
    let known = c.args.known.now in
    let bits = c.bits_from-bits.result in
    let word = c.loop-word.word in
    let fits = c.type_inv.known word in
    let small : get_or known word 0 < 2 ^ 64 = omega (arith, fits) in
    let low = lowest bits c.if-bits-ne0.true (search rules) in
    let z = trailing_zeros w64 bits in
    let e : c.min.result ≡ word * 64 + z = omega (arith, c.min.ensures, h) in
    subst (λ j. InRow known 0 j → ⊥) (sym e)
    ((unknown_in_word cells known c.args.at word z low.0 small).0 ((c.bits_from-bits.ensures z low.0).0 low.1).0).1
