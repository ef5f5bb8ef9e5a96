use Rattle.std.proofs.Common.{◌≡◌, ap, arith, length, rules, subst, sym}
use Rattle.tb_conllu.specs.Marks.{AreMarks}
use Rattle.tb_conllu.proofs.MarkedBytes.{cut_after, cut_there, from_start, in_text, none_left, one_less, whole_there}
use Rattle.tb_conllu.proofs.scanner.FieldScanner.cut.Goals as goal

pub invariant_of-self : goal.invariant_of-self
invariant_of-self c =
    let known = rw c.as_bytes.ensures.value at (c.marks_left-base.ensures.known c.self.inside.start) in
    (c.self.invariant.0, known c.self.invariant.1)

pub returns-then-marks-eq0 : goal.returns-then-marks-eq0
returns-then-marks-eq0 c =
    let known = rw c.as_bytes.ensures.value at (c.marks_left-base.ensures.known c.self.inside.start) in
    let none : c.marks_left-base.result.1 ≡ 0 = search rules in
    let ended = rw c.as_bytes.ensures.value at (c.marks_left-base.ensures.ended none) in
    (rw (sym c.self.view_is) (none_left c.self.inside.text.now c.self.inside.start c.marks_left-base.result.0 (subst (λ m. AreMarks c.self.inside.text.now c.self.inside.start c.marks_left-base.result.0 m) none (known c.self.invariant.1)) ended), c.self.view_is)

pub overflow_add-end : goal.overflow_add-end
overflow_add-end c =
    let known = rw c.as_bytes.ensures.value at (c.marks_left-base.ensures.known c.self.inside.start) in
    let inside = in_text c.self.inside.text.now c.self.inside.start c.marks_left-base.result.0 c.marks_left-base.result.1 c.lowest.result (known c.self.invariant.1) c.lowest.ensures.set c.lowest.ensures.below in
    record { fits = omega (arith, inside, c.as_bytes.ensures.len, ap length c.as_bytes.ensures.value) }

pub range-part-requires-clause-start_le_end : goal.range-part-requires-clause-start_le_end
range-part-requires-clause-start_le_end c =
    let known = rw c.as_bytes.ensures.value at (c.marks_left-base.ensures.known c.self.inside.start) in
    from_start c.self.inside.text.now c.self.inside.start c.marks_left-base.result.0 c.marks_left-base.result.1 c.lowest.result (known c.self.invariant.1) c.lowest.ensures.set c.lowest.ensures.below

pub range-part-requires-clause-end_boundary : goal.range-part-requires-clause-end_boundary
range-part-requires-clause-end_boundary c =
    let known = rw c.as_bytes.ensures.value at (c.marks_left-base.ensures.known c.self.inside.start) in
    let inside = in_text c.self.inside.text.now c.self.inside.start c.marks_left-base.result.0 c.marks_left-base.result.1 c.lowest.result (known c.self.invariant.1) c.lowest.ensures.set c.lowest.ensures.below in
    (omega (arith, inside), λ l high. whole_there c.self.inside.text.now c.self.inside.start c.marks_left-base.result.0 c.marks_left-base.result.1 c.lowest.result (known c.self.invariant.1) c.lowest.ensures.set c.lowest.ensures.below high)

pub invariant_of-self-2 : goal.invariant_of-self-2
invariant_of-self-2 c =
    let known = rw c.as_bytes.ensures.value at (c.marks_left-base.ensures.known c.self.inside.start) in
    let set = c.lowest.ensures.set in
    let below = c.lowest.ensures.below in (
      cut_after c.self.inside.text.now c.self.inside.start c.marks_left-base.result.0 c.marks_left-base.result.1 c.lowest.result (known c.self.invariant.1) set below c.self.invariant.0,
      one_less c.self.inside.text.now c.self.inside.start c.marks_left-base.result.0 c.marks_left-base.result.1 c.lowest.result (known c.self.invariant.1) set below c.without_lowest-self-inside.result (λ k. c.without_lowest-self-inside.ensures c.lowest.result k set below),
    )

pub returns : goal.returns
returns c =
    let known = rw c.as_bytes.ensures.value at (c.marks_left-base.ensures.known c.self.inside.start) in
    rw (c.range-part.ensures.value, sym c.self.view_is) (cut_there c.self.inside.text.now c.self.inside.start c.marks_left-base.result.0 c.marks_left-base.result.1 c.lowest.result (known c.self.invariant.1) c.lowest.ensures.set c.lowest.ensures.below)
