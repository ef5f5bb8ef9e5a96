use Rattle.std.proofs.Common.{◌≡◌, ◌+◌, drop, arith, ap, sym, subst}
use Rattle.tb_match.specs.Facts.{Holds}
use Rattle.tb_match.specs.Match.{Match}
use Rattle.tb_match.specs.Possible.{PartsMatch, PartsMayMatch}
use Rattle.tb_match.specs.Trees.{tree, trees}
use Rattle.tb_match.specs.Weight.{AllProper, IsProper, weight_of, weight_of_all}
use Rattle.tb_match.proofs.Parts.{is_cat, is_alt, is_rep, next_part, first_link, weight_ahead, on_may, decided_may, on_match, decided_none, all_left, no_part_left}
use Rattle.tb_match.proofs.possible.+can_match.Goals as goal

pub can_match-can_parts_match-requires : goal.can_match-can_parts_match-requires
can_match-can_parts_match-requires t c =
    let shown = is_cat c.args.pat.now c.in-Cat.parts c.deref.result.now c.in-Cat.is c.deref.ensures.value in
    let e : weight_of (tree c.args.pat.now) ≡ weight_of_all (trees c.deref.result.now) = ap weight_of shown in
    (omega (arith, c.decreases), subst (IsProper c.args.truth.now.exprs) shown c.requires)

pub can_match-can_parts_match-requires-in-Alt : goal.can_match-can_parts_match-requires-in-Alt
can_match-can_parts_match-requires-in-Alt t c =
    let shown = is_alt c.args.pat.now c.in-Alt.parts c.deref-in-Alt.result.now c.in-Alt.is c.deref-in-Alt.ensures.value in
    let e : weight_of (tree c.args.pat.now) ≡ weight_of_all (trees c.deref-in-Alt.result.now) = ap weight_of shown in
    (omega (arith, c.decreases), subst (IsProper c.args.truth.now.exprs) shown c.requires)

pub can_match-returns-in-Cat-clause-no : goal.can_match-returns-in-Cat-clause-no
can_match-returns-in-Cat-clause-no t c = λ e i j h.
    let shown = is_cat c.args.pat.now c.in-Cat.parts c.deref.result.now c.in-Cat.is c.deref.ensures.value in
    c.can_parts_match.ensures.no e i j (subst (λ p. Match (Holds c.args.truth.now) p i j) shown h)

pub can_match-returns-in-Alt-clause-no : goal.can_match-returns-in-Alt-clause-no
can_match-returns-in-Alt-clause-no t c = λ e i j h.
    let shown = is_alt c.args.pat.now c.in-Alt.parts c.deref-in-Alt.result.now c.in-Alt.is c.deref-in-Alt.ensures.value in
    c.can_parts_match-in-Alt.ensures.no e i j (subst (λ p. Match (Holds c.args.truth.now) p i j) shown h)

pub can_match-returns-else-least-eq0-clause-no : goal.can_match-returns-else-least-eq0-clause-no
can_match-returns-else-least-eq0-clause-no t c = λ e i j h.
    let H = Holds c.args.truth.now in
    let shown = is_rep c.args.pat.now c.in-Rep.inner c.deref-else-least-eq0.result.now c.in-Rep.least c.in-Rep.field-2 c.in-Rep.is c.deref-else-least-eq0.ensures in
    let first = first_link H (tree c.deref-else-least-eq0.result.now) c.in-Rep.least c.in-Rep.field-2 i j c.if-least-eq0.false (subst (λ p. Match H p i j) shown h) in
    c.can_match.ensures.no e i first.0 first.1

pub can_parts_match-can_match-may-requires : goal.can_parts_match-can_match-may-requires
can_parts_match-can_match-may-requires t c =
    let ps = c.args.parts.now in
    let k = c.loop-part.part-index in
    let x = c.part-item.result in
    let next = next_part ps k x c.loop-part-test.true c.part-item.is (λ qs. qs) in
    let e : weight_of_all (trees (drop k ps)) ≡ weight_of (tree x) + 1 + weight_of_all (trees (drop (k + 1) ps)) = ap weight_of_all next in
    let ahead = weight_ahead ps k in
    (omega (arith, c.decreases), (subst (AllProper c.args.truth.now.exprs) next c.loop-part.invariant.proper).0)

pub can_parts_match-loop-part-preserved : goal.can_parts_match-loop-part-preserved
can_parts_match-loop-part-preserved t c =
    let ps = c.args.parts.now in
    let H = Holds c.args.truth.now in
    let k = c.loop-part.part-index in
    let x = c.part-item.result in
    let next = next_part ps k x c.loop-part-test.true c.part-item.is (λ qs. qs) in
    let left = trees (drop (k + 1) ps) in
    let may = c.can_match-may in
    record {
      proper = (subst (AllProper c.args.truth.now.exprs) next c.loop-part.invariant.proper).1;
      so_far = λ rest. c.loop-part.invariant.so_far
          (subst (PartsMayMatch c.args.all c.args.truth.now) (sym next) (on_may c.args.truth.now (tree x) left c.args.all may.result c.if-may-all.false may.ensures.yes rest));
      rest = λ i j h.
          let (m, ahead) = c.loop-part.invariant.rest i j h in
          on_match H (tree x) left c.args.all may.result c.if-may-all.false may.ensures.no m j (subst (λ qs. PartsMatch c.args.all H qs m j) next ahead);
    }

pub can_parts_match-returns-then-may-all-clause-yes : goal.can_parts_match-returns-then-may-all-clause-yes
can_parts_match-returns-then-may-all-clause-yes t c = λ is.
    let ps = c.args.parts.now in
    let k = c.loop-part.part-index in
    let x = c.part-item.result in
    let next = next_part ps k x c.loop-part-test.true c.part-item.is (λ qs. qs) in
    c.loop-part.invariant.so_far (subst (PartsMayMatch c.args.all c.args.truth.now) (sym next)
    (decided_may c.args.truth.now (tree x) (trees (drop (k + 1) ps)) c.args.all c.can_match-may.result c.if-may-all.true is (c.can_match-may.ensures.yes is)))

pub can_parts_match-returns-then-may-all-clause-no : goal.can_parts_match-returns-then-may-all-clause-no
can_parts_match-returns-then-may-all-clause-no t c = λ is i j h.
    let H = Holds c.args.truth.now in
    let ps = c.args.parts.now in
    let k = c.loop-part.part-index in
    let x = c.part-item.result in
    let next = next_part ps k x c.loop-part-test.true c.part-item.is (λ qs. qs) in
    let (m, ahead) = c.loop-part.invariant.rest i j h in
    decided_none H (tree x) (trees (drop (k + 1) ps)) c.args.all c.can_match-may.result c.if-may-all.true is (c.can_match-may.ensures.no is) m j
    (subst (λ qs. PartsMatch c.args.all H qs m j) next ahead)

pub can_parts_match-returns-clause-yes : goal.can_parts_match-returns-clause-yes
can_parts_match-returns-clause-yes t c = λ is.
    c.loop-part.invariant.so_far (all_left c.args.truth.now c.args.parts.now c.loop-part.part-index c.args.all is (omega (arith, c.loop-part-test.false)))

pub can_parts_match-returns-clause-no : goal.can_parts_match-returns-clause-no
can_parts_match-returns-clause-no t c = λ is i j h.
    let (m, ahead) = c.loop-part.invariant.rest i j h in
    no_part_left (Holds c.args.truth.now) c.args.parts.now c.loop-part.part-index c.args.all is (omega (arith, c.loop-part-test.false)) m j ahead
