use Rattle.std.proofs.Common.{ap, arith, chars, length-drop, List, refl, subst, sym, ℕ, length, ◌∙◌}
use Rattle.std.specs.Str.Iter.{char_indices_offset, char_indices_rest}
use Rattle.tb_words.proofs.QueryChars.{reached}
use Rattle.tb_words.proofs.QueryScan.{Scanned, all_taken, one_taken, scanned_none}
use Rattle.tb_words.specs.QueryLiterals.{AreLiterals}
use Rattle.tb_words.specs.declared.literals.Literal.{Literal}
use Rattle.tb_words.proofs.literals.literals.Goals as goal

pub loop-at-init : goal.loop-at-init
loop-at-init c =
    let made = c.into_iter-at-iterator.ensures.into_iter_gives in
    scanned_none c.args.text.now c.new-reading.result c.new-found.result.items _ _ c.new-reading.ensures c.new-found.ensures.items
    (ap char_indices_rest made ∙ c.char_indices-at-items.ensures.rest)
    (ap char_indices_offset made ∙ c.char_indices-at-items.ensures.offset)

pub loop-at-preserved : goal.loop-at-preserved
loop-at-preserved c =
    let made = c.into_iter-at-iterator.ensures.into_iter_gives in
    let seen = reached c.args.text.now c.loop-at.yielded c.into_iter-at-iterator.result c.loop-at.at-iterator c.utf8.text
    (ap char_indices_rest made ∙ c.char_indices-at-items.ensures.rest)
    (ap char_indices_offset made ∙ c.char_indices-at-items.ensures.offset) c.loop-at.yielded_by in
    let step = c.in-Some.ensures.steps in
    subst (λ (fs : List Literal). Scanned c.args.text.now c.take.new.self fs (char_indices_rest c.next.new.self)
    (char_indices_offset c.next.new.self)) (sym c.in_ok-push_ended.ensures)
    (one_taken c.args.text.now c.loop-at.reading c.take.new.self c.loop-at.found.items _ _ _ _ c.in-Some.at c.in-Some.c c.take.result
    seen.utf8 c.loop-at.invariant step.0 step.1 step.2 (record {
      literal = c.take.ensures.literal;
      quote = c.take.ensures.quote;
      inside = c.take.ensures.inside;
      closed = c.take.ensures.closed;
      outside = c.take.ensures.outside;
    }))

pub returns : goal.returns
returns c =
    let made = c.into_iter-at-iterator.ensures.into_iter_gives in
    let seen = reached c.args.text.now c.loop-at.yielded c.into_iter-at-iterator.result c.loop-at.at-iterator c.utf8.text
    (ap char_indices_rest made ∙ c.char_indices-at-items.ensures.rest)
    (ap char_indices_offset made ∙ c.char_indices-at-items.ensures.offset) c.loop-at.yielded_by in
    let none = c.in-None.ensures.steps.0 in
    let left = sym none ∙ (ap (λ (bs : List ℕ). length bs) seen.left ∙ length-drop (char_indices_offset c.loop-at.at-iterator) c.args.text.now) in
    subst (λ (fs : List Literal). AreLiterals 0 (chars c.args.text.now) fs) (sym c.in_ok-push_ended-2.ensures)
    (all_taken c.args.text.now c.loop-at.reading c.loop-at.found.items _ _ (length c.args.text.now) c.end.result c.loop-at.invariant none
    (omega (arith, left, seen.cut.0)) refl c.end.ensures.literal c.end.ensures.left)
