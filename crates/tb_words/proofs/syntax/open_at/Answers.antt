use Rattle.std.proofs.Common.{ap, Bool, fold, if◌then◌else◌, List, sym, ℕ, ◌∙◌}
use Rattle.std.specs.Str.Iter.{char_indices_offset, char_indices_rest}
use Rattle.tb_words.proofs.QueryChars.{all_places, counted_more, reached}
use Rattle.tb_words.specs.QueryPlaces.{is_before, open_after, signs_before, with_sign}
use Rattle.tb_words.proofs.syntax.open_at.Goals as goal

pub loop-place-preserved : goal.loop-place-preserved
loop-place-preserved c =
    counted_more (with_sign c.args.opens c.args.closes) (λ (place : ℕ × ℕ). is_before c.args.literals.now c.args.at place.0)
    c.loop-place.yielded (c.in-Some.place, c.in-Some.c) c.loop-place.count c.open_if-count.result c.loop-place.invariant
    (c.open_if-count.ensures ∙ ap (λ (b : Bool). if b then open_after c.args.opens c.args.closes c.loop-place.count c.in-Some.c
    else c.loop-place.count) c.is_before-is_counted.ensures)

pub returns : goal.returns
returns c =
    let made = c.into_iter-place-iterator.ensures.into_iter_gives in
    let seen = reached c.args.text.now c.loop-place.yielded c.into_iter-place-iterator.result c.loop-place.place-iterator c.utf8.text
    (ap char_indices_rest made ∙ c.char_indices-place-items.ensures.rest)
    (ap char_indices_offset made ∙ c.char_indices-place-items.ensures.offset) c.loop-place.yielded_by in
    c.loop-place.invariant ∙ ap (λ (places : List (ℕ × ℕ)). fold (with_sign c.args.opens c.args.closes) 0
    (signs_before c.args.literals.now c.args.at places)) (sym (all_places c.args.text.now c.loop-place.yielded _ _ seen c.in-None.ensures.steps.0))
