use Rattle.std.proofs.Common.{Some, ap, subst, ◌∙◌}
use Rattle.std.specs.Str.Iter.{char_indices_offset, char_indices_rest}
use Rattle.tb_words.proofs.QueryBraces.{OfBrace, OfOther, Said, first_open, first_wrong, next_right, none_wrong}
use Rattle.tb_words.proofs.QueryChars.{all_places, next_place, reached}
use Rattle.tb_words.proofs.queries.repetition.Goals as goal

pub returns-in-Some-said : goal.returns-in-Some-said
returns-in-Some-said c =
    let made = c.into_iter-at-iterator.ensures.into_iter_gives in
    let seen = reached c.args.text.now c.loop-at.yielded c.into_iter-at-iterator.result c.loop-at.at-iterator c.utf8.text
    (ap char_indices_rest made ∙ c.char_indices-at-items.ensures.rest)
    (ap char_indices_offset made ∙ c.char_indices-at-items.ensures.offset) c.loop-at.yielded_by in
    let step = c.in-Some.ensures.steps in
    first_wrong c.args.text.now c.args.literals.now c.loop-at.yielded _ c.in-Some.at c.in-Some.c c.in-Some-said.sentence
    (next_place c.args.text.now c.loop-at.yielded _ _ _ _ c.in-Some.at c.in-Some.c seen step.0 step.1 step.2)
    c.loop-at.invariant
    (subst (λ (o : Said). OfOther c.args.literals.now c.in-Some.at c.in-Some.c (Some o)) c.in-Some-said.is c.in-Some-brace_fault.ensures.other)
    (subst (λ (o : Said). OfBrace c.args.text.now c.args.literals.now c.in-Some.at c.in-Some.c (Some o)) c.in-Some-said.is
    c.in-Some-brace_fault.ensures.brace)

pub returns-in_default : goal.returns-in_default
returns-in_default c =
    let made = c.into_iter-at-iterator.ensures.into_iter_gives in
    let seen = reached c.args.text.now c.loop-at.yielded c.into_iter-at-iterator.result c.loop-at.at-iterator c.utf8.text
    (ap char_indices_rest made ∙ c.char_indices-at-items.ensures.rest)
    (ap char_indices_offset made ∙ c.char_indices-at-items.ensures.offset) c.loop-at.yielded_by in
    let step = c.in-Some.ensures.steps in
    first_open c.args.text.now c.args.literals.now c.loop-at.yielded _ c.in-Some.at c.in-Some.c
    (next_place c.args.text.now c.loop-at.yielded _ _ _ _ c.in-Some.at c.in-Some.c seen step.0 step.1 step.2)
    c.loop-at.invariant c.in_default.ensures.other c.in_default.ensures.brace

pub loop-at-preserved : goal.loop-at-preserved
loop-at-preserved c =
    let made = c.into_iter-at-iterator.ensures.into_iter_gives in
    let seen = reached c.args.text.now c.loop-at.yielded c.into_iter-at-iterator.result c.loop-at.at-iterator c.utf8.text
    (ap char_indices_rest made ∙ c.char_indices-at-items.ensures.rest)
    (ap char_indices_offset made ∙ c.char_indices-at-items.ensures.offset) c.loop-at.yielded_by in
    let step = c.in-Some.ensures.steps in
    let here = next_place c.args.text.now c.loop-at.yielded _ _ _ _ c.in-Some.at c.in-Some.c seen step.0 step.1 step.2 in
    next_right c.args.text.now c.args.literals.now c.loop-at.yielded c.in-Some.at c.in-Some.c here.0 c.loop-at.invariant
    (subst (λ (o : Said). OfBrace c.args.text.now c.args.literals.now c.in-Some.at c.in-Some.c (Some o)) c.in_default-said.is
    c.in-Some-brace_fault.ensures.brace)

pub returns : goal.returns
returns c =
    let made = c.into_iter-at-iterator.ensures.into_iter_gives in
    let seen = reached c.args.text.now c.loop-at.yielded c.into_iter-at-iterator.result c.loop-at.at-iterator c.utf8.text
    (ap char_indices_rest made ∙ c.char_indices-at-items.ensures.rest)
    (ap char_indices_offset made ∙ c.char_indices-at-items.ensures.offset) c.loop-at.yielded_by in
    none_wrong c.args.text.now c.args.literals.now c.loop-at.yielded
    (all_places c.args.text.now c.loop-at.yielded _ _ seen c.in-None.ensures.steps.0) c.loop-at.invariant
