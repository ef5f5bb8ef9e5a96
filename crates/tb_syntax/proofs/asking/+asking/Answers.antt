use Rattle.std.proofs.Common.{List, map, sym, ◌∙◌}
use Rattle.std.specs.Borrow.{Bor}
use Rattle.tb_syntax.specs.declared.lexeme.Lexeme.{Lexeme}
use Rattle.tb_syntax.specs.Exprs.{test}
use Rattle.tb_syntax.specs.Parsing.{ReadsUnits, ReadsConjs}
use Rattle.tb_syntax.proofs.TestLemmas.{grouped_read, no_unit, more_units, last_unit, more_conjs, last_conj, pushed, if_ok}
use Rattle.tb_syntax.proofs.asking.+asking.Goals as goal

pub plain_unit_at-returns-in_ok-expr-in-LeftParen-clause-exact : goal.plain_unit_at-returns-in_ok-expr-in-LeftParen-clause-exact
plain_unit_at-returns-in_ok-expr-in-LeftParen-clause-exact t c _ =
    grouped_read c.args.lexemes.now c.tail-rest.result.now c.in_ok-expr-in-LeftParen.rest.now c.tail.result.now _ c.tail-rest.ensures.rest
    c.in_ok-expr-in-LeftParen.ensures.exact c.tail.ensures.rest (sym c.head.ensures ∙ c.in-LeftParen.is)

pub plain_unit_at-returns-in_default-clause-exact : goal.plain_unit_at-returns-in_default-clause-exact
plain_unit_at-returns-in_default-clause-exact t c plain =
    no_unit c.args.lexemes.now c.tail-rest.result.now _ (λ h. c.in_default.not-LeftParen (c.head.ensures ∙ h)) plain
    (λ a h. c.in_default.not-Name a (c.head.ensures ∙ h))

pub plain_unit_at-returns-in_err-expr-in-LeftParen-clause-sure : goal.plain_unit_at-returns-in_err-expr-in-LeftParen-clause-sure
plain_unit_at-returns-in_err-expr-in-LeftParen-clause-sure t c other _ = absurd (other (sym c.head.ensures ∙ c.in-LeftParen.is))

pub plain_unit_at-returns-in-Name-clause-sure : goal.plain_unit_at-returns-in-Name-clause-sure
plain_unit_at-returns-in-Name-clause-sure t c _ other = absurd (other c.in-Name.attr (sym c.head.ensures ∙ c.in-Name.is))

pub units_at-returns-in-And-clause-exact : goal.units_at-returns-in-And-clause-exact
units_at-returns-in-And-clause-exact t c =
    let old = map test c.args.parts.now.items in
    let new = map test c.units_at.new.parts.items in
    if_ok c.units_at.result (λ (rest : Bor (List Lexeme)). ReadsUnits c.tail.result.now (map test c.push.new.self.items) new rest.now)
    (λ (rest : Bor (List Lexeme)). ReadsUnits c.args.lexemes.now old new rest.now)
    (λ rest r. more_units c.args.lexemes.now c.in_ok-unit.rest.now c.tail.result.now rest.now (test c.in_ok-unit.unit) old (map test c.push.new.self.items) new
    c.in_ok-unit.ensures.exact (sym c.head.ensures ∙ c.in-And.is) c.tail.ensures.rest
    (pushed c.args.parts.now.items c.push.new.self.items c.in_ok-unit.unit c.in_ok-push.ensures.items) r)
    c.units_at.ensures.exact

pub units_at-returns-in_default-clause-exact : goal.units_at-returns-in_default-clause-exact
units_at-returns-in_default-clause-exact t c =
    last_unit c.args.lexemes.now c.in_ok-unit.rest.now (test c.in_ok-unit.unit) (map test c.args.parts.now.items) (map test c.push.new.self.items)
    c.in_ok-unit.ensures.exact (λ h. c.in_default.not-And (c.head.ensures ∙ h))
    (pushed c.args.parts.now.items c.push.new.self.items c.in_ok-unit.unit c.in_ok-push.ensures.items)

pub conjs_at-returns-in-Bar-clause-exact : goal.conjs_at-returns-in-Bar-clause-exact
conjs_at-returns-in-Bar-clause-exact t c =
    let old = map test c.args.parts.now.items in
    let new = map test c.conjs_at.new.parts.items in
    if_ok c.conjs_at.result (λ (rest : Bor (List Lexeme)). ReadsConjs c.tail.result.now (map test c.push.new.self.items) new rest.now)
    (λ (rest : Bor (List Lexeme)). ReadsConjs c.args.lexemes.now old new rest.now)
    (λ rest r. more_conjs c.args.lexemes.now c.in_ok-conj.rest.now c.tail.result.now rest.now (test c.in_ok-conj.conj) old (map test c.push.new.self.items) new
    c.in_ok-conj.ensures.exact (sym c.head.ensures ∙ c.in-Bar.is) c.tail.ensures.rest
    (pushed c.args.parts.now.items c.push.new.self.items c.in_ok-conj.conj c.in_ok-push.ensures.items) r)
    c.conjs_at.ensures.exact

pub conjs_at-returns-in_default-clause-exact : goal.conjs_at-returns-in_default-clause-exact
conjs_at-returns-in_default-clause-exact t c =
    last_conj c.args.lexemes.now c.in_ok-conj.rest.now (test c.in_ok-conj.conj) (map test c.args.parts.now.items) (map test c.push.new.self.items)
    c.in_ok-conj.ensures.exact (λ h. c.in_default.not-Bar (c.head.ensures ∙ h))
    (pushed c.args.parts.now.items c.push.new.self.items c.in_ok-conj.conj c.in_ok-push.ensures.items)
