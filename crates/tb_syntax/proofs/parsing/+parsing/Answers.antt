use Rattle.std.proofs.Common.{◌≡◌, List, map, length, min, sym, ◌∙◌, arith}
use Rattle.std.proofs.lemmas.List.{length-map}
use Rattle.std.specs.Borrow.{Bor}
use Rattle.tb_match.specs.Trees.{tree}
use Rattle.tb_syntax.specs.declared.lexeme.Lexeme.{Lexeme}
use Rattle.tb_syntax.specs.Exprs.{test}
use Rattle.tb_syntax.specs.Parsing.{ReadsItems, ReadsCats}
use Rattle.tb_syntax.proofs.TestLemmas as tests
use Rattle.tb_syntax.proofs.TestLemmas.{if_ok}
use Rattle.tb_syntax.proofs.PatternLemmas.{parens_read, expr_read, item_read, more_items, last_item, more_cats, last_cat, pushed}
use Rattle.tb_syntax.proofs.parsing.+parsing.Goals as goal

pub atom_at-returns-in_ok-alt-in-LeftParen-clause-exact : goal.atom_at-returns-in_ok-alt-in-LeftParen-clause-exact
atom_at-returns-in_ok-alt-in-LeftParen-clause-exact t c =
    parens_read c.args.lexemes.now c.tail.result.now c.in_ok-alt-in-LeftParen.rest.now c.tail-in-LeftParen.result.now _ _ _ (sym c.head.ensures ∙ c.in-LeftParen.is)
    c.tail.ensures.rest c.in_ok-alt-in-LeftParen.ensures.exact c.tail-in-LeftParen.ensures.rest

pub atom_at-returns-in_ok-push-in_default-clause-exact : goal.atom_at-returns-in_ok-push-in_default-clause-exact
atom_at-returns-in_ok-push-in_default-clause-exact t c =
    let old = c.args.exprs.now.items in
    let size : c.min-number.result ≡ min (length (map test old)) 65535 = omega (arith, length-map old test) in
    expr_read c.args.lexemes.now c.in_ok-expr-in_default.rest.now (map test old) (map test c.push.new.self.items) (test c.in_ok-expr-in_default.expr) c.min-number.result _
    (λ h. c.in_default.not-LeftParen (c.head.ensures ∙ h)) c.in_ok-expr-in_default.ensures.exact size c.tok.ensures
    (tests.pushed old c.push.new.self.items c.in_ok-expr-in_default.expr c.in_ok-push-in_default.ensures.items)

pub item_at-returns-clause-exact : goal.item_at-returns-clause-exact
item_at-returns-clause-exact t c =
    item_read c.args.lexemes.now c.in_ok-atom.rest.now c.repeat_at-bounds.result.1.now _ _ (tree c.in_ok-atom.atom) _ c.repeat_at-bounds.result.0
    c.in_ok-atom.ensures.exact c.repeat_at-bounds.ensures.exact c.in_ok-repeated.ensures.value

pub items_at-returns-then-begins_atom-clause-exact : goal.items_at-returns-then-begins_atom-clause-exact
items_at-returns-then-begins_atom-clause-exact t c =
    let old = map test c.args.exprs.now.items in
    let mid = map test c.item_at.new.exprs.items in
    let new = map test c.items_at.new.exprs.items in
    let before = map tree c.args.parts.now.items in
    let among = map tree c.push.new.self.items in
    let after = map tree c.items_at.new.parts.items in
    if_ok c.items_at.result (λ (rest : Bor (List Lexeme)). ReadsItems c.in_ok-item.rest.now mid new among after rest.now)
    (λ (rest : Bor (List Lexeme)). ReadsItems c.args.lexemes.now old new before after rest.now)
    (λ rest r. more_items c.args.lexemes.now c.in_ok-item.rest.now rest.now old mid new (tree c.in_ok-item.item) before among after
    c.in_ok-item.ensures.exact (sym c.begins_atom.ensures ∙ c.if-begins_atom.true)
    (pushed c.args.parts.now.items c.push.new.self.items c.in_ok-item.item c.in_ok-push.ensures.items) r)
    c.items_at.ensures.exact

pub items_at-returns-clause-exact : goal.items_at-returns-clause-exact
items_at-returns-clause-exact t c =
    last_item c.args.lexemes.now c.in_ok-item.rest.now _ _ (tree c.in_ok-item.item) (map tree c.args.parts.now.items) (map tree c.push.new.self.items)
    c.in_ok-item.ensures.exact (sym c.begins_atom.ensures ∙ c.if-begins_atom.false)
    (pushed c.args.parts.now.items c.push.new.self.items c.in_ok-item.item c.in_ok-push.ensures.items)

pub cats_at-returns-in-Bar-clause-exact : goal.cats_at-returns-in-Bar-clause-exact
cats_at-returns-in-Bar-clause-exact t c =
    let old = map test c.args.exprs.now.items in
    let mid = map test c.cat_at.new.exprs.items in
    let new = map test c.cats_at.new.exprs.items in
    let before = map tree c.args.parts.now.items in
    let among = map tree c.push.new.self.items in
    let after = map tree c.cats_at.new.parts.items in
    if_ok c.cats_at.result (λ (rest : Bor (List Lexeme)). ReadsCats c.tail.result.now mid new among after rest.now)
    (λ (rest : Bor (List Lexeme)). ReadsCats c.args.lexemes.now old new before after rest.now)
    (λ rest r. more_cats c.args.lexemes.now c.in_ok-cat.rest.now c.tail.result.now rest.now old mid new (tree c.in_ok-cat.cat) before among after
    c.in_ok-cat.ensures.exact (sym c.head.ensures ∙ c.in-Bar.is) c.tail.ensures.rest
    (pushed c.args.parts.now.items c.push.new.self.items c.in_ok-cat.cat c.in_ok-push.ensures.items) r)
    c.cats_at.ensures.exact

pub cats_at-returns-in_default-clause-exact : goal.cats_at-returns-in_default-clause-exact
cats_at-returns-in_default-clause-exact t c =
    last_cat c.args.lexemes.now c.in_ok-cat.rest.now _ _ (tree c.in_ok-cat.cat) (map tree c.args.parts.now.items) (map tree c.push.new.self.items)
    c.in_ok-cat.ensures.exact (λ h. c.in_default.not-Bar (c.head.ensures ∙ h))
    (pushed c.args.parts.now.items c.push.new.self.items c.in_ok-cat.cat c.in_ok-push.ensures.items)
