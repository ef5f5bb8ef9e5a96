use Rattle.std.proofs.Common.{sym, ap, ◌∙◌}
use Rattle.tb_syntax.specs.Parsing.{head}
use Rattle.tb_syntax.proofs.PatternLemmas.{any_read, test_read, quote_read}
use Rattle.tb_syntax.proofs.parsing.expr_at.Goals as goal

pub returns-in-RightBracket-clause-exact : goal.returns-in-RightBracket-clause-exact
returns-in-RightBracket-clause-exact c =
    any_read c.args.lexemes.now c.tail-rest.result.now c.tail.result.now _ (sym c.head.ensures ∙ c.in-LeftBracket.is) c.tail-rest.ensures.rest
    (sym c.head-in-LeftBracket.ensures ∙ c.in-RightBracket.is) c.tail.ensures.rest c.any.ensures

pub returns-in_ok-test-in_default-head-clause-exact : goal.returns-in_ok-test-in_default-head-clause-exact
returns-in_ok-test-in_default-head-clause-exact c =
    test_read c.args.lexemes.now c.tail-rest.result.now c.in_ok-test-in_default-head.rest.now c.tail-in_default-head.result.now _ (sym c.head.ensures ∙ c.in-LeftBracket.is)
    c.tail-rest.ensures.rest (λ h. c.in_default-head.not-RightBracket (c.head-in-LeftBracket.ensures ∙ h)) c.in_ok-test-in_default-head.ensures.exact c.tail-in_default-head.ensures.rest

pub returns-in_default-clause-exact : goal.returns-in_default-clause-exact
returns-in_default-clause-exact c =
    quote_read c.args.lexemes.now c.literal_at.result.1.now c.literal_at.result.0 _ (λ h. c.in_default.not-LeftBracket (c.head.ensures ∙ h)) c.literal_at.ensures.exact c.whole.ensures

pub returns-in_err-test-in_default-head-clause-sure : goal.returns-in_err-test-in_default-head-clause-sure
returns-in_err-test-in_default-head-clause-sure c other = absurd (other (sym c.head.ensures ∙ c.in-LeftBracket.is))

pub returns-in_err-test-in_default-head-clause-any : goal.returns-in_err-test-in_default-head-clause-any
returns-in_err-test-in_default-head-clause-any c shut =
    absurd (c.in_default-head.not-RightBracket (c.head-in-LeftBracket.ensures ∙ ap head c.tail-rest.ensures.rest ∙ shut))
