use Rattle.std.proofs.Common.{◌≡◌, ◌∙◌, ap, subst, string_bytes}
use Rattle.tb_syntax.specs.declared.lexeme.Flag.TheVariants.{NoCase, Literal}
use Rattle.tb_literal.specs.Literals.{IsPlainText, PlainLit}
use Rattle.tb_literal.proofs.PlainTexts.{plain_where_none}
use Rattle.tb_literal.proofs.matcher.LiteralMatcher.plain_text.Goals as goal

pub returns-in-None-clause-alone : goal.returns-in-None-clause-alone
returns-in-None-clause-alone c =
    let n = c.self.inside in
    subst IsPlainText c.self.view_is (plain_where_none n.flag (string_bytes n.text) n.built c.in-None.is c.self.invariant)

pub returns-in-Some-clause-literal : goal.returns-in-Some-clause-literal
returns-in-Some-clause-literal c = λ literal.
    let flag : c.self.inside.flag ≡ Literal = ap (λ (l : PlainLit). l.flag) c.self.view_is ∙ literal in
    let bad = rw (flag, c.in-Some.is) at c.self.invariant in absurd bad

pub returns-in-None-clause-no_case : goal.returns-in-None-clause-no_case
returns-in-None-clause-no_case c = λ no_case.
    let flag : c.self.inside.flag ≡ NoCase = ap (λ (l : PlainLit). l.flag) c.self.view_is ∙ no_case in
    let bad = rw (flag, c.in-None.is) at c.self.invariant in absurd bad
