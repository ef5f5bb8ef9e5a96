use Rattle.std.proofs.Common.{◌≡◌, ◌++◌, ◌∙◌, sym, ap, false}
use lib.Utf8.{encode}
use Rattle.std.specs.String.{string_bytes}
use Rattle.tb_syntax.specs.First.{said_of}
use Rattle.tb_syntax.proofs.Firsts.{says_that}
use Rattle.tb_syntax.proofs.Quotes.{opened}
use Rattle.tb_syntax.proofs.TestLemmas.{if_ok}
use Rattle.tb_syntax.proofs.unquoting.unquote.Goals as goal

pub returns-in-Some : goal.returns-in-Some
returns-in-Some c s h =
    let q = c.in-Some.quote in
    let rest = c.as_str.result.now in
    let o = opened q c.args.literal.now rest s (sym c.chars-rest.ensures.rest ∙ c.in-Some.ensures.steps.0 ∙ ap (λ x. encode q ++ x) (sym c.as_str.ensures)) h in
    if_ok c.said_after.result (λ v. string_bytes v ≡ said_of q false rest) (λ v. string_bytes v ≡ s) (λ v e. says_that q rest (string_bytes v) s e o.1) (c.said_after.ensures o.0)
