use Rattle.std.proofs.Common.{codes, drop, List, string_bytes, subst, ℕ, ◌++◌, ◌≡◌}
use Rattle.std.specs.Result.{IfOk}
use Rattle.tb_words.proofs.patterns.with_backslash.Goals as goal

pub returns : goal.returns
returns c = λ at.
    subst (λ (bs : List ℕ). IfOk c.joined.result (λ made. string_bytes made ≡ (bs ++ codes "\\") ++ drop c.args.at c.args.text.now))
    (c.front.ensures at)
    (subst (λ (bs : List ℕ). IfOk c.joined.result (λ made. string_bytes made ≡ (c.front.result.now ++ codes "\\") ++ bs))
    (c.back.ensures at) c.joined.ensures)
