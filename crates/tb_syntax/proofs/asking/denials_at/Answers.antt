use Rattle.std.proofs.Common.{rules, ◌≡◌, arith}
use Rattle.tb_syntax.specs.declared.lexeme.Lexeme.TheVariants.{Not}
use Rattle.tb_syntax.specs.Parsing.{head}
use Rattle.tb_syntax.proofs.TestLemmas.{some_left, one_denial}
use Rattle.tb_syntax.proofs.asking.denials_at.Goals as goal

pub loop-rest-preserved : goal.loop-rest-preserved
loop-rest-preserved c =
    let l = c.loop-rest in
    let here : head l.rest.now ≡ Not = search rules in
    let some = some_left l.rest.now here in
    record {
      all = omega (arith, l.invariant.all, some, c.tail-rest.ensures.shorter);
      exact = λ t end r. one_denial c.args.lexemes.now l.rest.now c.tail-rest.result.now end l.times (λ u s. l.invariant.exact u end s) c.tail-rest.ensures.rest here t r;
    }
