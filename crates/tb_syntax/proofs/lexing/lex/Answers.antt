use Rattle.std.proofs.Common.{sym, ◌∙◌, refl, length-drop, length-append, ap, length, arith}
use Rattle.tb_syntax.proofs.Lexings.{one_white, one_lexeme, all_read, stray_last, to_end}
use Rattle.tb_syntax.proofs.lexing.lex.Goals as goal

pub loop-at-preserved-then-is_white : goal.loop-at-preserved-then-is_white
loop-at-preserved-then-is_white c = record {
  place = omega arith;
  count = omega arith;
  lexemes = omega arith;
  spans = omega arith;
  read = one_white c.args.text.now c.loop-at.at c.loop-at.literals _ _ c.loop-at.invariant.read c.loop-at-test.true (sym c.is_white.ensures ∙ c.if-is_white.true);
}

pub loop-at-preserved : goal.loop-at-preserved
loop-at-preserved c =
    let found = rw (to_end c.args.text.now c.loop-at.at) at c.in-Some.ensures in
    let within = found.length.1 in
    record {
      place = omega (arith, length-drop c.loop-at.at c.args.text.now);
      count = omega (arith, c.literals_after-literals.ensures.bound, found.length.0);
      lexemes = omega (arith, found.length.0, simp length-append at (ap length c.push-in-loop-at.ensures.lexemes));
      spans = omega (arith, found.length.0, simp length-append at (ap length c.push-in-loop-at.ensures.spans));
      read = one_lexeme c.args.text.now c.loop-at.at c.loop-at.literals c.in-Some.found.length _ _ c.in-Some.found.lexeme _ _ _ _
          c.loop-at.invariant.read c.loop-at-test.true (sym c.is_white.ensures ∙ c.if-is_white.false) found.lexeme found.length.1 refl
          c.literals_after-literals.ensures.value c.push-in-loop-at.ensures.lexemes c.push-in-loop-at.ensures.spans;
    }

pub returns-in_default : goal.returns-in_default
returns-in_default c =
    let none = rw (to_end c.args.text.now c.loop-at.at) at c.in_default.ensures.lexeme in
    stray_last c.args.text.now c.loop-at.at c.loop-at.literals _ _ _ _ c.loop-at.invariant.read c.loop-at-test.true
    (sym c.is_white.ensures ∙ c.if-is_white.false) none c.push.ensures.lexemes c.push.ensures.spans

pub returns : goal.returns
returns c = all_read c.args.text.now c.loop-at.at c.loop-at.literals _ _ c.loop-at.invariant.read c.loop-at-test.false
