use Rattle.std.proofs.Common.{◌≤◌, ◌-◌, length}
use Rattle.tb_syntax.proofs.Lexings.{Read}
use Rattle.tb_syntax.proofs.lexing.lex.Given as goal

abbrev pub decreases-loop-at : goal.decreases-loop-at
decreases-loop-at l = length l.text - l.at

abbrev pub invariant-loop-at : goal.invariant-loop-at
invariant-loop-at l = record {
  place : l.at ≤ length l.text;
  count : l.literals ≤ l.at;
  lexemes : length l.lexed.lexemes.items ≤ l.at;
  spans : length l.lexed.spans.items ≤ l.at;
  read : Read l.text l.at l.literals l.lexed.lexemes.items l.lexed.spans.items;
}
