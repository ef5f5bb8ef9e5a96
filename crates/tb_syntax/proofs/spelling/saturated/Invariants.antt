use Rattle.std.proofs.Common.{◌≡◌, ◌≤◌, min, drop}
use Rattle.tb_syntax.specs.Spelling.{decimal_from}
use Rattle.tb_syntax.proofs.spelling.saturated.Given as goal

abbrev pub invariant-loop-digit : goal.invariant-loop-digit
invariant-loop-digit l = record {
  same : min 255 (decimal_from l.value (drop l.digit-index l.digits)) ≡ min 255 (decimal_from 0 l.digits);
  small : l.value ≤ 255;
}
