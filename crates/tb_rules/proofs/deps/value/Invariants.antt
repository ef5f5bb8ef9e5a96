use Rattle.std.proofs.Common.{◌≡◌, take, true}
use Rattle.std.specs.List.{list_all}
use Rattle.std.specs.Str.Parse.{digits_value}
use Rattle.tb_chars.specs.Digits.{is_digit}
use Rattle.tb_rules.proofs.deps.value.Given as goal

abbrev pub invariant-loop-b : goal.invariant-loop-b
invariant-loop-b l = record {
  digits : list_all is_digit (take l.b-index l.bytes) ≡ true;
  value : l.value ≡ digits_value 10 (take l.b-index l.bytes);
}
