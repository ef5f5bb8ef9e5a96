use Rattle.std.proofs.Common.{◌≡◌, ◌≤◌, take, Some}
use Rattle.tb_syntax.specs.Machine.{run, start}
use Rattle.tb_syntax.proofs.scanning.scan.Given as goal

abbrev pub invariant-loop-i : goal.invariant-loop-i
invariant-loop-i l = record {
  goes : run start (take l.i l.lexemes) ≡ Some l.place;
  outer : l.place.outer ≤ l.i;
  inner : l.place.inner ≤ l.i;
}
