use Rattle.std.proofs.Common.{◌≡◌, ◌<◌, ◌++◌, false, length}
use Rattle.std.specs.String.{string_bytes}
use denote.Text.{Utf8}
use denote.Shadow.{shadow}
use Rattle.tb_syntax.specs.First.{said_of}
use Rattle.tb_syntax.proofs.unquoting.said_after.Given as goal

abbrev pub invariant-loop-before : goal.invariant-loop-before
invariant-loop-before l = record {
  text : shadow (Utf8 l.rest);
  so_far : l.quote < 128 → string_bytes l.said ++ said_of l.quote false l.rest ≡ said_of l.quote false l.fn.text;
}

abbrev pub decreases-loop-before : goal.decreases-loop-before
decreases-loop-before l = length l.rest
