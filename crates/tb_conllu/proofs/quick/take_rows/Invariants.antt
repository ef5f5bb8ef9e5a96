use Rattle.std.proofs.Common.{◌≡◌, false, length, take}
use Rattle.std.specs.List.{list_any}
use Rattle.std.specs.Str.{IsUtf8}
use Rattle.tb_chars.specs.Digits.{is_digit}
use Rattle.tb_conllu.specs.Tested.{HoldsOf}
use Rattle.tb_conllu.proofs.PartedLines.{AreTaken}
use Rattle.tb_conllu.proofs.quick.take_rows.Given as goal

abbrev pub invariant-loop-cutter : goal.invariant-loop-cutter
invariant-loop-cutter l = IsUtf8 l.left × (l.cutter ≡ l.left) × HoldsOf l.tested l.left × AreTaken l.initial.block l.block l.initial.text l.left
    × (list_any is_digit (take 1 l.initial.text) ≡ false → l.left ≡ l.initial.text)

abbrev pub decreases-loop-cutter : goal.decreases-loop-cutter
decreases-loop-cutter l = length l.left
