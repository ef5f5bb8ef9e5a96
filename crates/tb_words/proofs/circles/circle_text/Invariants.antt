use Rattle.std.proofs.Common.{◌≡◌, ◌≤◌}
use Rattle.std.specs.String.{string_bytes}
use Rattle.tb_words.specs.Circles.{NoneLeadsBack, circle_to, steps_from}
use Rattle.tb_words.proofs.circles.circle_text.Given as goal

abbrev pub invariant-loop : goal.invariant-loop
invariant-loop l =
    (l.counter ≤ 8) × (l.here ≡ steps_from l.heads l.counter l.word) × NoneLeadsBack l.heads l.word l.counter
    × (string_bytes l.text ≡ circle_to l.heads l.word l.counter)
