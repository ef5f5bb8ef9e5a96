use Rattle.std.proofs.Common.{◌-◌, ◌≤◌}
use Rattle.tb_words.specs.FileSentences.{HasRead}
use Rattle.tb_words.specs.Named.{NoneIsNamed}
use Rattle.tb_words.proofs.telling.named_before.Given as goal

abbrev pub invariant-loop-earlier : goal.invariant-loop-earlier
invariant-loop-earlier l =
    (1 ≤ l.earlier) × HasRead l.file (l.earlier - 1) l.places × NoneIsNamed l.file l.name (l.earlier - 1)
