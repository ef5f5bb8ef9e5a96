use Rattle.std.proofs.Common.{◌-◌, ◌≤◌, max}
use Rattle.tb_words.specs.FileSentences.{HasRead}
use Rattle.tb_words.proofs.places.sentence_at.Given as goal

abbrev pub invariant-loop-read : goal.invariant-loop-read
invariant-loop-read l = (1 ≤ l.read) × (l.read ≤ max l.number 1) × HasRead l.file (l.read - 1) l.places

abbrev pub decreases-loop-read : goal.decreases-loop-read
decreases-loop-read l = l.number - l.read
