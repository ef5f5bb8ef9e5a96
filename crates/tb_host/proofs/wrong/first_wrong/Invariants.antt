use Rattle.std.proofs.Common.{◌≤◌, ◌+◌, length}
use Rattle.tb_host.proofs.Valued.{FirstFrom}
use Rattle.tb_host.proofs.wrong.first_wrong.Given as goal

abbrev pub invariant-loop : goal.invariant-loop
invariant-loop l = FirstFrom l.command l.words l.values × (length l.values.words.now + l.counter ≤ length l.words)
