use Rattle.std.proofs.Common.{◌≡◌, ◌*◌, ◌^◌, ◌<◌, drop}
use Rattle.tb_report.specs.Kept.{number_after, number_of}
use Rattle.tb_report.proofs.counts.number_of_key.Given as goal

abbrev pub invariant-loop-byte : goal.invariant-loop-byte
invariant-loop-byte l = (number_after l.number (drop l.byte-index l.byte-items) ≡ number_of l.key) × (l.number < 2 * 256 ^ l.byte-index)
