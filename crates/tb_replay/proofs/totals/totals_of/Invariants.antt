use Rattle.std.proofs.Common.{◌≡◌, ◌+◌, drop}
use Rattle.tb_core.specs.declared.kinds.State.{State as AnyState}
use Rattle.tb_core.specs.Totals.{at_state}
use Rattle.tb_replay.specs.Sums.{entry_total, one_each, words_each}
use Rattle.tb_replay.proofs.totals.totals_of.Given as goal

abbrev pub invariant-loop-entry : goal.invariant-loop-entry
invariant-loop-entry l = (st : AnyState) → (at_state l.totals.sentences st + entry_total one_each l.batches st (drop l.entry-index l.entries) ≡ entry_total one_each l.batches st l.entries)
    × (at_state l.totals.words st + entry_total words_each l.batches st (drop l.entry-index l.entries) ≡ entry_total words_each l.batches st l.entries)
