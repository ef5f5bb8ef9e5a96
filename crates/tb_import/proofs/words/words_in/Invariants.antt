use Rattle.std.proofs.Common.{◌≡◌, take}
use Rattle.std.specs.Prelude.{sum_by}
use Rattle.tb_core.specs.Taking.{NewSentenceText}
use Rattle.tb_import.proofs.words.words_in.Given as goal

abbrev pub invariant-loop-one : goal.invariant-loop-one
invariant-loop-one l = l.total ≡ sum_by (λ (t : NewSentenceText). t.words) (take l.one-index l.taken)
