use Rattle.std.proofs.Common.{subst, ℕ}
use Rattle.tb_words.specs.Told.{TellsSentence}
use Rattle.tb_words.proofs.telling.Walk.fault_of_sentence.Goals as goal

pub returns-clause-told : goal.returns-clause-told
returns-clause-told c = λ file walked.
    subst (λ (n : ℕ). TellsSentence file n c.args.rule c.args.row c.fault_here.result) c.in_ok-read_to.ensures.number
    (c.fault_here.ensures file (c.in_ok-read_to.ensures.at file walked))
