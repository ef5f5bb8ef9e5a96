use Rattle.tb_words.proofs.QueryPatterns.{says_known, says_sign}
use Rattle.tb_words.proofs.patterns.stop_fault.Goals as goal

pub returns-in-Some : goal.returns-in-Some
returns-in-Some c = λ at.
    says_known c.args.text.now c.back-rest.result.now c.in-Some.sentence.now c.args.at (c.back-rest.ensures at) c.in-Some.ensures

pub returns-in-None : goal.returns-in-None
returns-in-None c = λ at.
    says_sign c.args.text.now c.back-rest.result.now c.cured_fault.result.now c.args.at c.byte_at.result (c.back-rest.ensures at)
    c.in-None.ensures c.byte_at.ensures (c.cured_fault.ensures at)
