use Rattle.tb_words.proofs.Parts.{after_word, only_word, word_got}
use Rattle.tb_words.proofs.syntax.first_word.Goals as goal

pub returns-in-Some-clause-word : goal.returns-in-Some-clause-word
returns-in-Some-clause-word c =
    rw c.unwrap_or.ensures (word_got c.args.text.now c.in-Some.end c.get.result _ c.utf8.text c.in-Some.ensures
    c.get.ensures.cases)

pub returns-in-Some-clause-after : goal.returns-in-Some-clause-after
returns-in-Some-clause-after c =
    rw c.unwrap_or-in-Some.ensures (after_word c.args.text.now c.in-Some.end c.get-in-Some.result _ c.utf8.text c.in-Some.ensures
    c.get-in-Some.ensures.cases)

pub returns-in-None-clause-after : goal.returns-in-None-clause-after
returns-in-None-clause-after c = only_word c.args.text.now c.in-None.ensures
