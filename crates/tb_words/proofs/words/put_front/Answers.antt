use Rattle.std.proofs.Common.{rules}
use Rattle.std.proofs.Output.{has_written_append, has_written_of_eq}
use Rattle.std.proofs.lemmas.Iterator.{YieldsList-from_chars, YieldsList-from_take}
use Rattle.std.proofs.lemmas.Iterator.Consumers.{YieldsList-end}
use Rattle.tb_words.proofs.Excerpts.{all_seen, one_more_seen}
use Rattle.tb_words.proofs.words.put_front.Goals as goal

pub loop-c-preserved : goal.loop-c-preserved
loop-c-preserved g c = λ plain.
    has_written_of_eq _ _ _ _ _ (one_more_seen c.loop-c.yielded c.in-Some.c c.visible-seen.result c.visible-seen.ensures)
    (has_written_append _ _ _ _ _ _ (c.loop-c.invariant plain) (search rules))

pub returns : goal.returns
returns g c = λ plain ok.
    let all = YieldsList-end (YieldsList-from_take 40 (YieldsList-from_chars c.args.value.now c.utf8.value cc) cc) c.loop-c.yielded _
    c.loop-c.yielded_by _ _ c.in-None.is c.next.ensures.steps in
    has_written_of_eq _ _ _ _ _ (all_seen c.args.value.now c.loop-c.yielded all.0) (c.loop-c.invariant plain)
