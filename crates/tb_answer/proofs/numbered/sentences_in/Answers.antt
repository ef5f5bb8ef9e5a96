use Rattle.std.proofs.Common.{◌≡◌, subst}
use Rattle.tb_lists.specs.Batches.{batch_lines}
use Rattle.tb_answer.specs.Numbered.{IsNumberedText, RefusesNumber}
use Rattle.tb_answer.specs.OnlyRead.{IsReadResult}
use Rattle.tb_answer.specs.Viewed.{IsReportedAs}
use Rattle.tb_answer.proofs.Questioned.{unread}
use Rattle.tb_answer.proofs.numbered.sentences_in.Goals as goal

pub returns-in-Ok-clause-read : goal.returns-in-Ok-clause-read
returns-in-Ok-clause-read g c =
    rw c.in-Ok.is (subst (λ all. IsReadResult g.S.Store c.args.desk.now c.sentences_among.new.desk c.sentences_among.result (λ s v. all ≡ batch_lines s → IsNumberedText s c.args.no v.items)
    (λ cause s r. all ≡ batch_lines s → IsReportedAs cause (RefusesNumber s c.args.no) r)) c.as_slice.ensures.value c.sentences_among.ensures.read)

pub returns-in-Ok-clause-read_only : goal.returns-in-Ok-clause-read_only
returns-in-Ok-clause-read_only g c = c.sentences_among.ensures.read.read_only

pub returns-in-Err-clause-read_only : goal.returns-in-Err-clause-read_only
returns-in-Err-clause-read_only g c = unread g.S.Store c.args.desk.now
