use Rattle.tb_import.proofs.Bounds.{firsts_small}
use Rattle.tb_core.specs.declared.refusals.Fault.TheVariants.{Memory}
use Rattle.std.proofs.lemmas.Result.{err_from_is_err_and}
use Rattle.std.proofs.Common.{List, subst, sym, ◌≡◌, Err}
use Rattle.tb_core.specs.Tests.{first_bodies}
use Rattle.tb_reads.specs.declared.work.BatchSentence.{BatchSentence}
use Rattle.tb_reads.proofs.Shown.{if_ok}
use Rattle.tb_import.specs.Firsts.{AreFirsts}
use Rattle.tb_import.proofs.Firstly.{firsts_stand}
use Rattle.tb_import.proofs.Looks.{look_made, look_stopped}
use Rattle.tb_import.proofs.naming.repeat.Goals as goal

pub returns-clause-answered : goal.returns-clause-answered
returns-clause-answered g c clean = if_ok c.reply_again.result c.reply_again.ensures.answered (λ r reported s desk read.
    let bs = first_bodies c.args.number s.sentences in
    let firsts = subst (λ (l : List BatchSentence). AreFirsts s l bs) (sym read) (firsts_stand s c.args.number) in
    reported s desk.reachable.reached read (c.in_ok-words.ensures.answered clean s bs desk firsts))

pub returns-in_err-words-clause-current : goal.returns-in_err-words-clause-current
returns-in_err-words-clause-current g c all bad =
    let reported = err_from_is_err_and c.from_residual.result c.from_residual.ensures.1 in
    let failed : c.words_again.result ≡ Err Memory = let was = c.in_err-words.was in let one = reported.1 in let two = reported.2 in cc in
    c.words_again.ensures.current all failed

pub returns-in_err-words-clause-look : goal.returns-in_err-words-clause-look
returns-in_err-words-clause-look g c =
    look_stopped c.from_residual.result c.in_err-words.field-0.0 c.from_residual.ensures.1 c.in_err-words.ensures.look (λ clean s desk fails on above within read.
    let bs = first_bodies c.args.number s.sentences in
    let firsts = subst (λ (l : List BatchSentence). AreFirsts s l bs) (sym read) (firsts_stand s c.args.number) in
    on (fails bs firsts (firsts_small s c.args.number desk.reachable)))

pub returns-clause-look : goal.returns-clause-look
returns-clause-look g c =
    look_made c.reply_again.result c.in_ok-words.ensures.look.left c.in_ok-words.ensures.look.stays c.reply_again.ensures.never_refuses c.reply_again.ensures.output c.reply_again.ensures.cause (λ clean unlimited s desk above within read bad.
    c.reply_again.ensures.fails s desk.reachable.reached above within read bad)
