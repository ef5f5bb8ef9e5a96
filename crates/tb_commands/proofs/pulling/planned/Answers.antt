use Rattle.std.proofs.Common.{◌≡◌, Err, refl}
use Rattle.std.proofs.lemmas.Result.{err_from_is_err_and}
use Rattle.tb_core.specs.declared.refusals.Fault.TheVariants.{NotADesk, Refused}
use Rattle.tb_refine.proofs.There.{sentence_there}
use Rattle.tb_refine.proofs.Unchanged.{desk_after}
use Rattle.tb_reads.proofs.ReadOnly.{read_on, read_failed}
use Rattle.tb_commands.proofs.pulling.planned.Goals as goal

pub returns-clause-answered : goal.returns-clause-answered
returns-clause-answered g c clean s desk counted within =
    let it = sentence_there s c.args.number c.args.number refl c.requires within in
    c.in_ok-prepared.ensures.answered s it.0 desk.reachable.reached counted it.1 (c.in_ok-read.ensures.answered clean s desk it.0 it.1)

pub returns-in_err-prepared-clause-refused : goal.returns-in_err-prepared-clause-refused
returns-in_err-prepared-clause-refused g c clean r is s desk counted within =
    let reported = err_from_is_err_and c.from_residual-in_err-prepared.result c.from_residual-in_err-prepared.ensures.1 in
    let failed : c.decide.result ≡ Err (Refused r) = let was = c.in_err-prepared.was in let one = reported.1 in let two = reported.2 in cc in
    let it = sentence_there s c.args.number c.args.number refl c.requires within in (
      c.decide.ensures.refused r failed s it.0 desk.reachable.reached counted it.1 (c.in_ok-read.ensures.answered clean s desk it.0 it.1),
      desk_after c.in_ok-read.ensures.read.read_only clean desk,
    )

pub returns-in_err-read-clause-fails : goal.returns-in_err-read-clause-fails
returns-in_err-read-clause-fails g c clean unlimited s desk counted limited within bad =
    let reported = err_from_is_err_and c.from_residual.result c.from_residual.ensures.1 in
    let failed : c.find_sentence.result ≡ Err NotADesk = let was = c.in_err-read.was in let one = reported.1 in let two = reported.2 in cc in
    let it = sentence_there s c.args.number c.args.number refl c.requires within in
    c.find_sentence.ensures.read.fails clean unlimited s desk it.0 it.1 failed

pub returns-in_err-prepared-clause-fails : goal.returns-in_err-prepared-clause-fails
returns-in_err-prepared-clause-fails g c clean unlimited s desk counted limited within bad =
    let reported = err_from_is_err_and c.from_residual-in_err-prepared.result c.from_residual-in_err-prepared.ensures.1 in
    let failed : c.decide.result ≡ Err NotADesk = let was = c.in_err-prepared.was in let one = reported.1 in let two = reported.2 in cc in
    let it = sentence_there s c.args.number c.args.number refl c.requires within in
    c.decide.ensures.fails s it.0 desk.reachable counted limited it.1 (c.in_ok-read.ensures.answered clean s desk it.0 it.1) failed

pub returns-in_err-read-clause-read_only : goal.returns-in_err-read-clause-read_only
returns-in_err-read-clause-read_only g c = read_failed c.from_residual.result _ c.from_residual.ensures.1 c.find_sentence.ensures.read.read_only

pub returns-in_err-prepared-clause-read_only : goal.returns-in_err-prepared-clause-read_only
returns-in_err-prepared-clause-read_only g c = read_on _ c.in_ok-read.ensures.read.read_only
