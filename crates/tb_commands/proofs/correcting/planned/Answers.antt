use Rattle.tb_core.specs.declared.refusals.Fault.TheVariants.{NotADesk}
use Rattle.std.proofs.lemmas.Result.{err_from_is_err_and}
use Rattle.std.proofs.Common.{refl, ◌≡◌, Err}
use Rattle.tb_reads.proofs.Shown.{if_ok}
use Rattle.tb_refine.proofs.There.{sentence_there}
use Rattle.tb_refine.proofs.Unchanged.{desk_after}
use Rattle.tb_reads.proofs.ReadOnly.{read_on, read_failed}
use Rattle.tb_commands.proofs.correcting.planned.Goals as goal

pub returns-clause-answered : goal.returns-clause-answered
returns-clause-answered g c clean = if_ok c.decide.result c.decide.ensures.answered (λ r reported s desk counted within.
    let it = sentence_there s c.args.asked.now.number c.args.asked.now.number refl c.requires within in
    reported s it.0 desk.reachable.reached counted it.1 (c.in_ok-read.ensures.answered clean s desk it.0 it.1))

pub returns-clause-refused : goal.returns-clause-refused
returns-clause-refused g c clean r is s desk counted within =
    let it = sentence_there s c.args.asked.now.number c.args.asked.now.number refl c.requires within in (
      c.decide.ensures.refused r is s it.0 desk.reachable.reached counted it.1 (c.in_ok-read.ensures.answered clean s desk it.0 it.1),
      desk_after c.in_ok-read.ensures.read.read_only clean desk,
    )

pub returns-in_err-read-clause-fails : goal.returns-in_err-read-clause-fails
returns-in_err-read-clause-fails g c clean unlimited limits s desk counted within bad =
    let reported = err_from_is_err_and c.from_residual.result c.from_residual.ensures.1 in
    let failed : c.find_current.result ≡ Err NotADesk = let was = c.in_err-read.was in let one = reported.1 in let two = reported.2 in cc in
    let it = sentence_there s c.args.asked.now.number c.args.asked.now.number refl c.requires within in
    c.find_current.ensures.read.fails clean unlimited s desk it.0 it.1 failed

pub returns-clause-fails : goal.returns-clause-fails
returns-clause-fails g c clean unlimited limits s desk counted within bad =
    let it = sentence_there s c.args.asked.now.number c.args.asked.now.number refl c.requires within in
    c.decide.ensures.fails limits s it.0 desk.reachable counted it.1 (c.in_ok-read.ensures.answered clean s desk it.0 it.1) bad

pub returns-in_err-read-clause-read_only : goal.returns-in_err-read-clause-read_only
returns-in_err-read-clause-read_only g c = read_failed c.from_residual.result _ c.from_residual.ensures.1 c.find_current.ensures.read.read_only

pub returns-clause-read_only : goal.returns-clause-read_only
returns-clause-read_only g c = read_on _ c.in_ok-read.ensures.read.read_only
