use Rattle.std.proofs.Common.{◌≡◌, Err, ap, subst}
use Rattle.tb_core.specs.declared.refusals.Fault.TheVariants.{NotADesk}
use Rattle.tb_lists.specs.Found.{Finds}
use Rattle.tb_reads.proofs.Failing.{if_err}
use Rattle.tb_reads.proofs.ReadOnly.{read_on}
use Rattle.tb_reads.proofs.Shown.{if_ok}
use Rattle.tb_store.proofs.Represented.{lacks_id, refuses_id}
use Rattle.tb_store.proofs.asking.found.Goals as goal

pub returns-in-Ok-clause-answered : goal.returns-in-Ok-clause-answered
returns-in-Ok-clause-answered g c clean = if_ok c.there.result c.there.ensures.line (λ line is s desk. subst (Finds s c.args.sent_id.now) is (c.in-Ok.ensures.answered clean s desk))

pub returns-in-Ok-clause-refused : goal.returns-in-Ok-clause-refused
returns-in-Ok-clause-refused g c clean = if_err c.there.result c.there.ensures.none (λ e why s desk. lacks_id s c.args.sent_id.now e why.0 (subst (Finds s c.args.sent_id.now) why.1 (c.in-Ok.ensures.answered clean s desk)))

pub returns-in-Err-clause-refused : goal.returns-in-Err-clause-refused
returns-in-Err-clause-refused g c clean s desk =
    refuses_id s c.args.sent_id.now c.in-Err.fault (λ r is. c.in-Err.ensures.read.never_refuses r (ap Err is))

pub returns-in-Err-clause-fails : goal.returns-in-Err-clause-fails
returns-in-Err-clause-fails g c clean unlimited s desk bad =
    let failed : c.in-Err.fault ≡ NotADesk = cc in
    c.in-Err.ensures.read.fails clean unlimited s desk (ap Err failed)

pub returns-in-Ok-clause-read_only : goal.returns-in-Ok-clause-read_only
returns-in-Ok-clause-read_only g c = read_on _ c.in-Ok.ensures.read.read_only
