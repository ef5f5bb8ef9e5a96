use Rattle.std.proofs.Common.{inl, inr, refl, subst, sym}
use Rattle.tb_cli.specs.View.{listed_by}
use Rattle.tb_answer.specs.Viewed.{IsView}
use Rattle.tb_desk.proofs.Telling.{explained_so}
use Rattle.tb_desk.proofs.viewing.show.Goals as goal

pub returns-in-Ok-clause-shown : goal.returns-in-Ok-clause-shown
returns-in-Ok-clause-shown g c clean s stands =
    inl (c.as_slice.result.now, subst (λ t. IsView s (listed_by c.args.list.now) t) (sym c.as_slice.ensures.value) (c.in-Ok.ensures.read.answered clean s stands), c.put_body.ensures, refl)

pub returns-in-Err-clause-shown : goal.returns-in-Err-clause-shown
returns-in-Err-clause-shown g c clean s stands =
    inr (c.in-Err.reply, c.in-Err.ensures.read.reported clean s stands, c.put_reply.ensures, explained_so c.args.is_wanted c.in-Err.reply c.explained.result c.explained.ensures.explained)

pub returns-in-Ok-clause-read_only : goal.returns-in-Ok-clause-read_only
returns-in-Ok-clause-read_only g c = c.in-Ok.ensures.read.read_only

pub returns-in-Err-clause-read_only : goal.returns-in-Err-clause-read_only
returns-in-Err-clause-read_only g c = c.in-Err.ensures.read.read_only
