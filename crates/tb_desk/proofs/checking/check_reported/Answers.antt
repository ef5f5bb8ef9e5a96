use Rattle.tb_desk.proofs.Telling.{checked_so}
use Rattle.tb_desk.proofs.checking.check_reported.Goals as goal

pub returns : goal.returns
returns g c =
    let reply = c.check_source-reply.result.reply in
    (reply, (c.check_source-reply.ensures, checked_so c.args.is_wanted reply c.reported_of_check.result c.reported_of_check.ensures), c.put_check.ensures)
