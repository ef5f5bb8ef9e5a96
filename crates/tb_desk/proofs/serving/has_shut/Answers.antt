use Rattle.std.proofs.Common.{sym, ◌∙◌}
use Rattle.std.proofs.lemmas.Bool.{true≢false}
use Rattle.tb_desk.proofs.Shut.{still_open}
use Rattle.tb_desk.proofs.serving.has_shut.Goals as goal

pub returns-clause-open : goal.returns-clause-open
returns-clause-open g c clean other busy =
    still_open g.S.Store c.args.desk.now.conn c.is_open.new.self.conn c.is_open.result c.is_open.ensures.open c.is_open.ensures.wants c.is_open.ensures.known clean
    (λ is. true≢false (sym (c.is_shut.ensures.1 is) ∙ other))
