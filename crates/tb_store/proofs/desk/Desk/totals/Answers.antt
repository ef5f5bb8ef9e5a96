use Rattle.std.proofs.Common.{sym, subst}
use Rattle.tb_store.specs.Represents.{Represents}
use Rattle.tb_reads.proofs.Shown.{if_ok}
use Rattle.tb_store.proofs.Netted.{net_of}
use Rattle.tb_store.proofs.Questions.{asked}
use Rattle.tb_store.proofs.desk.Desk.totals.Goals as goal

pub returns-clause-question : goal.returns-clause-question
returns-clause-question g c =
    asked g.S.Store c.self.view_is c.totals.new.conn c.totals.result c.self.invariant.unlimited c.totals.ensures.read.read_only c.totals.ensures.read.fails
    (λ good clean unlimited s desk. c.totals.ensures.read.cause good clean unlimited desk.holds.schema)

pub returns-clause-net : goal.returns-clause-net
returns-clause-net g c clean = if_ok c.totals.result (c.totals.ensures.answered clean) (λ t sums s stands.
    let here = subst (λ k. Represents g.S.Store k s) (sym c.self.view_is) stands in
    net_of t s (sums s here.desk) (λ st. c.totals_are_nets.ensures s st here.desk.reachable.reached))
