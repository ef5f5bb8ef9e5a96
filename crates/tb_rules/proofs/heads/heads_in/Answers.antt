use Rattle.tb_rules.proofs.Numbered.{tell_ids}
use Rattle.tb_rules.proofs.heads.heads_in.Goals as goal

pub invariant_of-result : goal.invariant_of-result
invariant_of-result g c = record { reported = tell_ids c.args.rows.now c.args.words c.in_ok-nodes.nodes.items c.requires.in_place c.requires.count c.in_ok-nodes.ensures.counts }
