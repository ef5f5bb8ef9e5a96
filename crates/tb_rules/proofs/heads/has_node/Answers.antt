use Rattle.std.proofs.Common.{sym, ◌∙◌}
use Rattle.std.proofs.lemmas.Bool.{le-ltb}
use Rattle.tb_rules.proofs.Numbered.{stops}
use Rattle.tb_rules.proofs.heads.has_node.Goals as goal

pub returns-else-node-gt0 : goal.returns-else-node-gt0
returns-else-node-gt0 g c = stops _ _ (le-ltb 0 c.args.node c.if-node-gt0.false) ∙ sym (c.args.heads.now.reported.node c.args.word c.args.node)
