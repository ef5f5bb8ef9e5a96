use Rattle.std.proofs.Common.{sym, ◌∙◌}
use Rattle.tb_fields.proofs.Relations.{universal_whole}
use Rattle.tb_fields.proofs.deprel.relation_base.Goals as goal

pub returns-then-is_universal : goal.returns-then-is_universal
returns-then-is_universal c = universal_whole c.args.relation.now (sym c.is_universal.ensures ∙ c.if-is_universal.true)
