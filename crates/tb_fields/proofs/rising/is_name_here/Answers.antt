use Rattle.std.proofs.Common.{sym, ◌∙◌}
use Rattle.tb_fields.proofs.Ascents.{label_named}
use Rattle.tb_fields.proofs.rising.is_name_here.Goals as goal

pub returns-then-is_label_text : goal.returns-then-is_label_text
returns-then-is_label_text c = c.if-is_label_text.true ∙ sym (label_named c.args.text.now (sym c.is_label_text.ensures ∙ c.if-is_label_text.true))
