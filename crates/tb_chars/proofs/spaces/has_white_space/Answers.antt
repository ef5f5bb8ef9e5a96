use Rattle.std.proofs.Common.{sym, ◌∙◌, ap}
use Rattle.std.specs.List.{list_any}
use Rattle.tb_chars.specs.Spaces.{begins_white}
use Rattle.tb_chars.proofs.Whites.{spaceless}
use Rattle.tb_chars.proofs.spaces.has_white_space.Goals as goal

pub returns-else-any_white_start : goal.returns-else-any_white_start
returns-else-any_white_start c = c.if-any_white_start.false ∙ sym (spaceless c.args.text.now c.utf8.text (ap (list_any begins_white) (sym c.as_bytes.ensures.value) ∙ sym c.any_white_start.ensures ∙ c.if-any_white_start.false))
