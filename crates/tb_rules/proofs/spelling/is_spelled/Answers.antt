use Rattle.std.proofs.Common.{refl}
use Rattle.tb_rules.specs.Restored.{text_of_rows}
use Rattle.tb_rules.proofs.Refolds.{folded_already}
use Rattle.tb_rules.proofs.spelling.is_spelled.Goals as goal

pub returns-then-spell-clause-value : goal.returns-then-spell-clause-value
returns-then-spell-clause-value g c =
    (λ t. folded_already (text_of_rows c.args.rows.now) c.args.value.now c.utf8.value (c.spell.ensures.0 c.if-spell.true), λ e. refl)
