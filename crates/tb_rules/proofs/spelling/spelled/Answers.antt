use Rattle.std.proofs.Common.{[]}
use Rattle.std.specs.String.{string_bytes}
use Rattle.tb_rules.specs.Restored.{text_of_rows}
use Rattle.tb_rules.proofs.Folds.{folded_whole}
use Rattle.tb_rules.proofs.spelling.spelled.Goals as goal

pub returns-clause-value : goal.returns-clause-value
returns-clause-value g c = folded_whole (string_bytes c.put_rows.new.folding.text) (string_bytes c.new.result) (text_of_rows c.args.rows.now) c.put_rows.new.folding.gap c.new.ensures.bytes (c.in_ok-put_rows.ensures.put [])
