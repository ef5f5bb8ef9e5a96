use Rattle.std.proofs.Common.{[]}
use Rattle.std.specs.String.{string_bytes}
use Rattle.std.specs.Str.{chars}
use Rattle.tb_rules.proofs.Folds.{folded_whole}
use Rattle.tb_rules.proofs.spelling.fold.Goals as goal

pub returns-clause-value : goal.returns-clause-value
returns-clause-value c = folded_whole (string_bytes c.put_text.new.folding.text) (string_bytes c.new.result) (chars c.args.text.now) c.put_text.new.folding.gap c.new.ensures.bytes (c.in_ok-put_text.ensures.put [])
