use lib.Utf8
use Rattle.std.proofs.Common.{sym, ◌∙◌, ap, reverse}
use Rattle.tb_rules.proofs.Trims.{no_space_at_end}
use Rattle.tb_rules.proofs.comments.trim_back.Goals as goal

pub returns : goal.returns
unfolding lib.Utf8.encode
returns c = sym (no_space_at_end c.loop-shorter.rest.now c.in_default.ensures.cases) ∙ ap reverse c.loop-shorter.invariant.1
