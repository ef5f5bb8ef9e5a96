use lib.Utf8
use Rattle.std.proofs.Common.{sym, ◌∙◌}
use Rattle.tb_rules.proofs.Trims.{no_space_in_front}
use Rattle.tb_rules.proofs.comments.trim_front.Goals as goal

pub returns : goal.returns
unfolding lib.Utf8.encode
returns c = sym (no_space_in_front c.loop-shorter.rest.now c.in_default.ensures.cases) ∙ c.loop-shorter.invariant.1
