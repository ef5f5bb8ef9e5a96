use Rattle.tb_assets.proofs.Escapes.{begins_none}
use Rattle.tb_assets.proofs.laws.sentences_begin_no_tag.Goals as goal

pub returns : goal.returns
returns c = begins_none
