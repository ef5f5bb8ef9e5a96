use Rattle.tb_syntax.proofs.AnyText.{has_lexemes}
use Rattle.tb_syntax.proofs.law.each_text_has_lexemes.Goals as goal

pub returns : goal.returns
returns c = has_lexemes
