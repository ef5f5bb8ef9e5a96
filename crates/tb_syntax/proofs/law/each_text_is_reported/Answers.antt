use Rattle.tb_syntax.proofs.AnyLexemes.{reported}
use Rattle.tb_syntax.proofs.law.each_text_is_reported.Goals as goal

pub returns : goal.returns
returns c = reported
