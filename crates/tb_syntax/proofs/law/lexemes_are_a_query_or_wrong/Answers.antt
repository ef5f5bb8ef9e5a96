use Rattle.tb_syntax.proofs.AnyLexemes.{query_or_wrong}
use Rattle.tb_syntax.proofs.law.lexemes_are_a_query_or_wrong.Goals as goal

pub returns : goal.returns
returns c = query_or_wrong
