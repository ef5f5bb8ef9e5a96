use Rattle.tb_syntax.proofs.Lexings as lexings
use Rattle.tb_syntax.proofs.law.one_lexing.Goals as goal

pub returns-clause-lexemes : goal.returns-clause-lexemes
returns-clause-lexemes c text ls ms ss ts x y = (lexings.one_lexing text ls ms ss ts x y).0

pub returns-clause-places : goal.returns-clause-places
returns-clause-places c text ls ms ss ts x y = (lexings.one_lexing text ls ms ss ts x y).1
