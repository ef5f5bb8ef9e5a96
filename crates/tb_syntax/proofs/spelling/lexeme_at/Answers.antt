use Rattle.tb_syntax.proofs.Firsts.{found_starts, found_length}
use Rattle.tb_syntax.proofs.spelling.lexeme_at.Goals as goal

pub returns-clause-lexeme : goal.returns-clause-lexeme
returns-clause-lexeme c = found_starts c.args.literals c.args.text.now c.first_lexeme.result c.first_lexeme.ensures.value

pub returns-clause-length : goal.returns-clause-length
returns-clause-length c = found_length c.args.literals c.args.text.now c.first_lexeme.result c.first_lexeme.ensures.value c.first_lexeme.ensures.bound
