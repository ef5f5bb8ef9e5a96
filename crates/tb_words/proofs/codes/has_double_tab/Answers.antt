use Rattle.std.proofs.Common.{[], ◌∷◌}
use Rattle.std.proofs.lemmas.Str.Pattern.{contains_text}
use Rattle.tb_words.proofs.codes.has_double_tab.Goals as goal

pub returns : goal.returns
returns c = contains_text c.contains.result (9 ∷ 9 ∷ []) c.args.line.now c.contains.ensures.cases
