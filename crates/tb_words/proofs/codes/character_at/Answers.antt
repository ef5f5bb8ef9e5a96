use Rattle.std.proofs.Common.{sym, ◌∙◌}
use Rattle.std.proofs.lemmas.Iterator.{YieldsList-from_chars}
use Rattle.std.proofs.lemmas.Iterator.Adapters.{option_map_id}
use Rattle.std.proofs.lemmas.Iterator.Consumers.{nth_from_yields_List}
use Rattle.tb_words.proofs.codes.character_at.Goals as goal

pub returns : goal.returns
returns c =
    sym (option_map_id c.nth.result) ∙ nth_from_yields_List c.nth.result c.nth.new.self c.args.at c.nth.ensures.ran
    (YieldsList-from_chars c.args.line.now c.utf8.line c.chars.ensures.rest)
