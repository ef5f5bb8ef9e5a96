use Rattle.std.proofs.Common.{Option, ap, is_some, sym, ℕ, ◌∙◌}
use Rattle.std.proofs.lemmas.Iterator.{YieldsList-from_chars}
use Rattle.std.proofs.lemmas.Iterator.Adapters.{option_map_id}
use Rattle.std.proofs.lemmas.Iterator.Consumers.{nth_from_yields_List}
use Rattle.tb_words.proofs.words.is_long.Goals as goal

pub returns : goal.returns
returns c =
    c.is_some.ensures ∙ ap (λ (o : Option ℕ). is_some o) (sym (option_map_id c.nth.result) ∙ nth_from_yields_List c.nth.result c.nth.new.self 40
    c.nth.ensures.ran (YieldsList-from_chars c.args.value.now c.utf8.value c.chars.ensures.rest))
