use Rattle.std.proofs.Common.{◌∙◌}
use Rattle.std.proofs.lemmas.List.Sorted.{searched}
use Rattle.tb_refine.proofs.Listing.{ascends, search_tells}
use Rattle.tb_refine.proofs.reading.is_among.Goals as goal

pub returns : goal.returns
returns c up = c.is_ok.ensures.value ∙ search_tells c.args.number c.args.numbers.now c.binary_search.result (searched c.args.numbers.now c.args.number c.binary_search.result c.binary_search.ensures.position (ascends c.args.numbers.now up))
