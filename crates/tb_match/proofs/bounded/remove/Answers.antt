use Rattle.tb_match.proofs.Masks.{row_without}
use Rattle.tb_match.proofs.bounded.remove.Goals as goal

pub returns : goal.returns
returns c = λ j. row_without c.args.row.now c.args.place c.without_place.result j c.requires c.without_place.ensures.places
