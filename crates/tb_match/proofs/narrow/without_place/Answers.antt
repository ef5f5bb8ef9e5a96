use Rattle.tb_match.proofs.Masks.{without_bit}
use Rattle.tb_match.proofs.narrow.without_place.Goals as goal

pub returns-clause-places : goal.returns-clause-places
returns-clause-places c = λ j h. without_bit c.args.bits c.args.place j c.requires h
