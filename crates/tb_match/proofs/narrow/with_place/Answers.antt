use Rattle.tb_match.proofs.Masks.{with_bit}
use Rattle.tb_match.proofs.narrow.with_place.Goals as goal

pub returns : goal.returns
returns c = λ j. with_bit c.args.bits c.args.place j c.requires
