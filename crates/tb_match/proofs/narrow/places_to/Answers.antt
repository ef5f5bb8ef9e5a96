use Rattle.tb_match.proofs.Masks.{bits_to}
use Rattle.tb_match.proofs.narrow.places_to.Goals as goal

pub returns : goal.returns
returns c = λ j h. bits_to c.args.row c.args.last j c.requires h
