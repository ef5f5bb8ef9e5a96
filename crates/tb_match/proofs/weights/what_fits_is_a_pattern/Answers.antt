use Rattle.tb_match.proofs.Made.{made}
use Rattle.tb_match.proofs.weights.what_fits_is_a_pattern.Goals as goal

pub returns : goal.returns
returns c = λ exprs t narrow fits. made t fits.1
