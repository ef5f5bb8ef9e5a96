use Rattle.tb_http.proofs.Staged.{one_thing}
use Rattle.tb_http.proofs.asks.bytes_ask_one_thing.Goals as goal

pub returns : goal.returns
returns c = one_thing
