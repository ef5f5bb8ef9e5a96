use Rattle.tb_http.proofs.Taken.{memory_of, most_taken}
use Rattle.tb_http.proofs.asks.read_ask.Goals as goal

pub returns-clause-memory : goal.returns-clause-memory
returns-clause-memory g c = memory_of 4194304 (g.R.Source.left c.args.reader.now) (g.R.Source.left c.ask_within.new.reader) c.ask_within.result c.ask_within.ensures.fault

pub returns-clause-most : goal.returns-clause-most
returns-clause-most g c = most_taken 4194304 (g.R.Source.left c.args.reader.now) (g.R.Source.left c.ask_within.new.reader) c.ask_within.ensures.one
