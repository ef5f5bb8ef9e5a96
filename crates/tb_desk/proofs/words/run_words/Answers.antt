use Rattle.std.proofs.Common.{map, string_bytes, false}
use Rattle.tb_host.specs.Reported.{IsTold}
use Rattle.tb_desk.proofs.Served.{words_untold}
use Rattle.tb_desk.proofs.words.run_words.Goals as goal

pub returns : goal.returns
returns g c = record {
  check = λ is.
      let said = c.run_words_reported.ensures.check is in
      (said.0, (said.1.0, (said.1.1.0, tt, said.1.1.2)), said.2);
  line = λ other. words_untold g.R.Source.IsFailure g.R.Source.left g.R.Source.pieces c.args.reader.now c.run_words_reported.new.reader (g.W.Sink.held c.args.out.now) (g.W.Sink.held c.run_words_reported.new.out) (g.W.Sink.IsRefusal c.run_words_reported.new.out) c.run_words_reported.result.status false (IsTold c.run_words_reported.result.reported) (map string_bytes c.args.words.now) (c.run_words_reported.ensures.line other);
}
