use Rattle.tb_answer.proofs.InMemory.{all_crash_to}
use Rattle.tb_answer.proofs.laws.requests_crash_to_an_end.Goals as goal

pub returns : goal.returns
returns g c = λ bs d e u v result. all_crash_to g.S.Store g.W.Sink.held g.W.Sink.IsRefusal bs d e u v result
