use Rattle.tb_answer.proofs.InMemory.{all_lead_in_memory}
use Rattle.tb_answer.proofs.laws.requests_in_memory_lead_on.Goals as goal

pub returns : goal.returns
returns g c = λ bs d e u v result. all_lead_in_memory g.W.Sink.held g.W.Sink.IsRefusal bs d e u v result
