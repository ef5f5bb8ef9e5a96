use Rattle.std.proofs.Common.{◌≡◌, map, drop}
use Rattle.std.specs.Prelude.{vec_items}
use Rattle.tb_answer.proofs.Rounds.{Awaits}
use Rattle.tb_answer.proofs.answering.answer_all.Given as goal

abbrev pub invariant-loop-request : goal.invariant-loop-request
invariant-loop-request g l =
    (l.desk.limits ≡ l.initial.desk.limits)
    × Awaits g.W.Sink.held g.W.Sink.IsRefusal g.S.Store (map vec_items l.requests) (map vec_items (drop l.request-index l.requests)) l.initial.desk l.desk l.initial.out l.out
