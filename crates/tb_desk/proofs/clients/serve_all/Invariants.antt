use Rattle.std.proofs.Common.{◌≡◌}
use Rattle.tb_desk.specs.Clients.{Become}
use Rattle.tb_desk.proofs.Noted.{IsOn}
use Rattle.tb_desk.proofs.clients.serve_all.Given as goal

abbrev pub invariant-loop : goal.invariant-loop
invariant-loop g l = (l.taken ≡ l.counter) × (l.desk.limits ≡ l.initial.desk.limits) × (g.C.Clients.HasFiles l.clients → g.C.Clients.HasFiles l.initial.clients)
    × Become (g.C.Clients.noted l.initial.clients) (g.C.Clients.noted l.clients) (IsOn l.counter)
