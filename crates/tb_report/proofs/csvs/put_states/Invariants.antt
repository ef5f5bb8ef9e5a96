use Rattle.std.proofs.Common.{map, take}
use Rattle.tb_report.specs.Csv.{PutsRows, totals_fields}
use Rattle.tb_report.proofs.csvs.put_states.Given as goal

abbrev pub invariant-loop-state : goal.invariant-loop-state
invariant-loop-state g l = PutsRows g.W.Write.contents l.initial.rows l.rows (map (totals_fields l.totals) (take l.state-index l.states))
