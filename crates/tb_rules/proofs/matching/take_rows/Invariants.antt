use Rattle.std.proofs.Common.{◌≡◌, drop, take}
use Rattle.std.specs.List.{flat_map}
use Rattle.tb_rules.specs.Restored.{token_text, text_of_rows}
use Rattle.tb_rules.specs.Leading.{greatest_end}
use Rattle.tb_rules.proofs.Compare.{Awaits}
use Rattle.tb_rules.proofs.matching.take_rows.Given as goal

abbrev pub invariant-loop-row : goal.invariant-loop-row
invariant-loop-row g l = record {
  end : l.end ≡ greatest_end (take l.row-index l.rows);
  awaits : Awaits l.fn.expected.rest.now l.fn.expected.begun l.fn.expected.gap (text_of_rows l.rows) l.now.rest.now l.now.begun l.now.gap (flat_map (token_text l.rows) (drop l.row-index l.rows));
}
