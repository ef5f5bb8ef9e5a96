use Rattle.std.proofs.Common.{◌≡◌, ◌++◌, ℕ, List, drop, take}
use Rattle.std.specs.List.{flat_map}
use Rattle.std.specs.String.{string_bytes}
use Rattle.tb_rules.specs.Restored.{token_text, text_of_rows}
use Rattle.tb_rules.specs.Expected.{continued}
use Rattle.tb_rules.specs.Leading.{greatest_end}
use Rattle.tb_rules.proofs.spelling.put_rows.Given as goal

abbrev pub invariant-loop-row : goal.invariant-loop-row
invariant-loop-row g l = record {
  end : l.end ≡ greatest_end (take l.row-index l.rows);
  comes : (next : List ℕ) → continued (string_bytes l.folding.text) l.folding.gap (flat_map (token_text l.rows) (drop l.row-index l.rows) ++ next) ≡ continued (string_bytes l.initial.folding.text) l.initial.folding.gap (text_of_rows l.rows ++ next);
}
