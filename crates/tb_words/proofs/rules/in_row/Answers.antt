use Rattle.std.proofs.Common.{Some, rules, take, ◌≡◌}
use Rattle.std.specs.List.{slice_get}
use Rattle.tb_words.proofs.RuleSteps.{row_told}
use Rattle.tb_words.proofs.rules.in_row.Goals as goal

pub returns : goal.returns
returns c =
    let got : slice_get c.args.placed.now.block.rows c.args.at ≡ Some c.in_ok-row.row.now = search rules in
    let front : c.in_ok-before.before.now ≡ take c.args.at c.args.placed.now.block.rows = search rules in
    row_told c.args.placed.now c.args.rule c.args.at c.row_line.result c.in_ok-before.before.now c.in_ok-row.row.now c.row_finding.result
    c.row_line.ensures got front c.row_finding.ensures.place c.row_finding.ensures.said
