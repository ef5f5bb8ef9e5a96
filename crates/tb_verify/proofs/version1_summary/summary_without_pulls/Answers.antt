use Rattle.std.proofs.Common.{◌≡◌, All, true, false, rules, sym, subst, ◌∙◌}
use Rattle.tb_tables.proofs.Commands.{if_ok}
use Rattle.tb_verify.proofs.Version1Summary.{IsNoPullRow, no_pull_of_rows, no_pull_in_rows}
use Rattle.tb_verify.proofs.version1_summary.summary_without_pulls.Goals as goal

pub returns-then-not-has_no_pull-clause-unfit : goal.returns-then-not-has_no_pull-clause-unfit
returns-then-not-has_no_pull-clause-unfit c q s reach unpulled is =
    let read : c.as_slice.result.now ≡ c.args.rows.now.moves.items = search rules in
    let met = c.has_no_pull.ensures.1 (subst (All IsNoPullRow) (sym read) (no_pull_in_rows c.args.rows.now s is unpulled)) in
    absurd (let d : false ≡ true = sym c.if-not-has_no_pull.true ∙ met in cc)

pub returns-clause-summary : goal.returns-clause-summary
returns-clause-summary c =
    let read : c.as_slice.result.now ≡ c.args.rows.now.moves.items = search rules in
    let unpulled = subst (All IsNoPullRow) read (c.has_no_pull.ensures.0 c.if-not-has_no_pull.false) in
    if_ok c.summary_of_desk.result c.summary_of_desk.ensures.summary (λ x reported. (reported.0, reported.1, no_pull_of_rows c.args.rows.now reported.0 reported.2 unpulled, reported.2, reported.3))

pub returns-clause-unfit : goal.returns-clause-unfit
returns-clause-unfit c failed s reach unpulled is = c.summary_of_desk.ensures.unfit failed s reach is
