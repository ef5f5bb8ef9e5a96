use Rattle.std.proofs.Common.{List, subst}
use Rattle.std.specs.Option.{MatchOption}
use Rattle.tb_conllu.specs.Text.{RowText}
use Rattle.tb_rules.specs.Rows.{EachRowPasses, IsFirstFault}
use Rattle.tb_rules.specs.Places.{place_test}
use Rattle.tb_rules.proofs.Placed.{fault_same}
use Rattle.tb_rules.proofs.deps.dependency_fault.Goals as goal

pub returns-clause-value : goal.returns-clause-value
returns-clause-value g c =
    fault_same c.args.rows.now c.first_fault.result c.requires.in_place c.rows_are_few.ensures
    (subst (λ (rs : List RowText). MatchOption c.first_fault.result (EachRowPasses (place_test rs) rs) (IsFirstFault (place_test rs) rs)) c.in_ok-heads.ensures.rows c.first_fault.ensures)
