use Rattle.std.proofs.Common.{◌≡◌, ◌≤◌, List, ap, length, subst}
use Rattle.std.specs.Prelude.{All, IfOk, IsOk, MatchOption}
use Rattle.tb_conllu.specs.Text.{BlockText, RowText}
use Rattle.tb_rules.specs.Feats.{feature_test}
use Rattle.tb_rules.specs.Rows.{EachRowPasses, IsFirstFault}
use Rattle.tb_rules.proofs.checking.feature_row.Goals as goal

pub returns-clause-value : goal.returns-clause-value
returns-clause-value g c =
    let view = ap (λ (b : BlockText). b.rows) c.block.view_is in
    let value = c.deref.ensures.value in
    let rows : c.deref.result.now ≡ c.args.block.now.rows = cc in
    subst (λ (rs : List RowText). IfOk c.feature_fault.result (λ r. MatchOption r (EachRowPasses feature_test rs) (IsFirstFault feature_test rs))) rows c.feature_fault.ensures.value

pub returns-clause-sure : goal.returns-clause-sure
returns-clause-sure g c =
    let view = ap (λ (b : BlockText). b.rows) c.block.view_is in
    let value = c.deref.ensures.value in
    let rows : c.deref.result.now ≡ c.args.block.now.rows = cc in
    subst (λ (rs : List RowText). All (λ (r : RowText). length r.feats ≤ 32) rs → IsOk c.feature_fault.result) rows c.feature_fault.ensures.sure
