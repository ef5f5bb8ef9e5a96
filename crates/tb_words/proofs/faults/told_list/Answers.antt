use Rattle.std.proofs.Common.{List, subst, ◌∙◌}
use Rattle.tb_check.specs.declared.fault.Fault.{Fault}
use Rattle.tb_report.specs.FaultList.{faults_csv}
use Rattle.tb_words.specs.Told.{AreTold}
use Rattle.tb_words.proofs.faults.told_list.Goals as goal

pub returns-clause-list : goal.returns-clause-list
returns-clause-list c =
    let first = c.in_ok-first.ensures.first in
    let each = c.in_ok-told.ensures.faults ∙ c.as_slice.ensures.value ∙ first.2 in
    let text = c.in_ok-text.ensures ∙ λ i. faults_csv (first.3 i) (c.as_slice-2.ensures.value i) in
    (first.0, first.1, (c.in_ok-told.told.items, each, text), first.4)

pub returns-clause-told : goal.returns-clause-told
returns-clause-told c =
    let first = c.in_ok-first.ensures.first in
    let text = c.in_ok-text.ensures ∙ λ i. faults_csv (first.3 i) (c.as_slice-2.ensures.value i) in (
      first.0,
      c.in_ok-told.told.items,
      first.1,
      subst (λ (faults : List Fault). AreTold c.args.file.now 0 0 faults c.in_ok-told.told.items)
          (c.as_slice.ensures.value ∙ first.2) c.in_ok-told.ensures.told,
      text,
    )
