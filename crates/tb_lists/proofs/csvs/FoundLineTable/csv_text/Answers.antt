use Rattle.std.proofs.Common.{◌∷◌, ◌∙◌, List, ap, map}
use Rattle.std.proofs.lemmas.Result.{IfOk-weaker}
use Rattle.tb_report.specs.Csv.{csv_of}
use Rattle.tb_lists.specs.Csv.{found_fields, found_head}
use Rattle.tb_lists.specs.Found.{FoundText}
use Rattle.tb_lists.proofs.csvs.FoundLineTable.csv_text.Goals as goal

pub returns : goal.returns
returns c =
    IfOk-weaker c.rows_text.result _ _ (λ v is. is ∙ ap (λ (found : List FoundText). csv_of (found_head ∷ map found_fields found)) c.from_ref.ensures.value) c.rows_text.ensures
