use Rattle.std.proofs.Common.{◌≡◌, [], ◌∷◌, ℕ, List, subst}
use Rattle.std.specs.Result.{OnOk}
use Rattle.tb_report.specs.Csv.{PutsRows}
use Rattle.tb_lists.specs.Csv.{found_head}
use Rattle.tb_lists.proofs.csvs.FoundLineTableRow.put_head.Goals as goal

pub returns : goal.returns
returns g c =
    let head : c.as_bytes.result.now ∷ c.as_bytes-2.result.now ∷ c.as_bytes-3.result.now ∷ c.as_bytes-4.result.now ∷ c.as_bytes-5.result.now ∷ [] ≡ found_head =
    λ i. c.as_bytes.ensures.value i ∷ c.as_bytes-2.ensures.value i ∷ c.as_bytes-3.ensures.value i ∷ c.as_bytes-4.ensures.value i ∷ c.as_bytes-5.ensures.value i ∷ [] in
    subst (λ (fields : List (List ℕ)). OnOk c.put_row.result (PutsRows g.W.Write.contents c.args.rows.now c.put_row.new.rows (fields ∷ []))) head c.put_row.ensures
