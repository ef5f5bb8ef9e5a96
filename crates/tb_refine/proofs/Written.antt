-- What is written of an allowed act tells the state after it.
use Rattle.std.proofs.Common.{◌≡◌, ◌+◌, length, refl, ap, ◌∙◌, arith}
use Rattle.std.proofs.lemmas.List.{length-map}
use Rattle.tb_core.specs.declared.kinds.State.{State}
use Rattle.tb_core.specs.declared.sums.Totals.{Totals}
use Rattle.tb_core.specs.Machine.{Machine}
use Rattle.tb_core.specs.Acts.{Act}
use Rattle.tb_core.specs.Acts.{move_of as move_made}
use Rattle.tb_core.specs.Totals.{AreTotalsOf}
use Rattle.tb_tables.specs.Records.{Move}
use Rattle.tb_tables.specs.Values.{total_of}
use Rattle.tb_tables.specs.declared.rows.TotalRow.{TotalRow}
use Rattle.tb_tables.specs.declared.recording.MoveWrite.{MoveWrite}
use Rattle.tb_tables.specs.Premises.{Follows}
use Rattle.tb_refine.specs.Numbers.{state_number, from_number}
use Rattle.tb_refine.specs.DeskTables.{tables_of, move_record, total_record}
use Rattle.tb_refine.proofs.CallLemmas.{state_within, before_within}
use Rattle.tb_refine.proofs.Places.{total_is}
use Rattle.tb_refine.specs.Recorded.{IsTotalOf, IsWritten}

pub total_reported : (t : Totals) (s : Machine) (st : State) (row : TotalRow) → AreTotalsOf t s → IsTotalOf t st row → total_of row ≡ total_record s st
total_reported t s st row stand is = total_is (total_of row) (total_record s st) (is.sentences ∙ stand.sentences st) (is.words ∙ stand.words st)

pub follows : (s : Machine) (a : Act) (c : MoveWrite) → IsWritten s a c → Follows (tables_of s) c
follows s a c w =
    let six : length (tables_of s).totals ≡ 6 = refl in
    let from : c.row.from ≡ from_number (move_made s a).from = ap (λ (m : Move). m.from) w.change.row in
    let to : c.row.to ≡ state_number (move_made s a).to = ap (λ (m : Move). m.to) w.change.row in
    let low = before_within (move_made s a).from in
    let high = state_within (move_made s a).to in
    record {
      number = (let counted : c.number ≡ length s.moves + 1 = w.change.number in omega (arith, counted, length-map s.moves move_record));
      left = omega (arith, six, from, low);
      reached = omega (arith, six, to, high.1);
    }
