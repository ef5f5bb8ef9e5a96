-- The texts of totals that stand for a state.
use Rattle.std.proofs.Common.{◌≡◌, ◌∙◌, ℕ, List, [], ◌∷◌, map, refl, ap}
use Rattle.std.specs.Prelude.{decimal}
use Rattle.tb_core.specs.declared.kinds.State.{State}
use Rattle.tb_core.specs.declared.sums.Totals.{Totals}
use Rattle.tb_core.specs.Machine.{Machine, one}
use Rattle.tb_core.specs.Totals.{AreTotalsOf, at_state, total}
use Rattle.tb_core.specs.Words.{state_word}
use Rattle.tb_report.specs.Csv.{csv_of, totals_head, all_states, totals_fields, totals_csv}
use Rattle.tb_answer.specs.Asked.{total_row, totals_text}

row_is : (t : Totals) (s : Machine) (st : State) → AreTotalsOf t s → totals_fields t st ≡ total_row s st
row_is t s st h =
    ap (λ (n : ℕ). state_word st ∷ decimal n ∷ decimal (at_state t.words st) ∷ []) (h.sentences st)
    ∙ ap (λ (n : ℕ). state_word st ∷ decimal (total one s st) ∷ decimal n ∷ []) (h.words st)

rows_are : (t : Totals) (s : Machine) (sts : List State) → AreTotalsOf t s → map (totals_fields t) sts ≡ map (total_row s) sts
rows_are t s [] h = refl
rows_are t s (st ∷ sts) h =
    ap (λ (row : List (List ℕ)). row ∷ map (totals_fields t) sts) (row_is t s st h)
    ∙ ap (λ (rows : List (List (List ℕ))). total_row s st ∷ rows) (rows_are t s sts h)

pub totals_are : (t : Totals) (s : Machine) → AreTotalsOf t s → totals_csv t ≡ totals_text s
totals_are t s h = ap (λ (rows : List (List (List ℕ))). csv_of (totals_head ∷ rows)) (rows_are t s all_states h)
