-- The rows of the totals tell those of the state.
use Rattle.std.proofs.Common.{◌≡◌, ℕ, List, [], ◌∷◌, map, refl, sym, ap, ◌∙◌}
use Rattle.sqlite_trees.proofs.ListLemmas.{map-map}
use Rattle.tb_core.specs.declared.kinds.State.{State}
use Rattle.tb_core.specs.declared.kinds.State.TheVariants.{Opened, Assigned, Submitted, Adjudicated, Released, Withdrawn}
use Rattle.tb_core.specs.declared.sums.Totals.{Totals}
use Rattle.tb_core.specs.Machine.{Machine, words, one}
use Rattle.tb_core.specs.Totals.{at_state, total, AreTotalsOf}
use Rattle.tb_tables.specs.Records.{Total}
use Rattle.tb_tables.specs.Values.{total_of}
use Rattle.tb_tables.specs.declared.rows.TotalRow.{TotalRow}
use Rattle.tb_refine.specs.DeskTables.{total_record, six_states}

six_sums : (f : State → ℕ) (st : State) → at_state (f Opened ∷ f Assigned ∷ f Submitted ∷ f Adjudicated ∷ f Released ∷ f Withdrawn ∷ []) st ≡ f st
six_sums f Opened = refl
six_sums f Assigned = refl
six_sums f Submitted = refl
six_sums f Adjudicated = refl
six_sums f Released = refl
six_sums f Withdrawn = refl

pub totals_stand : (s : Machine) (t : Totals) (rows : List TotalRow) → map total_of rows ≡ map (total_record s) six_states → t.sentences ≡ map (λ (r : TotalRow). r.sentences) rows → t.words ≡ map (λ (r : TotalRow). r.words) rows → AreTotalsOf t s
totals_stand s t rows is sentences_are words_are =
    let a : t.sentences ≡ map (λ (x : Total). x.sentences) (map (total_record s) six_states) = sentences_are ∙ sym (map-map (λ (x : Total). x.sentences) total_of rows) ∙ ap (map (λ (x : Total). x.sentences)) is in
    let b : t.words ≡ map (λ (x : Total). x.words) (map (total_record s) six_states) = words_are ∙ sym (map-map (λ (x : Total). x.words) total_of rows) ∙ ap (map (λ (x : Total). x.words)) is in
    record {
      sentences = λ st. ap (λ l. at_state l st) a ∙ six_sums (total one s) st;
      words = λ st. ap (λ l. at_state l st) b ∙ six_sums (total words s) st;
    }
