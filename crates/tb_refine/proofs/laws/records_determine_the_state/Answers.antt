use Rattle.tb_refine.specs.DeskTables.{batch_record, sentence_record}
use Rattle.tb_refine.proofs.Places.{found_in}
use Rattle.tb_refine.proofs.Telltale.{pulled_reported, revisions_reported, current_reported, total_reported}
use Rattle.tb_refine.proofs.laws.records_determine_the_state.Goals as goal

pub returns : goal.returns
returns c = record {
  batches = λ s place b e. found_in batch_record s.batches place b e;
  sentences = λ s place x e. found_in sentence_record s.sentences place x e;
  pulled = pulled_reported;
  revisions = revisions_reported;
  current = λ s place y r e h a b. current_reported s place y r e h a b;
  totals = total_reported;
}
