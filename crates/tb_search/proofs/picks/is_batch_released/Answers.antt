use Rattle.std.proofs.Common.{◌≡◌, nat_eq, Some, None, slice_get, slice_index_or, sym, ap, ◌∙◌}
use Rattle.tb_core.specs.declared.kinds.State.TheVariants.{Released}
use Rattle.tb_core.specs.Events.{is_state}
use Rattle.tb_core.specs.Machine.{Batch, batch_with, no_batch}
use Rattle.tb_refine.specs.Numbers.{state_number}
use Rattle.tb_search.proofs.Choosing.{batch_reported, batch_lacks, is_five, read_at, none_at}
use Rattle.tb_search.proofs.picks.is_batch_released.Goals as goal

pub returns-in-Some : goal.returns-in-Some
returns-in-Some c bs is =
    let rows = c.args.batches.now in
    let at = c.saturating_sub.result in
    let row = c.in-Some.row.now in
    let found = c.in-Some.ensures.lookup in
    let there : slice_get rows at ≡ Some row = read_at rows at row found.3.0 ∙ ap Some (sym found.1) in
    let reported = batch_reported rows bs at row is there ∙ ap (λ i. state_number (slice_index_or bs i no_batch).state) c.saturating_sub.ensures in
    let st = (batch_with bs c.args.batch).state in
    ap (λ n. nat_eq n c.number_of_state.result) reported ∙ ap (nat_eq (state_number st)) c.number_of_state.ensures ∙ is_five st

pub returns-in-None : goal.returns-in-None
returns-in-None c bs is =
    let at = c.saturating_sub.result in
    let lacks : slice_get c.args.batches.now at ≡ None = none_at c.args.batches.now at c.in-None.ensures.lookup.3 in
    ap (λ (b : Batch). is_state b.state Released) (sym (batch_lacks c.args.batches.now bs at is lacks)) ∙ ap (λ i. is_state (slice_index_or bs i no_batch).state Released) c.saturating_sub.ensures
