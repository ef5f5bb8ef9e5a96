use Rattle.std.proofs.Common.{◌≡◌, ◌-◌, ◌∙◌, ap}
use Rattle.tb_core.specs.Events.{makes_worker}
use Rattle.tb_core.specs.Acts.{with_worker}
use Rattle.tb_core.specs.Moves.{MoveText}
use Rattle.tb_replay.proofs.Loops.{event_written}
use Rattle.tb_replay.proofs.replaying.write_event.Goals as goal

pub returns : goal.returns
returns c =
    let who : c.as_str.result.now ≡ c.args.change.now.who = c.as_str.ensures.value ∙ ap (λ (m : MoveText). m.who) c.change.view_is in
    let place : c.saturating_sub-place.result ≡ c.args.change.now.batch - 1 = c.saturating_sub-place.ensures ∙ ap (λ (m : MoveText). m.batch - 1) c.change.view_is in
    let worker : c.worker_now.result.now ≡ with_worker (makes_worker c.args.event) c.args.change.now.who c.slot.inside.worker.now =
    c.worker_now.ensures ∙ (ap (λ w. with_worker w c.as_str.result.now c.slot.inside.worker.now) c.worker.ensures ∙ ap (λ u. with_worker (makes_worker c.args.event) u c.slot.inside.worker.now) who) in
    c.put_slot.ensures ∙ event_written c.args.event c.args.change.now.who c.args.slots.now c.saturating_sub-place.result (c.args.change.now.batch - 1)
    (record { state = c.slot.inside.state; worker = c.slot.inside.worker.now; sentences = c.slot.inside.sentences; words = c.slot.inside.words }) c.target.result c.worker_now.result.now place (c.slot.view_is ∙ c.slot_of-slot.ensures) c.target.ensures worker
