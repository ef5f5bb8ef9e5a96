use Rattle.std.proofs.Common.{◌∙◌, ◌-◌, ap}
use Rattle.std.proofs.lemmas.List.Elements.{AllWithin-more_set}
use Rattle.std.specs.Duration.{as_nanos}
use Rattle.tb_desk.specs.Waiting.{Ages, Waits}
use Rattle.tb_desk.proofs.Aged.{still, one_more, rest_same}
use Rattle.tb_desk.proofs.Rooms.{one_read, all_after_one}
use Rattle.tb_desk.proofs.waiting.Waiting.place.Goals as goal

pub loop-at-preserved : goal.loop-at-preserved
loop-at-preserved c =
    let inside = c.in-Some.ensures.item.3.0 in (
      c.loop-at.invariant.0,
      c.loop-at.invariant.1,
      c.loop-at.invariant.2,
      c.loop-at.invariant.3,
      AllWithin-more_set c.loop-at.self.callers.items c.loop-at.at c.look_at-seen.new.caller inside Waits c.loop-at.invariant.4 (c.look_at-seen.ensures.waits c.in_default-seen.is),
      all_after_one _ c.loop-at.self.callers.items c.loop-at.at c.loop-at.kept c.saturating_sub-others.result c.most_size.result c.in-Some.caller.now c.look_at-seen.new.caller
          inside c.in-Some.ensures.item.1 c.look_at-seen.ensures.most c.most_size.ensures (c.saturating_sub-others.ensures ∙ ap (λ n. c.loop-at.kept - n) c.kept.ensures) c.loop-at.invariant.5
          c.kept-in-loop-at.result c.saturating_add-kept.result c.kept-in-loop-at.ensures c.saturating_add-kept.ensures,
      one_more (Ages (as_nanos c.args.passed)) _ c.loop-at.self.callers.items c.loop-at.at c.in-Some.caller.now c.look_at-seen.new.caller inside c.in-Some.ensures.item.3.1 c.look_at-seen.ensures.time
          c.loop-at.invariant.6 c.loop-at.invariant.7,
      rest_same (Ages (as_nanos c.args.passed)) _ c.loop-at.self.callers.items c.loop-at.at c.look_at-seen.new.caller c.loop-at.invariant.7,
      c.loop-at.invariant.8,
    )

pub returns-in-Some-seen-clause-room : goal.returns-in-Some-seen-clause-room
returns-in-Some-seen-clause-room c =
    one_read _ c.loop-at.self.callers.items c.loop-at.at c.loop-at.kept c.saturating_sub-others.result c.most_size.result c.in-Some.caller.now c.look_at-seen.new.caller
    c.in-Some.ensures.item.3.0 c.in-Some.ensures.item.1 c.look_at-seen.ensures.most c.most_size.ensures (c.saturating_sub-others.ensures ∙ ap (λ n. c.loop-at.kept - n) c.kept.ensures) c.loop-at.invariant.5

pub returns-in-Some-seen-clause-time : goal.returns-in-Some-seen-clause-time
returns-in-Some-seen-clause-time c = still (Ages (as_nanos c.args.passed)) _ c.loop-at.self.callers.items c.loop-at.at c.look_at-seen.new.caller c.loop-at.invariant.6
