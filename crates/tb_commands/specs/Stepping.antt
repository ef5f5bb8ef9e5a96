-- Inner: no contract beyond this crate cites a definition of this module.
-- The reply to an accepted event, and what the event writes.
use Rattle.std.specs.Prelude.{◌≡◌, ℕ, ◌+◌, List, Some, string_bytes, slice_get}
use Rattle.tb_core.specs.declared.kinds.Event.{Event}
use Rattle.tb_core.specs.declared.kinds.Kind.TheVariants.{Step}
use Rattle.tb_core.specs.Events.{goes_to, makes_worker}
use Rattle.tb_core.specs.Moves.{MoveText}
use Rattle.tb_core.specs.Machine.{Machine, Batch}
use Rattle.tb_core.specs.Acts.{stepping, with_worker}
use Rattle.tb_core.specs.Commands.{moved_on, reply_to}
use Rattle.tb_refine.specs.Numbers.{state_number}
use Rattle.tb_core.specs.Found.{BatchSeen}
use Rattle.tb_commands.specs.declared.finding.BatchRead.{BatchRead}
use Rattle.tb_commands.specs.declared.working.Sums.{Sums}
use Rattle.tb_commands.specs.declared.stepping.EventPlan.{EventPlan}
use Rattle.tb_refine.specs.Counted.{IsPrepared}

abbrev pub seen_of : BatchRead → BatchSeen
seen_of f = record { number = f.number; state = f.state; worker = string_bytes f.worker }

-- the move of an event on a batch that was read so, whose sentences that are not pulled have these sums
abbrev pub event_move : ℕ → Event → BatchRead → Sums → List ℕ → MoveText
event_move number event found sums user = record {
  no = number;
  kind = Step event;
  batch = found.number;
  sent = 0;
  from = Some found.state;
  to = goes_to event;
  sentences = sums.sentences;
  words_out = sums.words;
  words_in = sums.words;
  who = user;
}

-- this is the plan of the event on the batch at this place
pub record IsPlanned (s : Machine) (place : ℕ) (event : Event) (user : List ℕ) (p : EventPlan) : Type 0 where
  pub batch : Batch
  pub there : slice_get s.batches place ≡ Some batch
  pub number : p.number ≡ place + 1
  pub in_state : p.in_state ≡ state_number (goes_to event)
  pub worker : string_bytes p.worker ≡ with_worker (makes_worker event) user batch.worker
  pub prepared : IsPrepared s (stepping place event user) p.prepared
  pub reply : moved_on p.reply ≡ reply_to s (stepping place event user)
