-- Between crates: no contract of a front door cites a definition of this module.
-- Acts and reached states, stated by commands: each command ends as the table of its tests says.
use Rattle.std.specs.Prelude.{◌≡◌, ◌≤◌, length, true}
use Rattle.tb_core.specs.declared.limits.Limits.{Limits}
use Rattle.tb_core.specs.Machine.{Machine, empty_machine}
use Rattle.tb_core.specs.Acts.{Act, IsAllowed, after}
use Rattle.tb_core.specs.Reaching.{Reached, has_room}
use Rattle.tb_core.specs.Commands.{Command, Answer, replied, Means, reply_to}
use Rattle.tb_core.specs.Steps.{Steps}

-- the act is allowed, and the limits have room for it
abbrev pub MayBeDone : Limits → Machine → Act → Type 0
MayBeDone l s a = IsAllowed s a × (has_room l s a ≡ true)

-- The command means this act and is accepted: its answer is the act's reply, and the state after it is that after the
-- act.
abbrev pub IsAccepted : Limits → Machine → Command → Act → Type 0
IsAccepted l s c a = Means s c a × Steps l s c (replied (reply_to s a)) (after s a)

-- The command did this act: the act was allowed and had room, and the answer and the next state are the act's.
abbrev pub Did : Limits → Machine → Command → Answer → Machine → Act → Type 0
Did l s c answer t a = MayBeDone l s a × Means s c a × (answer ≡ replied (reply_to s a)) × (t ≡ after s a)

-- commands under these limits, each with some answer, lead from the empty state to this one
pub data IsCommanded (l : Limits) : Machine → Type 0 where
  at_first : IsCommanded l empty_machine
  one_more : (s t : Machine) (c : Command) (answer : Answer) → IsCommanded l s → Steps l s c answer t
      → IsCommanded l t

-- allowed acts reach it, and it is within the limits
abbrev pub IsReachedWithin : Limits → Machine → Type 0
IsReachedWithin l s = Reached s × (length s.sentences ≤ l.sentences) × (length s.moves ≤ l.moves)
