-- The states that accepted commands reach from the empty one.
use Rattle.std.specs.Prelude.{◌+◌, ◌≤◌, length, Bool, ◌&&◌, nat_le}
use Rattle.tb_core.specs.declared.limits.Limits.{Limits}
use Rattle.tb_core.specs.Machine.{Machine, empty_machine}
use Rattle.tb_core.specs.Acts.{Act, importing, stepping, correcting, pulling, restoring, IsAllowed, after}

pub data Reached : Machine → Type 0 where
  begun : Reached empty_machine
  further : (s : Machine) (a : Act) → Reached s → IsAllowed s a → Reached (after s a)

-- accepted commands lead from the first state to the second
pub data Later (s : Machine) : Machine → Type 0 where
  now : Later s s
  later : (t : Machine) (a : Act) → Later s t → IsAllowed t a → Later s (after t a)

-- ---- limits

-- Whether the limits have room for one more command: an import adds sentences, and each command adds a move.
abbrev pub has_room : Limits → Machine → Act → Bool
has_room l s (importing name user bodies) = nat_le (length s.sentences + length bodies) l.sentences
    && nat_le (length s.moves + 1) l.moves
has_room l s (stepping place event user) = nat_le (length s.moves + 1) l.moves
has_room l s (correcting place user body) = nat_le (length s.moves + 1) l.moves
has_room l s (pulling place user) = nat_le (length s.moves + 1) l.moves
has_room l s (restoring place user) = nat_le (length s.moves + 1) l.moves

-- the largest limits of any desk
abbrev pub largest : Limits
largest = record { sentences = 1000000; moves = 1000000000; hits = 1000000 }

-- Since sentences and moves are only added, each state on the way is within the limits where the last one is.
pub record IsReachable (s : Machine) : Type 0 where
  pub reached : Reached s
  pub sentences : length s.sentences ≤ 1000000
  pub moves : length s.moves ≤ 1000000000
