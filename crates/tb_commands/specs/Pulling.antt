-- Inner: no contract beyond this crate cites a definition of this module.
-- Pulls and restores: what is asked, its reply, and what it writes.
use Rattle.std.specs.Prelude.{ℕ, ◌-◌, List, Some}
use Rattle.tb_core.specs.declared.limits.Limits.{Limits}
use Rattle.tb_core.specs.declared.kinds.Kind.{Kind}
use Rattle.tb_core.specs.declared.kinds.Kind.TheVariants as kinds
use Rattle.tb_core.specs.declared.kinds.State.{State}
use Rattle.tb_core.specs.declared.kinds.State.TheVariants.{Withdrawn}
use Rattle.tb_core.specs.Moves.{MoveText}
use Rattle.tb_core.specs.Machine.{Machine}
use Rattle.tb_core.specs.Acts.{Act, pulling, restoring, IsAllowed, after}
use Rattle.tb_core.specs.Commands.{Command, Reply, pull, restore, pulled_out, restored_to, replied}
use Rattle.tb_core.specs.Steps.{Steps}
use Rattle.tb_commands.specs.declared.finding.SentenceRead.{SentenceRead}
use Rattle.tb_commands.specs.declared.pulling.PullOrRestore.{PullOrRestore}
use Rattle.tb_commands.specs.declared.pulling.PullOrRestore.TheVariants.{Pull, Restore}
use Rattle.tb_refine.specs.declared.preparing.PreparedMove.{PreparedMove}
use Rattle.tb_refine.specs.Counted.{IsPrepared}

-- ---- what is asked of a sentence: its number counts from 1

abbrev pub command_of : PullOrRestore → (number : ℕ) → (user : List ℕ) → Command
command_of Pull number user = pull number user
command_of Restore number user = restore number user

-- what it does where it is accepted
abbrev pub act_of : PullOrRestore → (number : ℕ) → (user : List ℕ) → Act
act_of Pull number user = pulling (number - 1) user
act_of Restore number user = restoring (number - 1) user

-- the reply, where the sentence was read so
abbrev pub reply_of : PullOrRestore → (number : ℕ) → SentenceRead → Reply
reply_of Pull number f = pulled_out (record { sentence = number; words = f.words })
reply_of Restore number f = restored_to (record { sentence = number; state = f.state; words = f.words })

-- the kind of its move
abbrev pub kind_by : PullOrRestore → Kind
kind_by Pull = kinds.Pull
kind_by Restore = kinds.Restore

-- the states that the move leaves and reaches, where the batch has this state
abbrev pub ends_of : PullOrRestore → State → State × State
ends_of Pull state = (state, Withdrawn)
ends_of Restore state = (Withdrawn, state)

abbrev pub sentence_move : PullOrRestore → (counted number : ℕ) → SentenceRead → (user : List ℕ) → MoveText
sentence_move asked counted number f user = record {
  no = counted;
  kind = kind_by asked;
  batch = f.batch;
  sent = number;
  from = Some (ends_of asked f.state).0;
  to = (ends_of asked f.state).1;
  sentences = 1;
  words_out = f.words;
  words_in = f.words;
  who = user;
}

-- The command is this act. The act is allowed and has this reply, and this is what it writes.
pub record IsJudged (l : Limits) (s : Machine) (c : Command) (a : Act) (reply : Reply) (p : PreparedMove) : Type 0 where
  pub prepared : IsPrepared s a p
  pub allowed : IsAllowed s a
  pub steps : Steps l s c (replied reply) (after s a)
