-- Pulls and restores as they are judged and planned.
use Rattle.std.proofs.Common.{◌≡◌, ℕ, ◌+◌, ◌-◌, ◌<◌, List, length, Some, slice_get, true, false, refl, sym, ◌∙◌, arith}
use Rattle.tb_core.specs.declared.kinds.State.TheVariants.{Withdrawn}
use Rattle.tb_core.specs.declared.kinds.Kind.TheVariants as kinds
use Rattle.tb_core.specs.declared.limits.Limits.{Limits}
use Rattle.tb_core.specs.Machine.{Machine, Sentence, one, words}
use Rattle.tb_core.specs.Acts.{Act, pulling, flagged, after, state_at, batch_at}
use Rattle.tb_core.specs.Acts.{move_of as move_made}
use Rattle.tb_core.specs.Commands.{Command, Reply, pulled_out, restored_to, reply_to}
use Rattle.tb_core.proofs.Weights.{weight_there, length-changed}
use Rattle.tb_core.specs.Found.{FindsSentence}
use Rattle.tb_commands.specs.declared.finding.SentenceRead.{SentenceRead}
use Rattle.tb_commands.specs.declared.pulling.PullOrRestore.{PullOrRestore}
use Rattle.tb_commands.specs.declared.pulling.PullOrRestore.TheVariants.{Pull, Restore}
use Rattle.tb_refine.specs.declared.preparing.PreparedMove.{PreparedMove}
use Rattle.tb_commands.specs.ReadOf.{IsSentenceRead}
use Rattle.tb_refine.specs.Recorded.{IsWritten}
use Rattle.tb_commands.specs.Pulling.{act_of, reply_of, sentence_move, IsJudged}
use Rattle.tb_refine.proofs.Finds.{own_state}

-- what was read, as it is judged
pub sentence_found : (s : Machine) (n : ℕ) (x : Sentence) (f : SentenceRead) → 0 < n → slice_get s.sentences (n - 1) ≡ Some x → IsSentenceRead s x f → FindsSentence s n (Some (record { state = f.state; pulled = f.pulled }))
sentence_found s n x f above there read = (n - 1, x, record { counted = omega (arith, above); there = there }, read.state, read.pulled)

module _ (s : Machine) (n : ℕ) (user : List ℕ) (f : SentenceRead) (x : Sentence) (above : 0 < n) (there : slice_get s.sentences (n - 1) ≡ Some x) (read : IsSentenceRead s x f) where
  at : n ≡ (n - 1) + 1
  at = omega (arith, above)

  in_batch : f.batch ≡ batch_at s.sentences (n - 1)
  in_batch = read.batch ∙ sym (weight_there (λ (y : Sentence). y.batch) s.sentences (n - 1) x there)

  own : f.state ≡ state_at s (n - 1)
  own = read.state ∙ own_state s (n - 1) x there

  single : 1 ≡ (move_made s (pulling (n - 1) user)).sentences
  single = sym (weight_there one s.sentences (n - 1) x there)

  its_words : f.words ≡ (move_made s (pulling (n - 1) user)).words_out
  its_words = read.words ∙ sym (weight_there words s.sentences (n - 1) x there)

  -- the move
  pub moves_as : (asked : PullOrRestore) (counted : ℕ) → counted ≡ length s.moves + 1 → sentence_move asked counted n f user ≡ move_made s (act_of asked n user)
  moves_as Pull counted next = λ j. record { no = next j; kind = kinds.Pull; batch = in_batch j; sent = at j; from = Some (own j); to = Withdrawn; sentences = single j; words_out = its_words j; words_in = its_words j; who = user }
  moves_as Restore counted next = λ j. record { no = next j; kind = kinds.Restore; batch = in_batch j; sent = at j; from = Some Withdrawn; to = own j; sentences = single j; words_out = its_words j; words_in = its_words j; who = user }

  -- the reply
  pub replies_as : (asked : PullOrRestore) → reply_of asked n f ≡ reply_to s (act_of asked n user)
  replies_as Pull = λ j. pulled_out (record { sentence = at j; words = its_words j })
  replies_as Restore = λ j. restored_to (record { sentence = at j; state = own j; words = its_words j })

-- there are as many batches and sentences afterwards
pub same_batches : (asked : PullOrRestore) (s : Machine) (n : ℕ) (user : List ℕ) → length (after s (act_of asked n user)).batches ≡ length s.batches
same_batches Pull s n user = refl
same_batches Restore s n user = refl

pub same_sentences : (asked : PullOrRestore) (s : Machine) (n : ℕ) (user : List ℕ) → length (after s (act_of asked n user)).sentences ≡ length s.sentences
same_sentences Pull s n user = length-changed (flagged true) s.sentences (n - 1)
same_sentences Restore s n user = length-changed (flagged false) s.sentences (n - 1)

-- what is written of a judged act
pub judged_written : (l : Limits) (s : Machine) (c : Command) (a : Act) (reply : Reply) (p : PreparedMove) → IsJudged l s c a reply p → IsWritten s a p.change
judged_written l s c a reply p judged = record { totals = p.totals; stand = judged.prepared.stand; change = judged.prepared.change }
