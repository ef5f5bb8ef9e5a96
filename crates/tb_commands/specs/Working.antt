-- Between crates: no contract of a front door cites a definition of this module.
-- What a command leaves of a desk, and the part of a batch that its events move.
use Rattle.std.specs.Prelude.{◌≡◌, ℕ, ◌+◌, List, length, cond}
use Rattle.sqlite.specs.Store.{Ghosts}
use Rattle.sqlite.specs.Held.{Held}
use Rattle.tb_core.specs.declared.sums.Totals.{Totals}
use Rattle.tb_core.specs.declared.limits.Limits.{Limits}
use Rattle.tb_core.specs.Machine.{Machine}
use Rattle.tb_core.specs.Commands.{Command, Reply, replied}
use Rattle.tb_core.specs.Steps.{Steps}
use Rattle.tb_core.specs.Totals.{AreTotalsOf}
use Rattle.tb_refine.specs.DeskTables.{IsDeskOf}
use Rattle.tb_refine.specs.Listed.{is_listed}
use Rattle.tb_reads.specs.declared.work.BatchSentence.{BatchSentence}

-- The command has this answer, the desk represents the state after it, and these are the totals. There is one move
-- more; the numbers of batches and sentences are unchanged.
pub record IsDone {S : Type 0} (g : Ghosts S) (l : Limits) (s : Machine) (c : Command) (r : Reply) (new : Held S) (t : Totals) : Type 0 where
  pub next : Machine
  pub steps : Steps l s c (replied r) next
  pub desk : IsDeskOf g new next
  pub totals : AreTotalsOf t next
  pub batches : length next.batches ≡ length s.batches
  pub sentences : length next.sentences ≡ length s.sentences
  pub moves : length next.moves ≡ length s.moves + 1

-- ---- the part of a batch that is not pulled

-- the weight of a sentence; 0 where it is pulled
abbrev pub unless_pulled : List ℕ → (BatchSentence → ℕ) → BatchSentence → ℕ
unless_pulled pulled w item = cond (is_listed item.number pulled) 0 (w item)

abbrev pub each_one : BatchSentence → ℕ
each_one item = 1

abbrev pub its_words : BatchSentence → ℕ
its_words item = item.words
