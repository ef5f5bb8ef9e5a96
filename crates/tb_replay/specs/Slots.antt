-- Inner: no contract beyond this crate cites a definition of this module.
-- What a replay keeps of a state. For each batch: its state, its worker and the sums that its events move. For each
-- sentence: its batch, whether it is pulled, and the number and the words of its current revision.
use Rattle.std.specs.Prelude.{ℕ, ◌+◌, List, [], ◌∷◌, false, map, length, slice_index_or}
pub use Rattle.tb_replay.specs.declared.kept.Mark.{Mark}
use Rattle.tb_core.specs.declared.kinds.State.{State}
use Rattle.tb_core.specs.declared.kinds.State.TheVariants.{Withdrawn}
use Rattle.tb_core.specs.Machine.{Batch, Sentence, Machine, rev, weigh, one, words, at_work}

-- for a batch: how many of its sentences are not pulled, and their words
pub record Slot : Type 0 where
  pub state : State
  pub worker : List ℕ
  pub sentences : ℕ
  pub words : ℕ

pub record Small : Type 0 where
  pub slots : List Slot
  pub marks : List Mark
  pub count : ℕ

abbrev pub small : List Slot → List Mark → ℕ → Small
small slots marks count = record { slots = slots; marks = marks; count = count }

abbrev pub empty_small : Small
empty_small = record { slots = []; marks = []; count = 0 }

-- ---- the slots and marks of a state

-- the slot of the batch with this number
abbrev pub slot_for : ℕ → Batch → List Sentence → Slot
slot_for n b xs = record {
  state = b.state;
  worker = b.worker;
  sentences = weigh (at_work n one) xs;
  words = weigh (at_work n words) xs;
}

-- the slots of batches from this number on
abbrev pub slots_from : ℕ → List Batch → List Sentence → List Slot
slots_from n [] xs = []
slots_from n (b ∷ bs) xs = slot_for n b xs ∷ slots_from (n + 1) bs xs

abbrev pub mark_of : Sentence → Mark
mark_of x = record { batch = x.batch; pulled = x.pulled; rev = rev x; words = words x }

abbrev pub small_of : Machine → Small
small_of s = record {
  slots = slots_from 1 s.batches s.sentences;
  marks = map mark_of s.sentences;
  count = length s.moves;
}

-- ---- the slot and the mark at a place that has none

abbrev pub no_mark : Mark
no_mark = record { batch = 0; pulled = false; rev = 1; words = 0 }

abbrev pub no_slot : Slot
no_slot = record { state = Withdrawn; worker = []; sentences = 0; words = 0 }

abbrev pub slot_at : Small → ℕ → Slot
slot_at k place = slice_index_or k.slots place no_slot

abbrev pub mark_at : Small → ℕ → Mark
mark_at k place = slice_index_or k.marks place no_mark
