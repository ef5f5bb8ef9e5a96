-- Inner: no contract beyond this crate cites a definition of this module.
-- Which moves a replay accepts, by what it keeps of a state and by the rows of sentences, and what it keeps next.
use Rattle.std.specs.Prelude.{ℕ, ◌+◌, ◌-◌, ◌^◌, List, [], ◌∷◌, ◌++◌, Bool, true, false, cond}
use Rattle.std.specs.Prelude.{◌&&◌, map, length, take, drop, nat_eq, nat_lt, bytes_eq, Option, Some, None, is_ok}
use Rattle.std.specs.Prelude.{slice_index_or}
use Rattle.std.specs.List.{list_all}
pub use Rattle.tb_replay.specs.declared.kept.Expected.{Expected}
use Rattle.tb_core.specs.declared.kinds.State.{State}
use Rattle.tb_core.specs.declared.kinds.State.TheVariants.{Opened, Withdrawn}
use Rattle.tb_core.specs.declared.kinds.Event.{Event}
use Rattle.tb_core.specs.declared.kinds.Kind.{Kind}
use Rattle.tb_core.specs.declared.kinds.Kind.TheVariants.{Import, Step, Correct, Pull, Restore}
use Rattle.tb_core.specs.Moves.{MoveText}
use Rattle.tb_core.specs.Names.{is_name}
use Rattle.tb_core.specs.Events.{is_state, goes_to, makes_worker}
use Rattle.tb_core.specs.Deciding.{event_decision, may_correct, pull_decision, restore_decision}
use Rattle.tb_core.specs.Machine.{Batch, change_at}
use Rattle.tb_core.specs.Acts.{with_worker}
use Rattle.tb_replay.specs.Summaries.{RevisionRow, SummaryRow}
use Rattle.tb_replay.specs.Slots.{Slot, Mark, Small, slot_at, mark_at}

abbrev pub no_entry : SummaryRow
no_entry = record { batch = 0; pulled = false; revisions = [] }

abbrev pub no_row : RevisionRow
no_row = record { who = []; words = 0 }

-- ---- a move as it should be (without its kind and user)

abbrev pub is_from_state : Option State → Option State → Bool
is_from_state None None = true
is_from_state None (Some b) = false
is_from_state (Some a) None = false
is_from_state (Some a) (Some b) = is_state a b

abbrev pub is_expected : MoveText → Expected → Bool
is_expected m e = nat_eq m.no e.no && (nat_eq m.batch e.batch && (nat_eq m.sent e.sent &&
    (is_from_state m.from e.from && (is_state m.to e.to && (nat_eq m.sentences e.sentences &&
    (nat_eq m.words_out e.words_out && nat_eq m.words_in e.words_in))))))

-- the number fits 64 bits (it always does where bodies are fine and there are at most 1,000,000 sentences)
abbrev pub fits_word : ℕ → Bool
fits_word n = nat_lt n (2 ^ 64)

-- ---- the tests of each kind, and what is kept next

-- the slot of a sentence's batch
abbrev pub slot_under : Small → Mark → Slot
slot_under k x = slot_at k (x.batch - 1)

abbrev pub event_expected : ℕ → ℕ → Event → Slot → Expected
event_expected count place e x = record {
  no = count + 1;
  batch = place + 1;
  sent = 0;
  from = Some x.state;
  to = goes_to e;
  sentences = x.sentences;
  words_out = x.words;
  words_in = x.words;
}

abbrev pub event_fits : ℕ → ℕ → Event → Slot → MoveText → Bool
event_fits count place e x m = is_name m.who && (is_ok (event_decision x.state x.worker e m.who) && is_expected m
    (event_expected count place e x))

abbrev pub event_test : Small → Event → MoveText → Bool
event_test k e m = nat_lt (m.batch - 1) (length k.slots) && event_fits k.count (m.batch - 1) e (slot_at k
    (m.batch - 1)) m

abbrev pub slot_moved : Event → List ℕ → Slot → Slot
slot_moved e user x = record {
  state = goes_to e;
  worker = with_worker (makes_worker e) user x.worker;
  sentences = x.sentences;
  words = x.words;
}

abbrev pub event_next : Small → Event → MoveText → Small
event_next k e m = record {
  slots = change_at (slot_moved e m.who) k.slots (m.batch - 1);
  marks = k.marks;
  count = k.count + 1;
}

-- the row of the revision that comes next
abbrev pub row_next : Mark → SummaryRow → RevisionRow
row_next x e = slice_index_or e.revisions x.rev no_row

abbrev pub entry_at : List SummaryRow → ℕ → SummaryRow
entry_at es place = slice_index_or es place no_entry

-- a move of one sentence, from one state to another; `coming` are the words that come
abbrev pub one_expected : ℕ → ℕ → Mark → State → State → ℕ → Expected
one_expected count place x old new coming = record {
  no = count + 1;
  batch = x.batch;
  sent = place + 1;
  from = Some old;
  to = new;
  sentences = 1;
  words_out = x.words;
  words_in = coming;
}

abbrev pub correct_expected : ℕ → ℕ → Mark → Slot → ℕ → Expected
correct_expected count place x b coming = one_expected count place x b.state b.state coming

abbrev pub row_fits : ℕ → ℕ → Mark → Slot → RevisionRow → MoveText → Bool
row_fits count place x b r m = bytes_eq r.who m.who && (is_ok
    (may_correct
    (cond x.pulled Withdrawn b.state) b.worker m.who) && is_expected m (correct_expected count place x b r.words))

abbrev pub correct_fits : ℕ → ℕ → Mark → Slot → SummaryRow → MoveText → Bool
correct_fits count place x b e m = is_name m.who && (nat_lt x.rev (length e.revisions) && row_fits count place x b
    (row_next x e) m)

abbrev pub correct_test : List SummaryRow → Small → MoveText → Bool
correct_test es k m = nat_lt (m.sent - 1) (length k.marks)
    && (fits_word ((slot_under k (mark_at k (m.sent - 1))).words + (row_next (mark_at k (m.sent - 1))
    (entry_at es (m.sent - 1))).words)
    && correct_fits k.count (m.sent - 1) (mark_at k (m.sent - 1)) (slot_under k (mark_at k (m.sent - 1))) (entry_at es
    (m.sent - 1)) m)

abbrev pub slot_with : ℕ → ℕ → ℕ → ℕ → Slot → Slot
slot_with more less words_more words_less b = record {
  state = b.state;
  worker = b.worker;
  sentences = b.sentences + more - less;
  words = b.words + words_more - words_less;
}

abbrev pub mark_corrected : ℕ → Mark → Mark
mark_corrected n x = record { batch = x.batch; pulled = x.pulled; rev = x.rev + 1; words = n }

abbrev pub mark_flagged : Bool → Mark → Mark
mark_flagged p x = record { batch = x.batch; pulled = p; rev = x.rev; words = x.words }

-- what is kept after a change of the sentence at a place, whose mark was x
abbrev pub mark_next : ℕ → ℕ → ℕ → ℕ → (Mark → Mark) → Mark → ℕ → Small → Small
mark_next more less words_more words_less g x place k =
    record {
      slots = change_at (slot_with more less words_more words_less) k.slots (x.batch - 1);
      marks = change_at g k.marks place;
      count = k.count + 1;
    }

abbrev pub correct_to : Mark → ℕ → ℕ → Small → Small
correct_to x n place k = mark_next 1 1 n x.words (mark_corrected n) x place k

abbrev pub correct_next : List SummaryRow → Small → MoveText → Small
correct_next es k m = correct_to (mark_at k (m.sent - 1)) (row_next (mark_at k (m.sent - 1))
    (entry_at es (m.sent - 1))).words (m.sent - 1) k

abbrev pub pull_expected : ℕ → ℕ → Mark → Slot → Expected
pull_expected count place x b = one_expected count place x b.state Withdrawn x.words

abbrev pub pull_fits : ℕ → ℕ → Mark → Slot → MoveText → Bool
pull_fits count place x b m = is_name m.who && (is_ok (pull_decision b.state x.pulled) && is_expected m
    (pull_expected count place x b))

abbrev pub pull_test : Small → MoveText → Bool
pull_test k m = nat_lt (m.sent - 1) (length k.marks) && pull_fits k.count (m.sent - 1) (mark_at k
    (m.sent - 1)) (slot_under k (mark_at k (m.sent - 1))) m

abbrev pub pull_to : Mark → ℕ → Small → Small
pull_to x place k = mark_next 0 1 0 x.words (mark_flagged true) x place k

abbrev pub pull_next : Small → MoveText → Small
pull_next k m = pull_to (mark_at k (m.sent - 1)) (m.sent - 1) k

abbrev pub restore_expected : ℕ → ℕ → Mark → Slot → Expected
restore_expected count place x b = one_expected count place x Withdrawn b.state x.words

abbrev pub restore_fits : ℕ → ℕ → Mark → Slot → MoveText → Bool
restore_fits count place x b m = is_name m.who && (is_ok (restore_decision b.state x.pulled) && is_expected m
    (restore_expected count place x b))

abbrev pub restore_test : Small → MoveText → Bool
restore_test k m = nat_lt (m.sent - 1) (length k.marks)
    && ((fits_word ((slot_under k (mark_at k (m.sent - 1))).sentences + 1) && fits_word
    ((slot_under k (mark_at k (m.sent - 1))).words + (mark_at k (m.sent - 1)).words))
    && restore_fits k.count (m.sent - 1) (mark_at k (m.sent - 1)) (slot_under k (mark_at k (m.sent - 1))) m)

abbrev pub restore_to : Mark → ℕ → Small → Small
restore_to x place k = mark_next 1 0 x.words 0 (mark_flagged false) x place k

abbrev pub restore_next : Small → MoveText → Small
restore_next k m = restore_to (mark_at k (m.sent - 1)) (m.sent - 1) k

-- ---- an import

abbrev pub is_first_by : List ℕ → List RevisionRow → Bool
is_first_by user [] = false
is_first_by user (r ∷ rs) = bytes_eq r.who user

abbrev pub first_count : List RevisionRow → ℕ
first_count [] = 0
first_count (r ∷ rs) = r.words

abbrev pub is_of_import : ℕ → List ℕ → SummaryRow → Bool
is_of_import n user e = nat_eq e.batch n && is_first_by user e.revisions

abbrev pub first_mark : SummaryRow → Mark
first_mark e = record { batch = e.batch; pulled = false; rev = 1; words = first_count e.revisions }

abbrev pub first_counts : List SummaryRow → ℕ
first_counts [] = 0
first_counts (e ∷ es) = first_count e.revisions + first_counts es

abbrev pub import_rows : List SummaryRow → Small → MoveText → List SummaryRow
import_rows es k m = take m.sentences (drop (length k.marks) es)

abbrev pub import_expected : ℕ → ℕ → List SummaryRow → Expected
import_expected count n new = record {
  no = count + 1;
  batch = n;
  sent = 0;
  from = None;
  to = Opened;
  sentences = length new;
  words_out = 0;
  words_in = first_counts new;
}

abbrev pub import_fits : ℕ → ℕ → List SummaryRow → MoveText → Bool
import_fits count n new m = is_name m.who && (nat_lt 0 (length new) &&
    (list_all (is_of_import n m.who) new && is_expected m (import_expected count n new)))

abbrev pub import_test : ℕ → List SummaryRow → Small → MoveText → Bool
import_test batches es k m = nat_lt (length k.slots) batches && (fits_word
    (first_counts (import_rows es k m)) && import_fits k.count (length k.slots + 1) (import_rows es k m) m)

abbrev pub import_to : List SummaryRow → Small → Small
import_to new k = record {
  slots = k.slots ++ record {
    state = Opened;
    worker = [];
    sentences = length new;
    words = first_counts new;
  } ∷ [];
  marks = k.marks ++ map first_mark new;
  count = k.count + 1;
}

abbrev pub import_next : List SummaryRow → Small → MoveText → Small
import_next es k m = import_to (import_rows es k m) k

-- ---- all kinds

abbrev pub kind_test : Kind → ℕ → List SummaryRow → Small → MoveText → Bool
kind_test Import batches es k m = import_test batches es k m
kind_test (Step e) batches es k m = event_test k e m
kind_test Correct batches es k m = correct_test es k m
kind_test Pull batches es k m = pull_test k m
kind_test Restore batches es k m = restore_test k m

abbrev pub kind_next : Kind → List SummaryRow → Small → MoveText → Small
kind_next Import es k m = import_next es k m
kind_next (Step e) es k m = event_next k e m
kind_next Correct es k m = correct_next es k m
kind_next Pull es k m = pull_next k m
kind_next Restore es k m = restore_next k m

-- ---- the end

abbrev pub is_slot_of : Batch → Slot → Bool
is_slot_of b x = is_state x.state b.state && bytes_eq x.worker b.worker

abbrev pub are_slots : List Batch → List Slot → Bool
are_slots [] [] = true
are_slots [] (x ∷ xs) = false
are_slots (b ∷ bs) [] = false
are_slots (b ∷ bs) (x ∷ xs) = is_slot_of b x && are_slots bs xs

abbrev pub is_same_flag : Bool → Bool → Bool
is_same_flag true b = b
is_same_flag false true = false
is_same_flag false false = true

abbrev pub is_mark_of : SummaryRow → Mark → Bool
is_mark_of e x = is_same_flag x.pulled e.pulled && nat_eq x.rev (length e.revisions)

abbrev pub are_marks : List SummaryRow → List Mark → Bool
are_marks [] [] = true
are_marks [] (x ∷ xs) = false
are_marks (e ∷ es) [] = false
are_marks (e ∷ es) (x ∷ xs) = is_mark_of e x && are_marks es xs

-- the rows, replayed: the moves one after another, from what is kept
abbrev pub plays : List Batch → List SummaryRow → Small → List MoveText → Bool
plays bs es k [] = are_slots bs k.slots && are_marks es k.marks
plays bs es k (m ∷ ms) = kind_test m.kind (length bs) es k m && plays bs es (kind_next m.kind es k m) ms

abbrev pub with_sums : ℕ → ℕ → Slot → Slot
with_sums n k b = record { state = b.state; worker = b.worker; sentences = n; words = k }
