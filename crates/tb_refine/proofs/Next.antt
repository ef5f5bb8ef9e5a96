-- What each accepted command writes over the tables of a state are those of the next state, in some order.
use Rattle.std.proofs.Common.{◌≡◌, ℕ, zero, suc, ◌+◌, ◌-◌, List, [], ◌∷◌, ◌++◌, length, map, get_or, true, false, Option, Some, None, refl, sym, ◌∙◌, ap, subst, arith, append_assoc, length-append, slice_get, slice_set}
use Rattle.std.specs.Prelude.{IsPermutation}
use Rattle.std.proofs.lemmas.List.{map-append, length-map, append-nil}
use Rattle.std.proofs.lemmas.Option.{same_Some}
use Rattle.std.proofs.lemmas.List.Sorted.{IsPermutation-refl, IsPermutation-map, IsPermutation-sym, IsPermutation-trans}
use Rattle.sqlite.specs.Tree.{Trees}
use Rattle.tb_conllu.specs.Text.{BlockText, text_of}
use Rattle.tb_conllu.specs.Words.{words_of}
use Rattle.tb_core.specs.declared.kinds.Event.{Event}
use Rattle.tb_core.specs.declared.kinds.State.{State}
use Rattle.tb_core.specs.declared.kinds.State.TheVariants.{Opened, Withdrawn}
use Rattle.tb_core.specs.declared.refusals.Refusal.TheVariants.{WrongState}
use Rattle.tb_core.specs.Events.{is_state, goes_to, makes_worker}
use Rattle.tb_core.specs.Machine as machine
use Rattle.tb_core.specs.Machine.{Machine, no_batch, batch_with, sent_id_of, revisions, rev, words, change_at}
use Rattle.tb_core.specs.Acts.{Act, importing, stepping, correcting, pulling, restoring, IsAllowed, after, from_state, state_at, with_worker, moved, corrected, flagged, new_batch, new_sentence, new_sentences}
use Rattle.tb_core.specs.Reaching.{Reached}
use Rattle.tb_core.specs.Rows.{RevisionRow, revisions_from, pulled_from}
use Rattle.tb_core.proofs.Weights.{weight_there, map_changed}
use Rattle.tb_core.proofs.Balance.{pull_was}
use Rattle.tb_core.proofs.Keeps.{well}
use Rattle.tb_tables.specs.Records.{Tables, Batch, Sentence, Revision, Total, AreStored, revision_shown, number_shown, revision_view, number_view}
use Rattle.tb_tables.specs.Changes.{with_batch, with_revision, with_pulled, without_pulled, batch_replaced, sentence_replaced}
use Rattle.tb_tables.specs.Commands.{with_item, with_items}
use Rattle.tb_refine.specs.Numbers.{state_number}
use Rattle.tb_refine.specs.DeskTables.{batch_record, sentence_record, revision_record, move_record, total_record, six_states, tables_of}
use Rattle.tb_refine.specs.Written.{item_of, import_written, event_written, correction_written, pull_written, restore_written}
use Rattle.tb_refine.proofs.CallLemmas.{one_state}
use Rattle.tb_refine.proofs.Places.{set_changed, found_in, batch_is, sentence_is, tables_is}
use Rattle.tb_refine.proofs.Sums.{recorded_is, moves_and_totals}
use Rattle.tb_refine.proofs.Order.{revisions-append, pulled-append, new_row, revised, revisions_flagged, pulled_corrected, pulled_one, restored}

-- ---- tables that differ in the order of their revisions and pulled numbers alone

abbrev pub ordered : Tables → List Revision → List ℕ → Tables
ordered d rs ps = record d { revisions = rs; pulled = ps }

pub order_stands : (d : Tables) (rs : List Revision) (ps : List ℕ) (trees : Trees) → IsPermutation d.revisions rs → IsPermutation d.pulled ps → AreStored d trees → AreStored (ordered d rs ps) trees
order_stands d rs ps trees a b h = record {
  listed = h.listed;
  meta = h.meta;
  batches = h.batches;
  sentences = h.sentences;
  revisions = IsPermutation-trans (map revision_shown rs) (map revision_shown d.revisions) (map revision_view (trees 5)) (IsPermutation-sym (map revision_shown d.revisions) (map revision_shown rs) (IsPermutation-map revision_shown d.revisions rs a)) h.revisions;
  moves = h.moves;
  totals = h.totals;
  pulled = IsPermutation-trans (map number_shown ps) (map number_shown d.pulled) (map number_view (trees 9)) (IsPermutation-sym (map number_shown d.pulled) (map number_shown ps) (IsPermutation-map number_shown d.pulled ps b)) h.pulled;
}

same_stands : (d e : Tables) (trees : Trees) → d ≡ e → AreStored d trees → AreStored e trees
same_stands d e trees is h = subst (λ z. AreStored z trees) is h

-- the number of the place
back_to : (i : ℕ) → i + 1 - 1 ≡ i
back_to i = omega arith

-- ---- what the rows of a sentence and of its batch tell

-- the state of the sentence's batch
reported_state : (s : Machine) (place : ℕ) (x : Sentence) (b : Batch) (st : State) → slice_get (tables_of s).sentences place ≡ Some x → slice_get (tables_of s).batches (x.batch - 1) ≡ Some b → b.state ≡ state_number st
    → state_at s place ≡ st
reported_state s place x b st e f g =
    let found = found_in sentence_record s.sentences place x e in
    let own = found_in batch_record s.batches (x.batch - 1) b f in
    let number = weight_there (λ (y : machine.Sentence). y.batch) s.sentences place found.0 found.1 ∙ ap (λ (y : Sentence). y.batch) (sym found.2) in
    let there : batch_with s.batches x.batch ≡ own.0 = got s.batches (x.batch - 1) own.0 own.1 in
    let same : state_number own.0.state ≡ state_number st = ap (λ (y : Batch). y.state) (sym own.2) ∙ g in
    ap (λ i. (batch_with s.batches i).state) number ∙ ap (λ (y : machine.Batch). y.state) there ∙ one_state own.0.state st same
  where
    got : (bs : List machine.Batch) (i : ℕ) (y : machine.Batch) → slice_get bs i ≡ Some y → get_or bs i no_batch ≡ y
    got [] i y e = let d : None ≡ Some y = e in absurd (cc)
    got (z ∷ zs) zero y e = same_Some z y e
    got (z ∷ zs) (suc i) y e = got zs i y e

left_state : (old : Option State) (f : State → Total) (st own : State) → old ≡ Some own → own ≡ st → (other : State) → old ≡ Some other → f st ≡ f other
left_state old f st own is same other e = ap f (sym same ∙ same_Some own other (sym is ∙ e))

-- ---- an event

pub event_next : (s : Machine) (place : ℕ) (event : Event) (user : List ℕ) → Reached s → IsAllowed s (stepping place event user) → (b : Batch) → slice_get (tables_of s).batches place ≡ Some b → (from : State) → b.state ≡ state_number from
    → event_written s place event user b from ≡ tables_of (after s (stepping place event user))
event_next s place event user r k b e from g =
    let a : Act = stepping place event user in
    let found = found_in batch_record s.batches place b e in
    let own : state_number found.0.state ≡ state_number from = ap (λ (y : Batch). y.state) (sym found.2) ∙ g in
    let left : found.0.state ≡ from = one_state found.0.state from own in
    let new : Batch = record { name = b.name; state = state_number (goes_to event); worker = with_worker (makes_worker event) user b.worker } in
    let row = batch_is new (batch_record (moved event user found.0)) (ap (λ (y : Batch). y.name) found.2) refl (ap (λ (y : Batch). with_worker (makes_worker event) user y.worker) found.2) in
    let d = batch_replaced (tables_of s) (place + 1) new in
    let batches = ap (λ i. slice_set (tables_of s).batches i new) (back_to place) ∙ set_changed batch_record (moved event user) s.batches place found.0 new found.1 row in
    let was = was_there s.batches place found.0 found.1 in
    let rec = recorded_is s a d (total_record (after s a) from) (total_record (after s a) (goes_to event)) (well s r).placed k
    (λ st is. left_state (from_state s a) (total_record (after s a)) from found.0.state (ap (λ (y : machine.Batch). Some y.state) was) left st is) refl refl refl in
    rec ∙ ap (λ (l : List Batch). moves_and_totals (record (tables_of s) { batches = l }) (map move_record (after s a).moves) (map (total_record (after s a)) six_states)) batches
  where
    was_there : (bs : List machine.Batch) (i : ℕ) (y : machine.Batch) → slice_get bs i ≡ Some y → get_or bs i no_batch ≡ y
    was_there [] i y e = let d : None ≡ Some y = e in absurd (cc)
    was_there (z ∷ zs) zero y e = same_Some z y e
    was_there (z ∷ zs) (suc i) y e = was_there zs i y e

-- ---- a pull and a restore

pub pull_next : (s : Machine) (place : ℕ) (user : List ℕ) → Reached s → IsAllowed s (pulling place user) → (x : Sentence) → slice_get (tables_of s).sentences place ≡ Some x → (b : Batch) → slice_get (tables_of s).batches (x.batch - 1) ≡ Some b
    → (st : State) → b.state ≡ state_number st → (trees : Trees) → AreStored (pull_written s place user st) trees → AreStored (tables_of (after s (pulling place user))) trees
pull_next s place user r k x e b f st g trees h =
    let a : Act = pulling place user in
    let own = reported_state s place x b st e f g in
    let d = with_pulled (tables_of s) (place + 1) in
    let rec = recorded_is s a d (total_record (after s a) st) (total_record (after s a) Withdrawn) (well s r).placed k
    (λ o is. left_state (from_state s a) (total_record (after s a)) st (state_at s place) refl own o is) refl refl refl in
    let y = k.sentence in
    let free = pull_was (is_state (batch_with s.batches y.batch).state Withdrawn) y.pulled (WrongState (batch_with s.batches y.batch).state) k.decided in
    let flags = pulled_one 1 s.sentences place y (place + 1) k.there free (omega arith) in
    let new = change_at (flagged true) s.sentences place in
    let rows = map_changed sentence_record (flagged true) (λ z. refl) s.sentences place in
    let revs = ap (map revision_record) (revisions_flagged true 1 s.sentences place) in
    let mid = moves_and_totals d (map move_record (after s a).moves) (map (total_record (after s a)) six_states) in
    let stands = order_stands mid mid.revisions (pulled_from 1 new) trees (IsPermutation-refl mid.revisions) flags (same_stands (pull_written s place user st) mid trees rec h) in
    same_stands (ordered mid mid.revisions (pulled_from 1 new)) (tables_of (after s a)) trees (tables_is (ordered mid mid.revisions (pulled_from 1 new)) (tables_of (after s a)) refl (sym rows) (sym revs) refl refl refl) stands

pub restore_next : (s : Machine) (place : ℕ) (user : List ℕ) → Reached s → IsAllowed s (restoring place user) → (x : Sentence) → slice_get (tables_of s).sentences place ≡ Some x → (b : Batch) → slice_get (tables_of s).batches (x.batch - 1) ≡ Some b
    → (st : State) → b.state ≡ state_number st → restore_written s place user st ≡ tables_of (after s (restoring place user))
restore_next s place user r k x e b f st g =
    let a : Act = restoring place user in
    let own = reported_state s place x b st e f g in
    let d = without_pulled (tables_of s) (place + 1) in
    let rec = recorded_is s a d (total_record (after s a) Withdrawn) (total_record (after s a) st) (well s r).placed k
    (λ o is. left_state (from_state s a) (total_record (after s a)) Withdrawn Withdrawn refl refl o is) (ap (total_record (after s a)) (sym own)) refl refl in
    let flags = restored 1 s.sentences place (place + 1) (omega arith) in
    let rows = map_changed sentence_record (flagged false) (λ z. refl) s.sentences place in
    let revs = ap (map revision_record) (revisions_flagged false 1 s.sentences place) in
    rec ∙ tables_is (moves_and_totals d (map move_record (after s a).moves) (map (total_record (after s a)) six_states)) (tables_of (after s a)) refl (sym rows) (sym revs) refl refl flags

-- ---- a correction

pub correction_next : (s : Machine) (place : ℕ) (user : List ℕ) (body : BlockText) → Reached s → IsAllowed s (correcting place user body) → (x : Sentence) → slice_get (tables_of s).sentences place ≡ Some x
    → (b : Batch) → slice_get (tables_of s).batches (x.batch - 1) ≡ Some b → (st : State) → b.state ≡ state_number st → (trees : Trees) → AreStored (correction_written s place user body x st) trees → AreStored (tables_of (after s (correcting place user body))) trees
correction_next s place user body r k x e b f st g trees h =
    let a : Act = correcting place user body in
    let own = reported_state s place x b st e f g in
    let found = found_in sentence_record s.sentences place x e in
    let y = found.0 in
    let row : Revision = record { sent = place + 1; rev = x.rev + 1; who = user; body = text_of (body ∷ []) } in
    let new : Sentence = record { sent_id = x.sent_id; batch = x.batch; rev = x.rev + 1; words = words_of body } in
    let d = sentence_replaced (with_revision (tables_of s) row) (place + 1) new in
    let rec = recorded_is s a d (total_record (after s a) st) (total_record (after s a) st) (well s r).placed k
    (λ o is. left_state (from_state s a) (total_record (after s a)) st (state_at s place) refl own o is) (ap (total_record (after s a)) (sym own)) refl refl in
    let size : length (revisions y) ≡ length y.before + 1 = length-append y.before (y.current ∷ []) in
    let count : x.rev ≡ length y.before + 1 = ap (λ (z : Sentence). z.rev) found.2 in
    let is = sentence_is new (sentence_record (corrected user body y)) (ap (λ (z : Sentence). z.sent_id) found.2) (ap (λ (z : Sentence). z.batch) found.2) (omega (arith, size, count)) refl in
    let rows = ap (λ i. slice_set (tables_of s).sentences i new) (back_to place) ∙ set_changed sentence_record (corrected user body) s.sentences place y new found.1 is in
    let after_rows = change_at (corrected user body) s.sentences place in
    let one : RevisionRow = new_row (place + 1) (x.rev + 1) user body in
    let added = IsPermutation-map revision_record (revisions_from 1 s.sentences ++ one ∷ []) (revisions_from 1 after_rows) (revised 1 user body s.sentences place y (place + 1) (x.rev + 1) found.1 (omega arith) (omega (arith, size, count))) in
    let moves_in = subst (λ l. IsPermutation l (map revision_record (revisions_from 1 after_rows))) (map-append revision_record (revisions_from 1 s.sentences) (one ∷ [])) added in
    let mid = moves_and_totals d (map move_record (after s a).moves) (map (total_record (after s a)) six_states) in
    let last = ordered mid (map revision_record (revisions_from 1 after_rows)) mid.pulled in
    let stands = order_stands mid (map revision_record (revisions_from 1 after_rows)) mid.pulled trees moves_in (IsPermutation-refl mid.pulled) (same_stands (correction_written s place user body x st) mid trees rec h) in
    same_stands last (tables_of (after s a)) trees (tables_is last (tables_of (after s a)) refl rows refl refl refl (sym (pulled_corrected user body 1 s.sentences place))) stands

-- ---- an import

abbrev with_rows : Tables → List machine.Sentence → Tables
with_rows d xs = record d { sentences = map sentence_record xs; revisions = map revision_record (revisions_from 1 xs); pulled = pulled_from 1 xs }

item_next : (n : ℕ) (user : List ℕ) (d : Tables) (xs : List machine.Sentence) (b : BlockText) → with_item n user (with_rows d xs) (item_of b) ≡ with_rows d (xs ++ new_sentence n user b ∷ [])
item_next n user d xs b =
    let y = new_sentence n user b in
    let revs = revisions-append 1 xs (y ∷ []) in
    let flags = pulled-append 1 xs (y ∷ []) in
    let size = length-map xs sentence_record in
    let row = λ (j : ℕ). let w : Revision = record { sent = j; rev = 1; who = user; body = text_of (b ∷ []) } in w in
    let rows = ap (λ j. map revision_record (revisions_from 1 xs) ++ row j ∷ []) (let e : 1 + length (map sentence_record xs) ≡ 1 + length xs = ap (λ j. 1 + j) size in e)
    ∙ sym (map-append revision_record (revisions_from 1 xs) (revisions_from (1 + length xs) (y ∷ []))) ∙ ap (map revision_record) (sym revs) in
    tables_is (with_item n user (with_rows d xs) (item_of b)) (with_rows d (xs ++ y ∷ [])) refl (sym (map-append sentence_record xs (y ∷ []))) rows refl refl
    (sym (append-nil (pulled_from 1 xs)) ∙ sym flags)

items_next : (n : ℕ) (user : List ℕ) (d : Tables) (xs : List machine.Sentence) (bodies : List BlockText) → with_items n user (with_rows d xs) (map item_of bodies) ≡ with_rows d (xs ++ new_sentences n user bodies)
items_next n user d xs [] = ap (with_rows d) (sym (append-nil xs))
items_next n user d xs (b ∷ bs) =
    let y = new_sentence n user b in
    ap (λ z. with_items n user z (map item_of bs)) (item_next n user d xs b) ∙ items_next n user d (xs ++ y ∷ []) bs ∙ ap (with_rows d) (append_assoc xs (y ∷ []) (new_sentences n user bs))

pub import_next : (s : Machine) (name user : List ℕ) (bodies : List BlockText) → Reached s → IsAllowed s (importing name user bodies) → (unused : Total) → import_written s name user bodies unused ≡ tables_of (after s (importing name user bodies))
import_next s name user bodies r k unused =
    let a : Act = importing name user bodies in
    let batch : Batch = record { name = name; state = 1; worker = [] } in
    let base = with_batch (tables_of s) batch in
    let number : 1 + length (map batch_record s.batches) ≡ length s.batches + 1 = let e = length-map s.batches batch_record in omega (arith, e) in
    let items = λ (n : ℕ). with_items n user base (map item_of bodies) in
    let filled = ap items number ∙ items_next (length s.batches + 1) user base s.sentences bodies in
    let d = items (1 + length (map batch_record s.batches)) in
    let new = s.sentences ++ new_sentences (length s.batches + 1) user bodies in
    let rec = recorded_is s a d unused (total_record (after s a) Opened) (well s r).placed k
    (λ st is. absurd (none st is)) refl (ap (λ (z : Tables). z.moves) filled) (ap (λ (z : Tables). z.totals) filled) in
    let same = ap (λ (z : Tables). moves_and_totals z (map move_record (after s a).moves) (map (total_record (after s a)) six_states)) filled in
    rec ∙ same ∙ tables_is (moves_and_totals (with_rows base new) (map move_record (after s a).moves) (map (total_record (after s a)) six_states)) (tables_of (after s a)) (sym (map-append batch_record s.batches (new_batch name ∷ []))) refl refl refl refl refl
  where
    none : (st : State) → None ≡ Some st → ⊥
    none st e = cc
