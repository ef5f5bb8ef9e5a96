-- The tests on what is kept of a state are exactly what the machine asks: events, and acts on one sentence.
use Rattle.std.proofs.Common.{◌≡◌, ℕ, ◌+◌, ◌-◌, ◌*◌, ◌^◌, ◌<◌, ◌≤◌, List, [], ◌∷◌, ◌++◌, length, map, get_or, Some, Bool, true, false, cond, ◌&&◌, eqb, ltb, refl, sym, ◌∙◌, ap, subst, arith, append_assoc, length-append}
use Rattle.std.specs.Prelude.{slice_get, bytes_eq, is_ok}
use Rattle.std.specs.List.{AllByRecursion}
use Rattle.std.proofs.lemmas.Bool.{ltb-true, lt-ltb, eq-eqb}
use Rattle.std.proofs.lemmas.List.{length-map}
use Rattle.std.proofs.lemmas.Slice.Eq.{bytes_eq-Decides}
use Rattle.tb_conllu.specs.Text.{BlockText}
use Rattle.tb_conllu.specs.Words.{words_of}
use Rattle.tb_core.specs.declared.kinds.State.TheVariants.{Withdrawn}
use Rattle.tb_core.specs.declared.kinds.Event.{Event}
use Rattle.tb_core.specs.declared.kinds.Kind.TheVariants.{Step, Correct, Pull, Restore}
use Rattle.tb_core.specs.declared.refusals.Refusal.TheVariants.{WrongState}
use Rattle.tb_core.specs.Moves.{MoveText}
use Rattle.tb_core.specs.Names.{is_name}
use Rattle.tb_core.specs.Events.{is_state, goes_to, makes_worker}
use Rattle.tb_core.specs.Deciding.{event_decision, may_correct, pull_decision, restore_decision}
use Rattle.tb_core.specs.Machine.{sent_id_of, text_value_of, IsLawful, Batch, Revision, Sentence, Machine, revisions, bodies_of, no_batch, batch_with, state_in, weigh, weight_at, one, words, at_work, when, change_at}
use Rattle.tb_core.specs.Acts.{stepping, correcting, pulling, restoring, MayPull, MayRestore, after, move_of, moved, corrected, flagged, batch_at}
use Rattle.tb_core.specs.Keeping.{Continues, Continue, IsPlaced, IsFine, IsWell}
use Rattle.tb_core.proofs.Weights.{weight_there, weight_changed, got, all_there, map_changed}
use Rattle.tb_core.proofs.Lists.{map-joined, get_within}
use Rattle.tb_core.proofs.Balance.{unpulled, pull_was, restore_was}
use Rattle.tb_core.proofs.Extending.{continue_at, continue_count}
use Rattle.tb_core.proofs.Stored.{few_in, few_words}
use Rattle.tb_replay.specs.Course.{bodies_in, body_at, no_body, rev_count}
use Rattle.tb_replay.specs.Summaries.{RevisionRow, row_of, entry_of, entries_of}
use Rattle.tb_replay.specs.Fine.{AreFine}
use Rattle.tb_replay.specs.Slots.{Slot, Mark, Small, slot_for, mark_of, small_of, no_mark, slot_at, mark_at}
use Rattle.tb_replay.specs.Playing.{no_entry, no_row, slot_under, entry_at, row_next, event_expected, event_fits, event_test, event_next, correct_expected, correct_fits, correct_test, correct_next, pull_expected, pull_fits, pull_test, pull_next, restore_expected, restore_fits, restore_test, restore_next, mark_corrected, mark_flagged, correct_to, pull_to, restore_to, is_expected, fits_word}
use Rattle.tb_replay.proofs.Full.{Full, continue_with, continue_there}
use Rattle.tb_replay.proofs.Smalls.{slots_count, slot_there, slots_moved, sentence_changed, marks_changed}
use Rattle.tb_replay.proofs.Parts.{Follows, no_sentence, first_true, second_true, both, full_move, expected_is, expected_of, event_ok, unit_ok, restore_ok, ok_true, get_mapped, get_there, get_after}

abbrev pub the_batch : Machine → ℕ → Batch
the_batch s i = get_or s.batches i no_batch

abbrev pub the_sentence : Machine → ℕ → Sentence
the_sentence s i = get_or s.sentences i no_sentence

pub slot_of_batch : (s : Machine) (i : ℕ) → i < length s.batches → slot_at (small_of s) i ≡ slot_for (i + 1) (the_batch s i) s.sentences
slot_of_batch s i l = let e : 1 + i ≡ i + 1 = omega arith in slot_there 1 s.batches s.sentences i l ∙ ap (λ k. slot_for k (the_batch s i) s.sentences) e

-- ---- an event

event_move : (s : Machine) (i : ℕ) (e : Event) (u : List ℕ) → full_move (Step e) u (event_expected (length s.moves) i e (slot_for (i + 1) (the_batch s i) s.sentences)) ≡ move_of s (stepping i e u)
unfolding full_move
event_move s i e u = refl

full_step : (s f : Machine) (i : ℕ) (e : Event) (u : List ℕ) → Full s f → Full (after s (stepping i e u)) f
full_step s f i e u h = record {
  more = h.more;
  names = h.names ∙ ap (λ l. l ++ h.more) (sym (map_changed (λ (c : Batch). c.name) (moved e u) (λ x. refl) s.batches i));
  sentences = h.sentences;
}

pub event_yes : (f s : Machine) (e : Event) (m : MoveText) → Full s f → m.kind ≡ Step e → event_test (small_of s) e m ≡ true → Follows f s m (stepping (m.batch - 1) e m.who)
event_yes f s e m h kind t =
    let i = m.batch - 1 in
    let below : i < length s.batches = omega (arith, ltb-true i (length (small_of s).slots) (first_true (ltb i (length (small_of s).slots)) _ t), slots_count 1 s.batches s.sentences) in
    let fits : event_fits (length s.moves) i e (slot_for (i + 1) (the_batch s i) s.sentences) m ≡ true =
    subst (λ x. event_fits (length s.moves) i e x m ≡ true) (slot_of_batch s i below) (second_true (ltb i (length (small_of s).slots)) _ t) in
    let rest = second_true (is_name m.who) _ fits in
    let decided = first_true (is_ok (event_decision (the_batch s i).state (the_batch s i).worker e m.who)) _ rest in
    let expected = second_true (is_ok (event_decision (the_batch s i).state (the_batch s i).worker e m.who)) _ rest in
    record {
      allowed = record { by = first_true (is_name m.who) _ fits; batch = the_batch s i; there = get_there s.batches i no_batch below; decided = event_ok (the_batch s i).state (the_batch s i).worker e m.who decided };
      moved = sym (event_move s i e m.who) ∙ (ap (λ k. full_move k m.who (event_expected (length s.moves) i e (slot_for (i + 1) (the_batch s i) s.sentences))) (sym kind) ∙ expected_is m (event_expected (length s.moves) i e (slot_for (i + 1) (the_batch s i) s.sentences)) expected);
      full = full_step s f i e m.who h;
    }

pub event_no : (f s : Machine) (e : Event) (m : MoveText) → Follows f s m (stepping (m.batch - 1) e m.who) → event_test (small_of s) e m ≡ true
event_no f s e m h =
    let i = m.batch - 1 in
    let a = h.allowed in
    let below = get_within s.batches i a.batch a.there in
    let is = got s.batches i a.batch no_batch a.there in
    let expected = expected_of m (Step e) m.who (event_expected (length s.moves) i e (slot_for (i + 1) (the_batch s i) s.sentences)) (event_move s i e m.who ∙ h.moved) in
    let decided = subst (λ (b : Batch). is_ok (event_decision b.state b.worker e m.who) ≡ true) (sym is) (ok_true (event_decision a.batch.state a.batch.worker e m.who) (goes_to e, makes_worker e) a.decided) in
    let fits = both (is_name m.who) _ a.by (both (is_ok (event_decision (the_batch s i).state (the_batch s i).worker e m.who)) _ decided expected) in
    both (ltb i (length (small_of s).slots)) _ (lt-ltb i (length (small_of s).slots) (omega (arith, below, slots_count 1 s.batches s.sentences)))
    (subst (λ x. event_fits (length s.moves) i e x m ≡ true) (sym (slot_of_batch s i below)) fits)

pub small_is : (a b : List Slot) (c d : List Mark) (n k : ℕ) → a ≡ b → c ≡ d → n ≡ k → (let x : Small = record { slots = a; marks = c; count = n } in x) ≡ record { slots = b; marks = d; count = k }
small_is a b c d n k p q r =
    ap (λ z. let x : Small = record { slots = z; marks = c; count = n } in x) p ∙ (ap (λ z. let x : Small = record { slots = b; marks = z; count = n } in x) q ∙ ap (λ z. let x : Small = record { slots = b; marks = d; count = z } in x) r)

pub event_then : (s : Machine) (e : Event) (m : MoveText) → event_next (small_of s) e m ≡ small_of (after s (stepping (m.batch - 1) e m.who))
event_then s e m =
    small_is _ _ _ _ _ _ (sym (slots_moved e m.who 1 s.batches s.sentences (m.batch - 1))) refl (sym (length-append s.moves (move_of s (stepping (m.batch - 1) e m.who) ∷ [])))

-- ---- one sentence

pub mark_is : (s : Machine) (i : ℕ) → i < length s.sentences → mark_at (small_of s) i ≡ mark_of (the_sentence s i)
mark_is s i l = get_mapped mark_of s.sentences i no_sentence no_mark l

abbrev pub its_batch : Machine → Sentence → Batch
its_batch s x = batch_with s.batches x.batch

pub slot_is : (s : Machine) (x : Sentence) → IsPlaced (length s.batches) x → slot_under (small_of s) (mark_of x) ≡ slot_for x.batch (its_batch s x) s.sentences
slot_is s x p = let e : x.batch - 1 + 1 ≡ x.batch = omega (arith, p.0) in slot_of_batch s (x.batch - 1) (omega (arith, p.0, p.1)) ∙ ap (λ k. slot_for k (its_batch s x) s.sentences) e

four : (F : ℕ → ℕ → ℕ → ℕ → MoveText) (a a' b b' c c' d d' : ℕ) → a ≡ a' → b ≡ b' → c ≡ c' → d ≡ d' → F a b c d ≡ F a' b' c' d'
four F a a' b b' c c' d d' p q r t = cc

marked : (s : Machine) (i : ℕ) (x : Sentence) → slice_get s.sentences i ≡ Some x → x ≡ the_sentence s i
marked s i x e = sym (got s.sentences i x no_sentence e)

placed_at : (s : Machine) (i : ℕ) → IsWell s → i < length s.sentences → IsPlaced (length s.batches) (the_sentence s i)
placed_at s i w l = all_there (IsPlaced (length s.batches)) s.sentences i (the_sentence s i) (get_there s.sentences i no_sentence l) w.placed

-- a test on the mark and the slot of a sentence is that test on what they stand for
pub under : (s : Machine) (i : ℕ) (T : Mark → Slot → Bool) → IsWell s → i < length s.sentences
    → T (mark_at (small_of s) i) (slot_under (small_of s) (mark_at (small_of s) i)) ≡ T (mark_of (the_sentence s i)) (slot_for (the_sentence s i).batch (its_batch s (the_sentence s i)) s.sentences)
under s i T w l = ap (λ x. T x (slot_under (small_of s) x)) (mark_is s i l) ∙ ap (T (mark_of (the_sentence s i))) (slot_is s (the_sentence s i) (placed_at s i w l))

marks_below : (s : Machine) (i : ℕ) → ltb i (length (small_of s).marks) ≡ true → i < length s.sentences
marks_below s i t = omega (arith, ltb-true i (length (small_of s).marks) t, length-map s.sentences mark_of)

below_marks : (s : Machine) (i : ℕ) → i < length s.sentences → ltb i (length (small_of s).marks) ≡ true
below_marks s i l = lt-ltb i (length (small_of s).marks) (omega (arith, l, length-map s.sentences mark_of))

-- ---- sums fit a machine word

at_work_below : (n : ℕ) (v : Sentence → ℕ) (x : Sentence) → at_work n v x ≤ v x
at_work_below n v x = pulled_below x.pulled (eqb x.batch n) (v x)
  where
    pulled_below : (p t : Bool) (k : ℕ) → cond p 0 (when t k) ≤ k
    pulled_below true t k = omega arith
    pulled_below false true k = omega arith
    pulled_below false false k = omega arith

words_below : (n : ℕ) (xs : List Sentence) → AllByRecursion IsFine xs → weigh (at_work n words) xs ≤ 1000 * length xs
words_below n [] h = omega arith
words_below n (x ∷ xs) h = let a = at_work_below n words x in let b = words_below n xs h.1 in let c = few_words x h.0 in omega (arith, a, b, c)

ones_below : (n : ℕ) (xs : List Sentence) → weigh (at_work n one) xs ≤ length xs
ones_below n [] = omega arith
ones_below n (x ∷ xs) = let a = at_work_below n one x in let b = ones_below n xs in omega (arith, a, b)

pub room : (n : ℕ) → n ≤ 2000000000 → fits_word n ≡ true
room n h = lt-ltb n (2 ^ 64) (omega (arith, h))

-- ---- pulls and restores

pull_mk : Machine → ℕ → List ℕ → ℕ → ℕ → ℕ → ℕ → MoveText
pull_mk s i u b k o n = record { no = length s.moves + 1; kind = Pull; batch = b; sent = i + 1; from = Some (batch_with s.batches b).state; to = Withdrawn; sentences = k; words_out = o; words_in = n; who = u }

pull_move : (s : Machine) (i : ℕ) (u : List ℕ) → i < length s.sentences
    → full_move Pull u (pull_expected (length s.moves) i (mark_of (the_sentence s i)) (slot_for (the_sentence s i).batch (its_batch s (the_sentence s i)) s.sentences)) ≡ move_of s (pulling i u)
unfolding full_move pull_mk
pull_move s i u l =
    let x = the_sentence s i in
    let there = get_there s.sentences i no_sentence l in
    sym (four (pull_mk s i u) (batch_at s.sentences i) x.batch (weight_at one s.sentences i) 1 (weight_at words s.sentences i) (words x) (weight_at words s.sentences i) (words x)
    (weight_there (λ (y : Sentence). y.batch) s.sentences i x there) (weight_there one s.sentences i x there) (weight_there words s.sentences i x there) (weight_there words s.sentences i x there))

flag_continues : (p : Bool) (x y : Sentence) → Continues x y → Continues (flagged p x) y
flag_continues p x y h = record { sent_id = h.sent_id; batch = h.batch; more = h.more; revised = h.revised }

full_flagged : (s f : Machine) (p : Bool) (i : ℕ) → Full s f → i < length s.sentences → Continue (change_at (flagged p) s.sentences i) f.sentences
full_flagged s f p i h l = continue_with (flagged p) s.sentences f.sentences i no_sentence h.sentences (flag_continues p (the_sentence s i) (the_sentence f i) (continue_at s.sentences f.sentences i no_sentence h.sentences l))

pub pull_yes : (f s : Machine) (m : MoveText) → IsWell s → Full s f → m.kind ≡ Pull → pull_test (small_of s) m ≡ true → Follows f s m (pulling (m.sent - 1) m.who)
pull_yes f s m w h kind t =
    let i = m.sent - 1 in
    let x = the_sentence s i in
    let b = its_batch s x in
    let below = marks_below s i (first_true (ltb i (length (small_of s).marks)) _ t) in
    let fits : pull_fits (length s.moves) i (mark_of x) (slot_for x.batch b s.sentences) m ≡ true =
    sym (under s i (λ k v. pull_fits (length s.moves) i k v m) w below) ∙ second_true (ltb i (length (small_of s).marks)) _ t in
    let rest = second_true (is_name m.who) _ fits in
    let decided = first_true (is_ok (pull_decision b.state x.pulled)) _ rest in
    let expected = second_true (is_ok (pull_decision b.state x.pulled)) _ rest in
    let e = pull_expected (length s.moves) i (mark_of x) (slot_for x.batch b s.sentences) in
    record {
      allowed = record { by = first_true (is_name m.who) _ fits; sentence = x; there = get_there s.sentences i no_sentence below; decided = unit_ok (pull_decision b.state x.pulled) decided };
      moved = sym (pull_move s i m.who below) ∙ (ap (λ k. full_move k m.who e) (sym kind) ∙ expected_is m e expected);
      full = record { more = h.more; names = h.names; sentences = full_flagged s f true i h below };
    }

pub pull_no : (f s : Machine) (m : MoveText) → IsWell s → Follows f s m (pulling (m.sent - 1) m.who) → pull_test (small_of s) m ≡ true
pull_no f s m w h =
    let i = m.sent - 1 in
    let a = h.allowed in
    let x = the_sentence s i in
    let b = its_batch s x in
    let below = get_within s.sentences i a.sentence a.there in
    let is = marked s i a.sentence a.there in
    let decided = subst (λ (y : Sentence). is_ok (pull_decision (batch_with s.batches y.batch).state y.pulled) ≡ true) is (ok_true (pull_decision (its_batch s a.sentence).state a.sentence.pulled) tt a.decided) in
    let e = pull_expected (length s.moves) i (mark_of x) (slot_for x.batch b s.sentences) in
    let expected = expected_of m Pull m.who e (pull_move s i m.who below ∙ h.moved) in
    let fits = both (is_name m.who) _ a.by (both (is_ok (pull_decision b.state x.pulled)) _ decided expected) in
    both (ltb i (length (small_of s).marks)) _ (below_marks s i below) (under s i (λ k v. pull_fits (length s.moves) i k v m) w below ∙ fits)

at_work_free : (n : ℕ) (v : Sentence → ℕ) (x : Sentence) → x.batch ≡ n → x.pulled ≡ false → at_work n v x ≡ v x
at_work_free n v x e p = ap (λ t. cond t 0 (when (eqb x.batch n) (v x))) p ∙ ap (λ t. when t (v x)) (eq-eqb x.batch n e)

at_work_pulled : (n : ℕ) (v : Sentence → ℕ) (x : Sentence) → x.pulled ≡ true → at_work n v x ≡ 0
at_work_pulled n v x p = ap (λ t. cond t 0 (when (eqb x.batch n) (v x))) p

pub pull_then : (s : Machine) (m : MoveText) → IsWell s → MayPull s (m.sent - 1) m.who → pull_next (small_of s) m ≡ small_of (after s (pulling (m.sent - 1) m.who))
pull_then s m w a =
    let i = m.sent - 1 in
    let x = the_sentence s i in
    let below = get_within s.sentences i a.sentence a.there in
    let is = marked s i a.sentence a.there in
    let there = get_there s.sentences i no_sentence below in
    let p = placed_at s i w below in
    let free : x.pulled ≡ false = subst (λ (y : Sentence). y.pulled ≡ false) is (pull_was (is_state (its_batch s a.sentence).state Withdrawn) a.sentence.pulled (WrongState (its_batch s a.sentence).state) a.decided) in
    let slots = sentence_changed (flagged true) s.batches s.sentences i x 0 1 0 (words x) there p.0 refl (at_work_free x.batch one x refl free) refl (at_work_free x.batch words x refl free) refl in
    let marks = marks_changed (flagged true) (mark_flagged true) s.sentences i x there refl in
    ap (λ k. pull_to k i (small_of s)) (mark_is s i below)
    ∙ small_is _ _ _ _ _ _ (sym slots) (sym marks) (sym (length-append s.moves (move_of s (pulling i m.who) ∷ [])))

restore_mk : Machine → ℕ → List ℕ → ℕ → ℕ → ℕ → ℕ → MoveText
restore_mk s i u b k o n = record { no = length s.moves + 1; kind = Restore; batch = b; sent = i + 1; from = Some Withdrawn; to = (batch_with s.batches b).state; sentences = k; words_out = o; words_in = n; who = u }

restore_move : (s : Machine) (i : ℕ) (u : List ℕ) → i < length s.sentences
    → full_move Restore u (restore_expected (length s.moves) i (mark_of (the_sentence s i)) (slot_for (the_sentence s i).batch (its_batch s (the_sentence s i)) s.sentences)) ≡ move_of s (restoring i u)
unfolding full_move restore_mk
restore_move s i u l =
    let x = the_sentence s i in
    let there = get_there s.sentences i no_sentence l in
    sym (four (restore_mk s i u) (batch_at s.sentences i) x.batch (weight_at one s.sentences i) 1 (weight_at words s.sentences i) (words x) (weight_at words s.sentences i) (words x)
    (weight_there (λ (y : Sentence). y.batch) s.sentences i x there) (weight_there one s.sentences i x there) (weight_there words s.sentences i x there) (weight_there words s.sentences i x there))

pub restore_yes : (f s : Machine) (m : MoveText) → IsWell s → Full s f → m.kind ≡ Restore → restore_test (small_of s) m ≡ true → Follows f s m (restoring (m.sent - 1) m.who)
restore_yes f s m w h kind t =
    let i = m.sent - 1 in
    let x = the_sentence s i in
    let b = its_batch s x in
    let below = marks_below s i (first_true (ltb i (length (small_of s).marks)) _ t) in
    let fits : restore_fits (length s.moves) i (mark_of x) (slot_for x.batch b s.sentences) m ≡ true =
    sym (under s i (λ k v. restore_fits (length s.moves) i k v m) w below) ∙ second_true (fits_word ((slot_under (small_of s) (mark_at (small_of s) i)).sentences + 1) && fits_word ((slot_under (small_of s) (mark_at (small_of s) i)).words + (mark_at (small_of s) i).words)) _ (second_true (ltb i (length (small_of s).marks)) _ t) in
    let rest = second_true (is_name m.who) _ fits in
    let decided = first_true (is_ok (restore_decision b.state x.pulled)) _ rest in
    let expected = second_true (is_ok (restore_decision b.state x.pulled)) _ rest in
    let e = restore_expected (length s.moves) i (mark_of x) (slot_for x.batch b s.sentences) in
    record {
      allowed = record { by = first_true (is_name m.who) _ fits; sentence = x; there = get_there s.sentences i no_sentence below; decided = restore_ok b.state x.pulled decided };
      moved = sym (restore_move s i m.who below) ∙ (ap (λ k. full_move k m.who e) (sym kind) ∙ expected_is m e expected);
      full = record { more = h.more; names = h.names; sentences = full_flagged s f false i h below };
    }

pub restore_no : (f s : Machine) (m : MoveText) → length s.sentences ≤ 1000000 → IsWell s → Follows f s m (restoring (m.sent - 1) m.who) → restore_test (small_of s) m ≡ true
restore_no f s m few w h =
    let i = m.sent - 1 in
    let a = h.allowed in
    let x = the_sentence s i in
    let b = its_batch s x in
    let below = get_within s.sentences i a.sentence a.there in
    let is = marked s i a.sentence a.there in
    let decided = subst (λ (y : Sentence). is_ok (restore_decision (batch_with s.batches y.batch).state y.pulled) ≡ true) is (ok_true (restore_decision (its_batch s a.sentence).state a.sentence.pulled) (its_batch s a.sentence).state a.decided) in
    let e = restore_expected (length s.moves) i (mark_of x) (slot_for x.batch b s.sentences) in
    let expected = expected_of m Restore m.who e (restore_move s i m.who below ∙ h.moved) in
    let fits = both (is_name m.who) _ a.by (both (is_ok (restore_decision b.state x.pulled)) _ decided expected) in
    let kept = few_words x (all_there IsFine s.sentences i x (get_there s.sentences i no_sentence below) w.fine) in
    let most = words_below x.batch s.sentences w.fine in
    let all = ones_below x.batch s.sentences in
    let one_room = room (weigh (at_work x.batch one) s.sentences + 1) (omega (arith, all, few)) in
    let words_room = room (weigh (at_work x.batch words) s.sentences + words x) (omega (arith, most, few, kept)) in
    let rooms = both (fits_word (weigh (at_work x.batch one) s.sentences + 1)) (fits_word (weigh (at_work x.batch words) s.sentences + words x)) one_room words_room in
    both (ltb i (length (small_of s).marks)) _ (below_marks s i below)
    (both (fits_word ((slot_under (small_of s) (mark_at (small_of s) i)).sentences + 1) && fits_word ((slot_under (small_of s) (mark_at (small_of s) i)).words + (mark_at (small_of s) i).words)) _
    (under s i (λ k v. fits_word (v.sentences + 1) && fits_word (v.words + k.words)) w below ∙ rooms) (under s i (λ k v. restore_fits (length s.moves) i k v m) w below ∙ fits))

pub restore_then : (s : Machine) (m : MoveText) → IsWell s → MayRestore s (m.sent - 1) m.who → restore_next (small_of s) m ≡ small_of (after s (restoring (m.sent - 1) m.who))
restore_then s m w a =
    let i = m.sent - 1 in
    let x = the_sentence s i in
    let below = get_within s.sentences i a.sentence a.there in
    let is = marked s i a.sentence a.there in
    let there = get_there s.sentences i no_sentence below in
    let p = placed_at s i w below in
    let gone : x.pulled ≡ true = subst (λ (y : Sentence). y.pulled ≡ true) is (restore_was (is_state (its_batch s a.sentence).state Withdrawn) a.sentence.pulled (WrongState (its_batch s a.sentence).state) (its_batch s a.sentence).state a.decided) in
    let slots = sentence_changed (flagged false) s.batches s.sentences i x 1 0 (words x) 0 there p.0 refl (at_work_pulled x.batch one x gone) (at_work_free x.batch one (flagged false x) refl refl) (at_work_pulled x.batch words x gone) (at_work_free x.batch words (flagged false x) refl refl) in
    let marks = marks_changed (flagged false) (mark_flagged false) s.sentences i x there refl in
    ap (λ k. restore_to k i (small_of s)) (mark_is s i below)
    ∙ small_is _ _ _ _ _ _ (sym slots) (sym marks) (sym (length-append s.moves (move_of s (restoring i m.who) ∷ [])))

-- ---- corrections

correct_mk : Machine → ℕ → List ℕ → ℕ → ℕ → ℕ → ℕ → MoveText
correct_mk s i u b k o n = record { no = length s.moves + 1; kind = Correct; batch = b; sent = i + 1; from = Some (batch_with s.batches b).state; to = (batch_with s.batches b).state; sentences = k; words_out = o; words_in = n; who = u }

correct_move : (s : Machine) (i : ℕ) (u : List ℕ) (body : BlockText) → i < length s.sentences
    → full_move Correct u (correct_expected (length s.moves) i (mark_of (the_sentence s i)) (slot_for (the_sentence s i).batch (its_batch s (the_sentence s i)) s.sentences) (words_of body)) ≡ move_of s (correcting i u body)
unfolding full_move correct_mk
correct_move s i u body l =
    let x = the_sentence s i in
    let there = get_there s.sentences i no_sentence l in
    sym (four (correct_mk s i u) (batch_at s.sentences i) x.batch (weight_at one (change_at (corrected u body) s.sentences i) i) 1 (weight_at words s.sentences i) (words x) (weight_at words (change_at (corrected u body) s.sentences i) i) (words_of body)
    (weight_there (λ (y : Sentence). y.batch) s.sentences i x there) (weight_changed one (corrected u body) s.sentences i x there) (weight_there words s.sentences i x there) (weight_changed words (corrected u body) s.sentences i x there))

rows_count : (x : Sentence) → length (revisions x) ≡ length x.before + 1
rows_count x = length-append x.before (x.current ∷ [])

-- the revision that comes next, by its row and by its body
row_is : (x y : Sentence) (q : Revision) (more : List Revision) → revisions y ≡ revisions x ++ q ∷ more → row_next (mark_of x) (entry_of y) ≡ row_of q
row_is x y q more e =
    let parts = ap (λ l. map row_of l) e ∙ map-joined row_of (revisions x) (q ∷ more) in
    let size : length x.before + 1 ≡ length (map row_of (revisions x)) = sym (length-map (revisions x) row_of ∙ rows_count x) in
    ap (λ l. get_or l (length x.before + 1) no_row) parts ∙ get_after (map row_of (revisions x)) (row_of q) (map row_of more) (length x.before + 1) no_row size

body_is : (s f : Machine) (i : ℕ) (q : Revision) (more : List Revision) → i < length s.sentences → i < length f.sentences → revisions (the_sentence f i) ≡ revisions (the_sentence s i) ++ q ∷ more
    → body_at (bodies_in f) i (rev_count s i) ≡ q.body
body_is s f i q more l m e =
    let x = the_sentence s i in
    let y = the_sentence f i in
    let there = get_mapped bodies_of f.sentences i no_sentence [] m in
    let here = get_mapped bodies_of s.sentences i no_sentence [] l in
    let parts = ap (λ (rs : List Revision). map (λ (r : Revision). r.body) rs) e ∙ map-joined (λ (r : Revision). r.body) (revisions x) (q ∷ more) in
    ap (λ (bs : List BlockText). get_or bs (rev_count s i) no_body) (there ∙ parts) ∙ get_after (bodies_of x) q.body (map (λ (r : Revision). r.body) more) (rev_count s i) no_body (ap length here)

-- the next revision, where there is one
next_of : (x y : Sentence) (more : List Revision) → revisions y ≡ revisions x ++ more → 0 < length more → (q : Revision) × (rest : List Revision) × (revisions y ≡ revisions x ++ q ∷ rest)
next_of x y [] e h = absurd (omega arith)
next_of x y (q ∷ rest) e h = (q, rest, e)

-- there is a next revision just where the row has more than the mark counts
more_rows : (x y : Sentence) (more : List Revision) → revisions y ≡ revisions x ++ more → ltb (length x.before + 1) (length (map row_of (revisions y))) ≡ true → 0 < length more
more_rows x y more e t =
    let a = ltb-true (length x.before + 1) (length (map row_of (revisions y))) t in
    let b = length-map (revisions y) row_of in
    let c = ap length e ∙ length-append (revisions x) more in
    let d = rows_count x in
    omega (arith, a, b, c, d)

rows_more : (x y : Sentence) (q : Revision) (rest : List Revision) → revisions y ≡ revisions x ++ q ∷ rest → ltb (length x.before + 1) (length (map row_of (revisions y))) ≡ true
rows_more x y q rest e =
    let b = length-map (revisions y) row_of in
    let c = ap length e ∙ length-append (revisions x) (q ∷ rest) in
    let d = rows_count x in
    lt-ltb (length x.before + 1) (length (map row_of (revisions y))) (omega (arith, b, c, d))

all_in : {X : Type 0} (P : X → Type 0) (xs ys : List X) (y : X) → AllByRecursion P (xs ++ y ∷ ys) → P y
all_in P [] ys y h = h.0
all_in P (x ∷ xs) ys y h = all_in P xs ys y h.1

fine_next : (P : BlockText → Type 0) (x y : Sentence) (q : Revision) (rest : List Revision) → revisions y ≡ revisions x ++ q ∷ rest → AllByRecursion P (bodies_of y) → P q.body
fine_next P x y q rest e h =
    let parts = ap (λ (rs : List Revision). map (λ (r : Revision). r.body) rs) e ∙ map-joined (λ (r : Revision). r.body) (revisions x) (q ∷ rest) in
    all_in P (bodies_of x) (map (λ (r : Revision). r.body) rest) q.body (subst (AllByRecursion P) parts h)

-- the same, with the current revision by itself
parted_at : (x y : Sentence) (q : Revision) (rest : List Revision) → revisions y ≡ revisions x ++ q ∷ rest → revisions y ≡ x.before ++ x.current ∷ q ∷ rest
parted_at x y q rest e = e ∙ append_assoc x.before (x.current ∷ []) (q ∷ rest)

-- what holds of all texts holds of the current one
fine_last : (P : BlockText → Type 0) (x y : Sentence) (rest : List Revision) → revisions y ≡ x.before ++ x.current ∷ rest → AllByRecursion P (bodies_of y) → P x.current.body
fine_last P x y rest e h =
    let parts = ap (λ (rs : List Revision). map (λ (r : Revision). r.body) rs) e ∙ map-joined (λ (r : Revision). r.body) x.before (x.current ∷ rest) in
    all_in P (map (λ (r : Revision). r.body) x.before) (map (λ (r : Revision). r.body) rest) x.current.body (subst (AllByRecursion P) parts h)

correct_continues : (u : List ℕ) (body : BlockText) (x y : Sentence) (q : Revision) (rest : List Revision) → Continues x y → revisions y ≡ revisions x ++ q ∷ rest → q.who ≡ u → q.body ≡ body → Continues (corrected u body x) y
correct_continues u body x y q rest h e a b =
    let is : (let r : Revision = record { who = u; body = body } in r) ≡ q = ap (λ w. let r : Revision = record { who = w; body = body } in r) (sym a) ∙ ap (λ c. let r : Revision = record { who = q.who; body = c } in r) (sym b) in
    record { sent_id = h.sent_id; batch = h.batch; more = rest; revised = e ∙ (ap (λ r. revisions x ++ r ∷ rest) (sym is) ∙ sym (append_assoc (revisions x) (record { who = u; body = body } ∷ []) rest)) }

pub correct_yes : (f s : Machine) (m : MoveText) → IsWell s → AreFine f → Full s f → m.kind ≡ Correct → correct_test (entries_of f.sentences) (small_of s) m ≡ true
    → Follows f s m (correcting (m.sent - 1) m.who (body_at (bodies_in f) (m.sent - 1) (rev_count s (m.sent - 1))))
correct_yes f s m w fine h kind t =
    let i = m.sent - 1 in
    let x = the_sentence s i in
    let y = the_sentence f i in
    let b = its_batch s x in
    let es = entries_of f.sentences in
    let body = body_at (bodies_in f) i (rev_count s i) in
    let below = marks_below s i (first_true (ltb i (length (small_of s).marks)) _ t) in
    let within : i < length f.sentences = omega (arith, below, continue_count s.sentences f.sentences h.sentences) in
    let on = continue_at s.sentences f.sentences i no_sentence h.sentences below in
    let entry = get_mapped entry_of f.sentences i no_sentence no_entry within in
    let fits0 : correct_fits (length s.moves) i (mark_of x) (slot_for x.batch b s.sentences) (entry_at es i) m ≡ true =
    sym (under s i (λ k v. correct_fits (length s.moves) i k v (entry_at es i) m) w below) ∙ second_true (fits_word ((slot_under (small_of s) (mark_at (small_of s) i)).words + (row_next (mark_at (small_of s) i) (entry_at es i)).words)) _ (second_true (ltb i (length (small_of s).marks)) _ t) in
    let fits : correct_fits (length s.moves) i (mark_of x) (slot_for x.batch b s.sentences) (entry_of y) m ≡ true =
    subst (λ e. correct_fits (length s.moves) i (mark_of x) (slot_for x.batch b s.sentences) e m ≡ true) entry fits0 in
    let t1 = second_true (is_name m.who) _ fits in
    let some = first_true (ltb (length x.before + 1) (length (map row_of (revisions y)))) _ t1 in
    let t2 = second_true (ltb (length x.before + 1) (length (map row_of (revisions y)))) _ t1 in
    let cut = next_of x y on.more on.revised (more_rows x y on.more on.revised some) in
    let q = cut.0 in
    let rest = cut.1 in
    let e = cut.2 in
    let row = row_is x y q rest e in
    let who : q.who ≡ m.who = ap (λ (r : RevisionRow). r.who) (sym row) ∙ (bytes_eq-Decides (row_next (mark_of x) (entry_of y)).who m.who).0 (first_true (bytes_eq (row_next (mark_of x) (entry_of y)).who m.who) _ t2) in
    let t3 = second_true (bytes_eq (row_next (mark_of x) (entry_of y)).who m.who) _ t2 in
    let decided = first_true (is_ok (may_correct (cond x.pulled Withdrawn b.state) b.worker m.who)) _ t3 in
    let t4 = second_true (is_ok (may_correct (cond x.pulled Withdrawn b.state) b.worker m.who)) _ t3 in
    let is : body ≡ q.body = body_is s f i q rest below within e in
    let count : (row_next (mark_of x) (entry_of y)).words ≡ words_of body = ap (λ (r : RevisionRow). r.words) row ∙ ap words_of (sym is) in
    let ex = correct_expected (length s.moves) i (mark_of x) (slot_for x.batch b s.sentences) (words_of body) in
    let expected = subst (λ n. is_expected m (correct_expected (length s.moves) i (mark_of x) (slot_for x.batch b s.sentences) n) ≡ true) count t4 in
    let its = all_there IsFine f.sentences i y (get_there f.sentences i no_sentence within) fine.sentences in
    let parted = parted_at x y q rest e in
    let spelled = λ (c : BlockText). text_value_of c ≡ text_value_of y.current.body in
    record {
      allowed = record {
        by = first_true (is_name m.who) _ fits;
        sentence = x;
        there = get_there s.sentences i no_sentence below;
        decided = unit_ok (may_correct (cond x.pulled Withdrawn b.state) b.worker m.who) decided;
        lawful = subst IsLawful (sym is) (fine_next IsLawful x y q rest e its.lawful);
        same_id = ap sent_id_of is ∙ (fine_next (λ (c : BlockText). sent_id_of c ≡ y.sent_id) x y q rest e its.titled ∙ sym on.sent_id);
        same_text = ap text_value_of is ∙ (fine_next spelled x y q rest e its.spelled ∙ sym (fine_last spelled x y (q ∷ rest) parted its.spelled));
        new = λ z. its.new x.before x.current q rest parted (sym is ∙ z);
      };
      moved = sym (correct_move s i m.who body below) ∙ (ap (λ k. full_move k m.who ex) (sym kind) ∙ expected_is m ex expected);
      full = record { more = h.more; names = h.names; sentences = continue_with (corrected m.who body) s.sentences f.sentences i no_sentence h.sentences (correct_continues m.who body x y q rest on e who (sym is)) };
    }

pub correct_no : (f s : Machine) (m : MoveText) → length s.sentences ≤ 1000000 → IsWell s → Full s f → Follows f s m (correcting (m.sent - 1) m.who (body_at (bodies_in f) (m.sent - 1) (rev_count s (m.sent - 1))))
    → correct_test (entries_of f.sentences) (small_of s) m ≡ true
correct_no f s m few w o h =
    let i = m.sent - 1 in
    let a = h.allowed in
    let x = the_sentence s i in
    let y = the_sentence f i in
    let b = its_batch s x in
    let es = entries_of f.sentences in
    let body = body_at (bodies_in f) i (rev_count s i) in
    let below = get_within s.sentences i a.sentence a.there in
    let within : i < length f.sentences = omega (arith, below, continue_count s.sentences f.sentences o.sentences) in
    let is = marked s i a.sentence a.there in
    let on = continue_there (corrected m.who body) s.sentences f.sentences i no_sentence below h.full.sentences in
    let q : Revision = record { who = m.who; body = body } in
    let e = on.revised ∙ append_assoc (revisions x) (q ∷ []) on.more in
    let row = row_is x y q on.more e in
    let who = (bytes_eq-Decides (row_next (mark_of x) (entry_of y)).who m.who).1 (ap (λ (r : RevisionRow). r.who) row) in
    let count : words_of body ≡ (row_next (mark_of x) (entry_of y)).words = sym (ap (λ (r : RevisionRow). r.words) row) in
    let decided = subst (λ (z : Sentence). is_ok (may_correct (state_in s.batches z) (its_batch s z).worker m.who) ≡ true) is (ok_true (may_correct (state_in s.batches a.sentence) (its_batch s a.sentence).worker m.who) tt a.decided) in
    let ex = correct_expected (length s.moves) i (mark_of x) (slot_for x.batch b s.sentences) (words_of body) in
    let expected = subst (λ n. is_expected m (correct_expected (length s.moves) i (mark_of x) (slot_for x.batch b s.sentences) n) ≡ true) count
    (expected_of m Correct m.who ex (correct_move s i m.who body below ∙ h.moved)) in
    let fits : correct_fits (length s.moves) i (mark_of x) (slot_for x.batch b s.sentences) (entry_of y) m ≡ true =
    both (is_name m.who) _ a.by (both (ltb (length x.before + 1) (length (map row_of (revisions y)))) _ (rows_more x y q on.more e)
    (both (bytes_eq (row_next (mark_of x) (entry_of y)).who m.who) _ who (both (is_ok (may_correct (cond x.pulled Withdrawn b.state) b.worker m.who)) _ decided expected))) in
    let entry = get_mapped entry_of f.sentences i no_sentence no_entry within in
    let most = words_below x.batch s.sentences w.fine in
    let words_room = room (weigh (at_work x.batch words) s.sentences + (row_next (mark_of x) (entry_of y)).words) (omega (arith, most, few, few_in body a.lawful, count)) in
    both (ltb i (length (small_of s).marks)) _ (below_marks s i below)
    (both (fits_word ((slot_under (small_of s) (mark_at (small_of s) i)).words + (row_next (mark_at (small_of s) i) (entry_at es i)).words)) _
    (under s i (λ k v. fits_word (v.words + (row_next k (entry_at es i)).words)) w below
    ∙ subst (λ z. fits_word (weigh (at_work x.batch words) s.sentences + (row_next (mark_of x) z).words) ≡ true) (sym entry) words_room)
    (under s i (λ k v. correct_fits (length s.moves) i k v (entry_at es i) m) w below
    ∙ subst (λ z. correct_fits (length s.moves) i (mark_of x) (slot_for x.batch b s.sentences) z m ≡ true) (sym entry) fits))

pub correct_then : (f s : Machine) (m : MoveText) → IsWell s → Full s f → Follows f s m (correcting (m.sent - 1) m.who (body_at (bodies_in f) (m.sent - 1) (rev_count s (m.sent - 1))))
    → correct_next (entries_of f.sentences) (small_of s) m ≡ small_of (after s (correcting (m.sent - 1) m.who (body_at (bodies_in f) (m.sent - 1) (rev_count s (m.sent - 1)))))
correct_then f s m w o h =
    let i = m.sent - 1 in
    let a = h.allowed in
    let x = the_sentence s i in
    let y = the_sentence f i in
    let es = entries_of f.sentences in
    let body = body_at (bodies_in f) i (rev_count s i) in
    let below = get_within s.sentences i a.sentence a.there in
    let within : i < length f.sentences = omega (arith, below, continue_count s.sentences f.sentences o.sentences) in
    let is = marked s i a.sentence a.there in
    let there = get_there s.sentences i no_sentence below in
    let p = placed_at s i w below in
    let on = continue_there (corrected m.who body) s.sentences f.sentences i no_sentence below h.full.sentences in
    let q : Revision = record { who = m.who; body = body } in
    let row = row_is x y q on.more (on.revised ∙ append_assoc (revisions x) (q ∷ []) on.more) in
    let entry = get_mapped entry_of f.sentences i no_sentence no_entry within in
    let count : (row_next (mark_of x) (entry_at es i)).words ≡ words_of body = ap (λ e. (row_next (mark_of x) e).words) entry ∙ ap (λ (r : RevisionRow). r.words) row in
    let free : x.pulled ≡ false = subst (λ (z : Sentence). z.pulled ≡ false) is (unpulled a.sentence.pulled (its_batch s a.sentence).state (its_batch s a.sentence).worker m.who a.decided) in
    let slots = sentence_changed (corrected m.who body) s.batches s.sentences i x 1 1 (words_of body) (words x) there p.0 refl (at_work_free x.batch one x refl free) (at_work_free x.batch one (corrected m.who body x) refl free)
    (at_work_free x.batch words x refl free) (at_work_free x.batch words (corrected m.who body x) refl free) in
    let size : (let k : Mark = mark_of (corrected m.who body x) in k) ≡ mark_corrected (words_of body) (mark_of x) =
    ap (λ n. let k : Mark = record { batch = x.batch; pulled = x.pulled; rev = n; words = words_of body } in k) (ap (λ n. n + 1) (rows_count x)) in
    let marks = marks_changed (corrected m.who body) (mark_corrected (words_of body)) s.sentences i x there size in
    ap (λ k. correct_to k (row_next k (entry_at es i)).words i (small_of s)) (mark_is s i below)
    ∙ (ap (λ n. correct_to (mark_of x) n i (small_of s)) count
    ∙ small_is _ _ _ _ _ _ (sym slots) (sym marks) (sym (length-append s.moves (move_of s (correcting i m.who body) ∷ []))))
