-- Steps of the replay's loops, and lists written at one place.
use Rattle.std.proofs.Common.{◌≡◌, ℕ, zero, suc, ◌+◌, ◌-◌, ◌≤◌, List, [], ◌∷◌, length, get_or, drop, set, Bool, true, false, ◌&&◌, ◌↔◌, Result, Ok, Err, refl, sym, ◌∙◌, ap, arith}
use Rattle.std.specs.Prelude.{IfOk}
use Rattle.std.proofs.lemmas.List.{length-map}
use Rattle.tb_core.specs.declared.kinds.State.{State}
use Rattle.tb_core.specs.declared.kinds.Event.{Event}
use Rattle.tb_core.specs.Moves.{MoveText}
use Rattle.tb_core.specs.Events.{goes_to, makes_worker}
use Rattle.tb_core.specs.Machine.{Batch, Machine, change_at}
use Rattle.tb_core.specs.Acts.{with_worker}
use Rattle.tb_core.specs.Reaching.{IsReachable}
use Rattle.tb_replay.specs.Summaries.{SummaryRow, entry_of, entries_of}
use Rattle.tb_replay.specs.Fine.{AreFine}
use Rattle.tb_replay.specs.Slots.{Slot, Mark, small, empty_small, no_slot, no_mark}
use Rattle.tb_replay.specs.Playing.{slot_moved, slot_with, with_sums, mark_next, first_counts, plays, is_slot_of, are_slots, is_mark_of, are_marks}
use Rattle.tb_replay.proofs.Exact.{small_is}
use Rattle.tb_replay.proofs.Ends.{rows_exact}

pub counts_end : (es : List SummaryRow) (i : ℕ) → length es ≤ i → first_counts (drop i es) ≡ 0
counts_end [] zero l = refl
counts_end [] (suc i) l = refl
counts_end (x ∷ xs) zero l = absurd (omega arith)
counts_end (x ∷ xs) (suc i) l = counts_end xs i (omega arith)

-- an element written is the list changed there
pub set_is : {X : Type 0} (g : X → X) (xs : List X) (i : ℕ) (d v : X) → v ≡ g (get_or xs i d) → set xs i v ≡ change_at g xs i
set_is g [] i d v h = refl
set_is g (x ∷ xs) zero d v h = ap (λ z. z ∷ xs) h
set_is g (x ∷ xs) (suc i) d v h = ap (λ l. x ∷ l) (set_is g xs i d v h)

-- an event written
pub event_written : (e : Event) (who : List ℕ) (xs : List Slot) (i j : ℕ) (x : Slot) (st : State) (w : List ℕ) → i ≡ j → x ≡ get_or xs i no_slot → st ≡ goes_to e → w ≡ with_worker (makes_worker e) who x.worker
    → set xs i (record { state = st; worker = w; sentences = x.sentences; words = x.words }) ≡ change_at (slot_moved e who) xs j
event_written e who xs i j x st w p is a b =
    let v : (let z : Slot = record { state = st; worker = w; sentences = x.sentences; words = x.words } in z) ≡ slot_moved e who (get_or xs i no_slot) =
    ap (λ s. let z : Slot = record { state = s; worker = w; sentences = x.sentences; words = x.words } in z) a
    ∙ (ap (λ s. let z : Slot = record { state = goes_to e; worker = s; sentences = x.sentences; words = x.words } in z) b ∙ ap (slot_moved e who) is) in
    set_is (slot_moved e who) xs i no_slot (record { state = st; worker = w; sentences = x.sentences; words = x.words }) v ∙ ap (change_at (slot_moved e who) xs) p

-- sums and a mark written
pub both_written : (more less wm wl : ℕ) (g : Mark → Mark) (slots new_slots : List Slot) (marks new_marks : List Mark) (count i j : ℕ) (x y : Mark) (b : Slot) (s w : ℕ)
    → i ≡ j → x ≡ get_or marks i no_mark → b ≡ get_or slots (x.batch - 1) no_slot → s ≡ b.sentences + more - less → w ≡ b.words + wm - wl → y ≡ g x
    → new_slots ≡ set slots (x.batch - 1) (with_sums s w (get_or slots (x.batch - 1) no_slot)) → new_marks ≡ set marks i y
    → small new_slots new_marks (count + 1) ≡ mark_next more less wm wl g (get_or marks j no_mark) j (small slots marks count)
both_written more less wm wl g slots new_slots marks new_marks count i j x y b s w p is slot a c d e f =
    let v : with_sums s w (get_or slots (x.batch - 1) no_slot) ≡ slot_with more less wm wl (get_or slots (x.batch - 1) no_slot) =
    ap (λ z. with_sums z w (get_or slots (x.batch - 1) no_slot)) (a ∙ ap (λ (z : Slot). z.sentences + more - less) slot)
    ∙ ap (λ z. with_sums ((get_or slots (x.batch - 1) no_slot).sentences + more - less) z (get_or slots (x.batch - 1) no_slot)) (c ∙ ap (λ (z : Slot). z.words + wm - wl) slot) in
    let first = e ∙ set_is (slot_with more less wm wl) slots (x.batch - 1) no_slot (with_sums s w (get_or slots (x.batch - 1) no_slot)) v in
    let second = f ∙ set_is g marks i no_mark y (d ∙ ap g is) in
    small_is _ _ _ _ _ _ first second refl
    ∙ (ap (λ z. mark_next more less wm wl g z i (small slots marks count)) is ∙ ap (λ k. mark_next more less wm wl g (get_or marks k no_mark) k (small slots marks count)) p)

-- ---- the end

and_false : (t u : Bool) → false ≡ u → false ≡ (t && u)
and_false true u e = e
and_false false u e = refl

pub slots_apart : (bs : List Batch) (xs : List Slot) → (length bs ≡ length xs → ⊥) → false ≡ are_slots bs xs
slots_apart [] [] h = absurd (h refl)
slots_apart [] (x ∷ xs) h = refl
slots_apart (b ∷ bs) [] h = refl
slots_apart (b ∷ bs) (x ∷ xs) h = and_false (is_slot_of b x) (are_slots bs xs) (slots_apart bs xs (λ e. h (ap suc e)))

pub marks_apart : (es : List SummaryRow) (xs : List Mark) → (length es ≡ length xs → ⊥) → false ≡ are_marks es xs
marks_apart [] [] h = absurd (h refl)
marks_apart [] (x ∷ xs) h = refl
marks_apart (e ∷ es) [] h = refl
marks_apart (e ∷ es) (x ∷ xs) h = and_false (is_mark_of e x) (are_marks es xs) (marks_apart es xs (λ p. h (ap suc p)))

pub finish : {E : Type 0} (r : Result Bool E) (f : Machine) (bs : List Batch) (es : List SummaryRow) (ms : List MoveText) → IfOk r (λ b. b ≡ plays bs es empty_small ms) → length es ≤ 1000000 → length ms ≤ 1000000000
    → bs ≡ f.batches → es ≡ entries_of f.sentences → ms ≡ f.moves → AreFine f → IfOk r (λ b. (b ≡ true) ↔ IsReachable f)
finish (Err e) f bs es ms h l k p q r fine = tt
finish (Ok b) f bs es ms h l k p q r fine =
    let few : length f.sentences ≤ 1000000 = omega (arith, ap length q, length-map f.sentences entry_of, l) in
    let moves : length f.moves ≤ 1000000000 = omega (arith, ap length r, k) in
    let exact = rows_exact f few fine in
    let is : b ≡ plays f.batches (entries_of f.sentences) empty_small f.moves =
    h ∙ (ap (λ x. plays x es empty_small ms) p ∙ (ap (λ x. plays f.batches x empty_small ms) q ∙ ap (λ x. plays f.batches (entries_of f.sentences) empty_small x) r)) in
    (λ t. record { reached = exact.0 (sym is ∙ t); sentences = few; moves = moves }, λ t. is ∙ exact.1 t.reached)
