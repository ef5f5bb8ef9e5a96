-- The replay on what is kept of a state is exact: it says yes exactly of the rows of reached states.
use Rattle.std.proofs.Common.{◌≡◌, ℕ, ◌+◌, ◌≤◌, List, [], ◌∷◌, ◌++◌, length, map, Bool, true, false, ◌&&◌, refl, sym, ◌∙◌, ap, subst, arith, append_assoc, append-nil, length-append}
use Rattle.std.specs.Prelude.{bytes_eq}
use Rattle.std.proofs.lemmas.Bool.{eqb-true, eq-eqb}
use Rattle.std.proofs.lemmas.List.{length-map}
use Rattle.std.proofs.lemmas.Slice.Eq.{bytes_eq-Decides}
use Rattle.tb_core.specs.declared.kinds.Kind.{Kind}
use Rattle.tb_core.specs.declared.kinds.Kind.TheVariants.{Import, Step, Correct, Pull, Restore}
use Rattle.tb_core.specs.Moves.{MoveText}
use Rattle.tb_core.specs.Events.{is_state}
use Rattle.tb_core.specs.Machine.{Batch, Sentence, Machine, empty_machine, revisions}
use Rattle.tb_core.specs.Acts.{after, move_of, names_of}
use Rattle.tb_core.specs.Reaching.{Reached, begun}
use Rattle.tb_core.specs.Keeping.{Continue, IsWell}
use Rattle.tb_core.proofs.Lists.{head_is, tail_is, nothing_more, snoc_front, snoc_last}
use Rattle.tb_core.proofs.Keeps.{well_empty, well_after}
use Rattle.tb_core.proofs.Extending.{continue_count, extends_trans, extends_after}
use Rattle.tb_replay.specs.Course.{Plays, act_by, act_of}
use Rattle.tb_replay.specs.Summaries.{row_of, entry_of, entries_of}
use Rattle.tb_replay.specs.Fine.{AreFine}
use Rattle.tb_replay.specs.Slots.{slots_from, mark_of, small_of, empty_small}
use Rattle.tb_replay.specs.Playing.{kind_test, kind_next, are_slots, is_same_flag, is_mark_of, are_marks, plays}
use Rattle.tb_replay.proofs.Course.{sound, complete}
use Rattle.tb_replay.proofs.Full.{Full, full_of, full_empty, plays_extend}
use Rattle.tb_replay.proofs.Parts.{Follows, first_true, second_true, both, state_is, state_self}
use Rattle.tb_replay.proofs.Exact.{event_yes, event_no, event_then, pull_yes, pull_no, pull_then, restore_yes, restore_no, restore_then, correct_yes, correct_no, correct_then}
use Rattle.tb_replay.proofs.ExactImport.{import_yes, import_no, import_then}

-- ---- one move

kind_yes : (f s : Machine) (m : MoveText) (k : Kind) → IsWell s → AreFine f → Full s f → m.kind ≡ k → kind_test k (length f.batches) (entries_of f.sentences) (small_of s) m ≡ true → Follows f s m (act_by k f s m)
kind_yes f s m Import w fine h e t = import_yes f s m fine h e t
kind_yes f s m (Step v) w fine h e t = event_yes f s v m h e t
kind_yes f s m Correct w fine h e t = correct_yes f s m w fine h e t
kind_yes f s m Pull w fine h e t = pull_yes f s m w h e t
kind_yes f s m Restore w fine h e t = restore_yes f s m w h e t

kind_no : (f s : Machine) (m : MoveText) (k : Kind) → length f.sentences ≤ 1000000 → AreFine f → IsWell s → Full s f → Follows f s m (act_by k f s m) → kind_test k (length f.batches) (entries_of f.sentences) (small_of s) m ≡ true
kind_no f s m Import few fine w o h = import_no f s m few fine h
kind_no f s m (Step v) few fine w o h = event_no f s v m h
kind_no f s m Correct few fine w o h = let c = continue_count s.sentences f.sentences o.sentences in correct_no f s m (omega (arith, c, few)) w o h
kind_no f s m Pull few fine w o h = pull_no f s m w h
kind_no f s m Restore few fine w o h = let c = continue_count s.sentences f.sentences o.sentences in restore_no f s m (omega (arith, c, few)) w h

kind_then : (f s : Machine) (m : MoveText) (k : Kind) → IsWell s → Full s f → Follows f s m (act_by k f s m) → kind_next k (entries_of f.sentences) (small_of s) m ≡ small_of (after s (act_by k f s m))
kind_then f s m Import w o h = import_then f s m w h
kind_then f s m (Step v) w o h = event_then s v m
kind_then f s m Correct w o h = correct_then f s m w o h
kind_then f s m Pull w o h = pull_then s m w h.allowed
kind_then f s m Restore w o h = restore_then s m w h.allowed

-- ---- the end

batch_is : (b c : Batch) → b.name ≡ c.name → b.state ≡ c.state → b.worker ≡ c.worker → b ≡ c
batch_is b c p q r =
    ap (λ x. let z : Batch = record { name = x; state = b.state; worker = b.worker } in z) p ∙ (ap (λ x. let z : Batch = record { name = c.name; state = x; worker = b.worker } in z) q ∙ ap (λ x. let z : Batch = record { name = c.name; state = c.state; worker = x } in z) r)

batches_same : (n : ℕ) (bs cs : List Batch) (xs : List Sentence) (more : List (List ℕ)) → names_of cs ≡ names_of bs ++ more → are_slots cs (slots_from n bs xs) ≡ true → bs ≡ cs
batches_same n [] [] xs more e t = refl
batches_same n [] (c ∷ cs) xs more e t = let d : false ≡ true = t in absurd (cc)
batches_same n (b ∷ bs) [] xs more e t = let d : false ≡ true = t in absurd (cc)
batches_same n (b ∷ bs) (c ∷ cs) xs more e t =
    let here = first_true (is_state b.state c.state && bytes_eq b.worker c.worker) _ t in
    let one = batch_is b c (sym (head_is c.name b.name (names_of cs) (names_of bs ++ more) e)) (state_is b.state c.state (first_true (is_state b.state c.state) _ here))
    ((bytes_eq-Decides b.worker c.worker).0 (second_true (is_state b.state c.state) _ here)) in
    ap (λ x. x ∷ bs) one ∙ ap (λ l. c ∷ l) (batches_same (n + 1) bs cs xs more (tail_is c.name b.name (names_of cs) (names_of bs ++ more) e) (second_true (is_state b.state c.state && bytes_eq b.worker c.worker) _ t))

flag_is : (a b : Bool) → is_same_flag a b ≡ true → a ≡ b
flag_is true b h = sym h
flag_is false true h = h
flag_is false false h = refl

flag_self : (a : Bool) → is_same_flag a a ≡ true
flag_self true = refl
flag_self false = refl

pub sentence_is : (x y : Sentence) → x.sent_id ≡ y.sent_id → x.batch ≡ y.batch → x.pulled ≡ y.pulled → x.before ≡ y.before → x.current ≡ y.current → x ≡ y
sentence_is x y p q r s t =
    ap (λ z. let w : Sentence = record { sent_id = z; batch = x.batch; pulled = x.pulled; before = x.before; current = x.current } in w) p
    ∙ (ap (λ z. let w : Sentence = record { sent_id = y.sent_id; batch = z; pulled = x.pulled; before = x.before; current = x.current } in w) q
    ∙ (ap (λ z. let w : Sentence = record { sent_id = y.sent_id; batch = y.batch; pulled = z; before = x.before; current = x.current } in w) r
    ∙ (ap (λ z. let w : Sentence = record { sent_id = y.sent_id; batch = y.batch; pulled = y.pulled; before = z; current = x.current } in w) s
    ∙ ap (λ z. let w : Sentence = record { sent_id = y.sent_id; batch = y.batch; pulled = y.pulled; before = y.before; current = z } in w) t)))

sentences_same : (xs ys : List Sentence) → Continue xs ys → are_marks (entries_of ys) (map mark_of xs) ≡ true → xs ≡ ys
sentences_same [] [] h t = refl
sentences_same [] (y ∷ ys) h t = let d : false ≡ true = t in absurd (cc)
sentences_same (x ∷ xs) [] h t = absurd h
sentences_same (x ∷ xs) (y ∷ ys) h t =
    let here = first_true (is_mark_of (entry_of y) (mark_of x)) _ t in
    let count = eqb-true (length x.before + 1) (length (map row_of (revisions y))) (second_true (is_same_flag x.pulled y.pulled) _ here) in
    let a = length-map (revisions y) row_of in
    let b = ap length h.0.revised ∙ length-append (revisions x) h.0.more in
    let c = length-append x.before (x.current ∷ []) in
    let none = nothing_more h.0.more (omega (arith, count, a, b, c)) in
    let all : revisions x ≡ revisions y = sym (h.0.revised ∙ (ap (λ l. revisions x ++ l) none ∙ append-nil (revisions x))) in
    let one = sentence_is x y h.0.sent_id h.0.batch (flag_is x.pulled y.pulled (first_true (is_same_flag x.pulled y.pulled) _ here))
    (snoc_front x.before x.current y.before y.current all) (snoc_last x.before x.current y.before y.current all) in
    ap (λ z. z ∷ xs) one ∙ ap (λ l. y ∷ l) (sentences_same xs ys h.1 (second_true (is_mark_of (entry_of y) (mark_of x)) _ t))

slots_self : (n : ℕ) (bs : List Batch) (xs : List Sentence) → are_slots bs (slots_from n bs xs) ≡ true
slots_self n [] xs = refl
slots_self n (b ∷ bs) xs =
    both (is_state b.state b.state && bytes_eq b.worker b.worker) _ (both (is_state b.state b.state) _ (state_self b.state) ((bytes_eq-Decides b.worker b.worker).1 refl)) (slots_self (n + 1) bs xs)

marks_self : (xs : List Sentence) → are_marks (entries_of xs) (map mark_of xs) ≡ true
marks_self [] = refl
marks_self (x ∷ xs) =
    let a = length-map (revisions x) row_of in
    let c = length-append x.before (x.current ∷ []) in
    both (is_mark_of (entry_of x) (mark_of x)) _ (both (is_same_flag x.pulled x.pulled) _ (flag_self x.pulled) (eq-eqb (length x.before + 1) (length (map row_of (revisions x))) (omega (arith, a, c)))) (marks_self xs)

pub machine_is : (s f : Machine) → s.batches ≡ f.batches → s.sentences ≡ f.sentences → s.moves ≡ f.moves → s ≡ f
machine_is s f p q r =
    ap (λ z. let w : Machine = record { batches = z; sentences = s.sentences; moves = s.moves } in w) p
    ∙ (ap (λ z. let w : Machine = record { batches = f.batches; sentences = z; moves = s.moves } in w) q ∙ ap (λ z. let w : Machine = record { batches = f.batches; sentences = f.sentences; moves = z } in w) r)

-- ---- all moves

lead : (f : Machine) → AreFine f → (ms : List MoveText) (s : Machine) → IsWell s → Full s f → s.moves ++ ms ≡ f.moves → plays f.batches (entries_of f.sentences) (small_of s) ms ≡ true → Plays f s ms
lead f fine [] s w h e t =
    let slots = first_true (are_slots f.batches (slots_from 1 s.batches s.sentences)) _ t in
    let marks = second_true (are_slots f.batches (slots_from 1 s.batches s.sentences)) _ t in
    machine_is s f (batches_same 1 s.batches f.batches s.sentences h.more h.names slots) (sentences_same s.sentences f.sentences h.sentences marks) (sym (append-nil s.moves) ∙ e)
lead f fine (m ∷ ms) s w h e t =
    let a = act_of f s m in
    let here = first_true (kind_test m.kind (length f.batches) (entries_of f.sentences) (small_of s) m) _ t in
    let rest = second_true (kind_test m.kind (length f.batches) (entries_of f.sentences) (small_of s) m) _ t in
    let on = kind_yes f s m m.kind w fine h refl here in
    let then = kind_then f s m m.kind w h on in
    let moves : (s.moves ++ move_of s a ∷ []) ++ ms ≡ f.moves = append_assoc s.moves (move_of s a ∷ []) ms ∙ (ap (λ x. s.moves ++ x ∷ ms) on.moved ∙ e) in
    (on.allowed, on.moved, lead f fine ms (after s a) (well_after s a w on.allowed) on.full moves (subst (λ k. plays f.batches (entries_of f.sentences) k ms ≡ true) then rest))

led : (f : Machine) → length f.sentences ≤ 1000000 → AreFine f → (ms : List MoveText) (s : Machine) → IsWell s → Plays f s ms → plays f.batches (entries_of f.sentences) (small_of s) ms ≡ true
led f few fine [] s w p =
    let self = both (are_slots f.batches (slots_from 1 f.batches f.sentences)) _ (slots_self 1 f.batches f.sentences) (marks_self f.sentences) in
    subst (λ z. plays f.batches (entries_of f.sentences) (small_of z) [] ≡ true) (sym p) self
led f few fine (m ∷ ms) s w p =
    let a = act_of f s m in
    let extends = plays_extend f ms (after s a) p.2 in
    let on : Follows f s m a = record { allowed = p.0; moved = p.1; full = full_of (after s a) f extends } in
    let h = full_of s f (extends_trans s (after s a) f (extends_after s a) extends) in
    let then = kind_then f s m m.kind w h on in
    both (kind_test m.kind (length f.batches) (entries_of f.sentences) (small_of s) m) _ (kind_no f s m m.kind few fine w h on)
    (subst (λ k. plays f.batches (entries_of f.sentences) k ms ≡ true) (sym then) (led f few fine ms (after s a) (well_after s a w p.0) p.2))

pub rows_exact : (f : Machine) → length f.sentences ≤ 1000000 → AreFine f → (plays f.batches (entries_of f.sentences) empty_small f.moves ≡ true → Reached f) × (Reached f → plays f.batches (entries_of f.sentences) empty_small f.moves ≡ true)
rows_exact f few fine = (
  λ t. sound f f.moves empty_machine (lead f fine f.moves empty_machine well_empty (full_empty f) refl t) begun,
  λ r. led f few fine f.moves empty_machine well_empty (complete f r),
)
