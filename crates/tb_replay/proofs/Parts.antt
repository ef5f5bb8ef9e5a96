-- Tests taken apart, and moves that are as expected.
use Rattle.std.proofs.Common.{◌≡◌, ℕ, zero, suc, ◌<◌, List, [], ◌∷◌, ◌++◌, length, map, get_or, Option, None, Some, Result, Ok, Err, Bool, true, false, cond, ◌&&◌, eqb, refl, sym, ◌∙◌, ap, subst, arith}
use Rattle.std.specs.Prelude.{slice_get, bytes_eq, is_ok}
use Rattle.std.proofs.lemmas.Bool.{eqb-true, eq-eqb}
use Rattle.std.proofs.Math.Seq.{get_or-append_seam}
use Rattle.tb_core.specs.declared.kinds.State.{State}
use Rattle.tb_core.specs.declared.kinds.State.TheVariants.{Opened, Assigned, Submitted, Adjudicated, Released, Withdrawn}
use Rattle.tb_core.specs.declared.kinds.Event.{Event}
use Rattle.tb_core.specs.declared.kinds.Kind.{Kind}
use Rattle.tb_core.specs.declared.kinds.Worker.{Worker}
use Rattle.tb_core.specs.declared.refusals.Refusal.{Refusal}
use Rattle.tb_core.specs.declared.refusals.Refusal.TheVariants.{WrongState, NotYours, OwnWork, NotPulled}
use Rattle.tb_core.specs.Moves.{MoveText}
use Rattle.tb_core.specs.Events.{Asker, anyone, the_worker, not_the_worker, state_place, is_state, event_row, leads_from, goes_to, makes_worker}
use Rattle.tb_core.specs.Deciding.{allowed, event_decision, restore_decision}
use Rattle.tb_core.specs.Machine.{Machine, Sentence}
use Rattle.tb_core.specs.Acts.{Act, IsAllowed, after, move_of}
use Rattle.tb_replay.specs.Course.{no_body}
use Rattle.tb_replay.specs.Playing.{Expected, is_from_state, is_expected}
use Rattle.tb_replay.proofs.Full.{Full}

abbrev pub no_sentence : Sentence
no_sentence = record { sent_id = []; batch = 0; pulled = false; before = []; current = record { who = []; body = no_body } }

-- the move is that of the act, the act is allowed, and what it leaves is a part of f
pub record Follows (f s : Machine) (m : MoveText) (a : Act) : Type 0 where
  pub allowed : IsAllowed s a
  pub moved : move_of s a ≡ m
  pub full : Full (after s a) f

pub first_true : (a b : Bool) → (a && b) ≡ true → a ≡ true
first_true true b e = refl
first_true false b e = e

pub second_true : (a b : Bool) → (a && b) ≡ true → b ≡ true
second_true true b e = e
second_true false b e = let d : false ≡ true = e in absurd (cc)

pub both : (a b : Bool) → a ≡ true → b ≡ true → (a && b) ≡ true
both a b e f = ap (λ t. t && b) e ∙ f

-- ---- states

numbered : ℕ → State
numbered zero = Opened
numbered (suc zero) = Assigned
numbered (suc (suc zero)) = Submitted
numbered (suc (suc (suc zero))) = Adjudicated
numbered (suc (suc (suc (suc zero)))) = Released
numbered (suc (suc (suc (suc (suc n))))) = Withdrawn

numbered_state : (a : State) → numbered (state_place a) ≡ a
unfolding numbered
numbered_state Opened = refl
numbered_state Assigned = refl
numbered_state Submitted = refl
numbered_state Adjudicated = refl
numbered_state Released = refl
numbered_state Withdrawn = refl

pub state_is : (a b : State) → is_state a b ≡ true → a ≡ b
state_is a b h = sym (numbered_state a) ∙ (ap numbered (eqb-true (state_place a) (state_place b) h) ∙ numbered_state b)

pub state_self : (a : State) → is_state a a ≡ true
state_self a = eq-eqb (state_place a) (state_place a) refl

from_is : (a b : Option State) → is_from_state a b ≡ true → a ≡ b
from_is None None h = refl
from_is None (Some b) h = let d : false ≡ true = h in absurd (cc)
from_is (Some a) None h = let d : false ≡ true = h in absurd (cc)
from_is (Some a) (Some b) h = ap (λ (x : State). Some x) (state_is a b h)

from_self : (a : Option State) → is_from_state a a ≡ true
from_self None = refl
from_self (Some a) = state_self a

-- ---- moves

unfoldable pub full_move : Kind → List ℕ → Expected → MoveText
full_move k u e = record { no = e.no; kind = k; batch = e.batch; sent = e.sent; from = e.from; to = e.to; sentences = e.sentences; words_out = e.words_out; words_in = e.words_in; who = u }

build : Kind → List ℕ → ℕ → ℕ → ℕ → Option State → State → ℕ → ℕ → ℕ → MoveText
build k u a b c d e f g h = record { no = a; kind = k; batch = b; sent = c; from = d; to = e; sentences = f; words_out = g; words_in = h; who = u }

eight : (F : ℕ → ℕ → ℕ → Option State → State → ℕ → ℕ → ℕ → MoveText) (a a' b b' c c' : ℕ) (d d' : Option State) (e e' : State) (f f' g g' h h' : ℕ)
    → a ≡ a' → b ≡ b' → c ≡ c' → d ≡ d' → e ≡ e' → f ≡ f' → g ≡ g' → h ≡ h' → F a b c d e f g h ≡ F a' b' c' d' e' f' g' h'
eight F a a' b b' c c' d d' e e' f f' g g' h h' p1 p2 p3 p4 p5 p6 p7 p8 = cc

pub expected_is : (m : MoveText) (e : Expected) → is_expected m e ≡ true → full_move m.kind m.who e ≡ m
unfolding full_move build
expected_is m e h1 =
    let h2 = second_true (eqb m.no e.no) _ h1 in
    let h3 = second_true (eqb m.batch e.batch) _ h2 in
    let h4 = second_true (eqb m.sent e.sent) _ h3 in
    let h5 = second_true (is_from_state m.from e.from) _ h4 in
    let h6 = second_true (is_state m.to e.to) _ h5 in
    let h7 = second_true (eqb m.sentences e.sentences) _ h6 in
    sym (eight (build m.kind m.who) m.no e.no m.batch e.batch m.sent e.sent m.from e.from m.to e.to m.sentences e.sentences m.words_out e.words_out m.words_in e.words_in
    (eqb-true m.no e.no (first_true _ _ h1)) (eqb-true m.batch e.batch (first_true _ _ h2)) (eqb-true m.sent e.sent (first_true _ _ h3))
    (from_is m.from e.from (first_true _ _ h4)) (state_is m.to e.to (first_true _ _ h5)) (eqb-true m.sentences e.sentences (first_true _ _ h6))
    (eqb-true m.words_out e.words_out (first_true _ _ h7)) (eqb-true m.words_in e.words_in (second_true (eqb m.words_out e.words_out) _ h7)))

same : (n : ℕ) → eqb n n ≡ true
same n = eq-eqb n n refl

expected_self : (k : Kind) (u : List ℕ) (e : Expected) → is_expected (full_move k u e) e ≡ true
unfolding full_move
expected_self k u e =
    both (eqb e.no e.no) _ (same e.no) (both (eqb e.batch e.batch) _ (same e.batch) (both (eqb e.sent e.sent) _ (same e.sent) (both (is_from_state e.from e.from) _ (from_self e.from)
    (both (is_state e.to e.to) _ (state_self e.to) (both (eqb e.sentences e.sentences) _ (same e.sentences) (both (eqb e.words_out e.words_out) _ (same e.words_out) (same e.words_in)))))))

pub expected_of : (m : MoveText) (k : Kind) (u : List ℕ) (e : Expected) → full_move k u e ≡ m → is_expected m e ≡ true
expected_of m k u e h = subst (λ n. is_expected n e ≡ true) h (expected_self k u e)

-- ---- decisions

pick : (t : Bool) (r : Result (State × Worker) Refusal) (y : State × Worker) (e : Refusal) → (is_ok r ≡ true → r ≡ Ok y) → is_ok (cond t r (Err e)) ≡ true → cond t r (Err e) ≡ Ok y
pick true r y e h k = h k
pick false r y e h k = let d : false ≡ true = k in absurd (cc)

pick_other : (t : Bool) (r : Result (State × Worker) Refusal) (y : State × Worker) (e : Refusal) → r ≡ Ok y → is_ok (cond t (Err e) r) ≡ true → cond t (Err e) r ≡ Ok y
pick_other true r y e h k = let d : false ≡ true = k in absurd (cc)
pick_other false r y e h k = h

allowed_ok : (k : Asker) (worker user : List ℕ) (y : State × Worker) → is_ok (allowed k worker user y) ≡ true → allowed k worker user y ≡ Ok y
allowed_ok anyone worker user y h = refl
allowed_ok the_worker worker user y h = pick (bytes_eq worker user) (Ok y) y NotYours (λ k. refl) h
allowed_ok not_the_worker worker user y h = pick_other (bytes_eq worker user) (Ok y) y OwnWork refl h

pub event_ok : (s : State) (worker : List ℕ) (e : Event) (user : List ℕ) → is_ok (event_decision s worker e user) ≡ true → event_decision s worker e user ≡ Ok (goes_to e, makes_worker e)
event_ok s worker e user h =
    let makes : State × Worker = (goes_to e, makes_worker e) in
    let asker = (event_row e).asker in
    pick (leads_from e s) (allowed asker worker user makes) makes (WrongState s) (allowed_ok asker worker user makes) h

pub unit_ok : (r : Result (Unit {0}) Refusal) → is_ok r ≡ true → r ≡ Ok tt
unit_ok (Ok u) h = refl
unit_ok (Err e) h = let d : false ≡ true = h in absurd (cc)

restore_pick : (t p : Bool) (s : State) (e g : Refusal) (r : Result State Refusal) → r ≡ Ok s → is_ok (cond t (Err e) (cond p r (Err g))) ≡ true → cond t (Err e) (cond p r (Err g)) ≡ Ok s
restore_pick true p s e g r q h = let d : false ≡ true = h in absurd (cc)
restore_pick false true s e g r q h = q
restore_pick false false s e g r q h = let d : false ≡ true = h in absurd (cc)

pub restore_ok : (s : State) (p : Bool) → is_ok (restore_decision s p) ≡ true → restore_decision s p ≡ Ok s
restore_ok s p h = restore_pick (is_state s Withdrawn) p s (WrongState s) NotPulled (Ok s) refl h

pub ok_true : {X : Type 0} (r : Result X Refusal) (x : X) → r ≡ Ok x → is_ok r ≡ true
ok_true r x h = ap (λ z. is_ok z) h

-- ---- places

pub get_mapped : {X Y : Type 0} (g : X → Y) (xs : List X) (i : ℕ) (d : X) (e : Y) → i < length xs → get_or (map g xs) i e ≡ g (get_or xs i d)
get_mapped g [] i d e l = absurd (omega arith)
get_mapped g (x ∷ xs) zero d e l = refl
get_mapped g (x ∷ xs) (suc i) d e l = get_mapped g xs i d e (omega arith)

pub get_there : {X : Type 0} (xs : List X) (i : ℕ) (d : X) → i < length xs → slice_get xs i ≡ Some (get_or xs i d)
get_there [] i d l = absurd (omega arith)
get_there (x ∷ xs) zero d l = refl
get_there (x ∷ xs) (suc i) d l = get_there xs i d (omega arith)

pub get_after : {X : Type 0} (xs : List X) (x : X) (ys : List X) (n : ℕ) (d : X) → n ≡ length xs → get_or (xs ++ x ∷ ys) n d ≡ x
get_after xs x ys n d e = ap (λ i. get_or (xs ++ x ∷ ys) i d) e ∙ get_or-append_seam xs x ys d
