-- The totals that a move replaces are those of the state after it.
use Rattle.std.proofs.Common.{◌≡◌, List, [], ◌∷◌, ◌++◌, length, map, Bool, true, false, cond, Option, Some, None, refl, sym, ◌∙◌, ap, arith, slice_set}
use Rattle.std.specs.List.{AllByRecursion}
use Rattle.std.proofs.lemmas.List.{map-append}
use Rattle.tb_core.specs.declared.kinds.State.{State}
use Rattle.tb_core.specs.declared.kinds.State.TheVariants.{Opened, Assigned, Submitted, Adjudicated, Released, Withdrawn}
use Rattle.tb_core.specs.Events.{is_state}
use Rattle.tb_core.specs.Machine.{Machine, when, one, words}
use Rattle.tb_core.specs.Acts.{Act, IsAllowed, after, move_of, leaves, enters, from_state, to_state}
use Rattle.tb_core.specs.Totals.{is_from}
use Rattle.tb_core.specs.Keeping.{IsPlaced}
use Rattle.tb_core.proofs.Balance.{balance}
use Rattle.tb_tables.specs.Records.{Tables, Total, Move}
use Rattle.tb_tables.specs.Changes.{with_move}
use Rattle.tb_tables.specs.Commands.{with_total, recorded}
use Rattle.tb_refine.specs.Numbers.{state_number, from_number}
use Rattle.tb_refine.specs.DeskTables.{move_record, total_record, six_states}
use Rattle.tb_refine.proofs.CallLemmas.{same_state}
use Rattle.tb_refine.proofs.Places.{map_alike, total_is}

abbrev with_totals : Tables → List Total → Tables
with_totals d l = record d { totals = l }

-- one state's total replaced
abbrev put : State → Total → (State → Total) → State → Total
put st t f x = cond (is_state st x) t (f x)

-- that of the state that is left, if there is one
abbrev put_before : Option State → Total → (State → Total) → State → Total
put_before from t f x = cond (is_from from x) t (f x)

with_one : (d : Tables) (f : State → Total) (st : State) (t : Total) → d.totals ≡ map f six_states → with_total d (state_number st) t ≡ with_totals d (map (put st t f) six_states)
with_one d f Opened t e = ap (λ l. with_totals d (slice_set l 0 t)) e
with_one d f Assigned t e = ap (λ l. with_totals d (slice_set l 1 t)) e
with_one d f Submitted t e = ap (λ l. with_totals d (slice_set l 2 t)) e
with_one d f Adjudicated t e = ap (λ l. with_totals d (slice_set l 3 t)) e
with_one d f Released t e = ap (λ l. with_totals d (slice_set l 4 t)) e
with_one d f Withdrawn t e = ap (λ l. with_totals d (slice_set l 5 t)) e

with_both : (d : Tables) (f : State → Total) (from : Option State) (to : State) (left reached : Total) → d.totals ≡ map f six_states
    → with_total (with_total d (from_number from) left) (state_number to) reached ≡ with_totals d (map (put to reached (put_before from left f)) six_states)
with_both d f None to left reached e = with_one d f to reached e
with_both d f (Some st) to left reached e =
    let first = with_one d f st left e in
    let middle : Tables = with_total d (state_number st) left in
    with_one middle (put st left f) to reached (ap (λ (z : Tables). z.totals) first) ∙ ap (λ z. with_totals z (map (put to reached (put st left f)) six_states)) first

from_is : (from : Option State) (x : State) → is_from from x ≡ true → from ≡ Some x
from_is None x e = let d : false ≡ true = e in absurd (cc)
from_is (Some st) x e = ap Some (same_state st x e)

point : (old new : State → Total) (from : Option State) (to : State) (left : Total) → ((st : State) → from ≡ Some st → left ≡ new st) → ((st : State) → is_from from st ≡ false → is_state to st ≡ false → old st ≡ new st)
    → (x : State) (t u : Bool) → is_state to x ≡ t → is_from from x ≡ u → cond t (new to) (cond u left (old x)) ≡ new x
point old new from to left h k x true u p q = ap new (same_state to x p)
point old new from to left h k x false true p q = h x (from_is from x q)
point old new from to left h k x false false p q = k x q p

-- nothing happens to the other states
unmoved : (s : Machine) (a : Act) (st : State) → AllByRecursion (IsPlaced (length s.batches)) s.sentences → IsAllowed s a → is_from (from_state s a) st ≡ false → is_state (to_state s a) st ≡ false
    → total_record s st ≡ total_record (after s a) st
unmoved s a st placed k p q =
    let some = balance one (λ p x. refl) s a st placed k in
    let all = balance words (λ p x. refl) s a st placed k in
    let a1 = ap (λ t. when t (leaves one s a)) p in
    let a2 = ap (λ t. when t (enters one s a)) q in
    let b1 = ap (λ t. when t (leaves words s a)) p in
    let b2 = ap (λ t. when t (enters words s a)) q in
    total_is (total_record s st) (total_record (after s a) st) (omega (arith, some, a1, a2)) (omega (arith, all, b1, b2))

abbrev pub moves_and_totals : Tables → List Move → List Total → Tables
moves_and_totals d ms ts = record d { moves = ms; totals = ts }

-- The move and the totals, over any tables with those of the state before.
pub recorded_is : (s : Machine) (a : Act) (d : Tables) (left reached : Total) → AllByRecursion (IsPlaced (length s.batches)) s.sentences → IsAllowed s a
    → ((st : State) → from_state s a ≡ Some st → left ≡ total_record (after s a) st) → reached ≡ total_record (after s a) (to_state s a) → d.moves ≡ map move_record s.moves → d.totals ≡ map (total_record s) six_states
    → recorded d (move_record (move_of s a)) left reached ≡ moves_and_totals d (map move_record (after s a).moves) (map (total_record (after s a)) six_states)
recorded_is s a d left reached placed k is_left is_reached ms ts =
    let m = move_record (move_of s a) in
    let from = from_state s a in
    let to = to_state s a in
    let new = total_record (after s a) in
    let both = with_both (with_move d m) (total_record s) from to left reached ts in
    let same = λ (x : State). ap (λ t. put to t (put_before from left (total_record s)) x) is_reached
    ∙ point (total_record s) new from to left is_left (λ st p q. unmoved s a st placed k p q) x (is_state to x) (is_from from x) refl refl in
    let sums = map_alike (put to reached (put_before from left (total_record s))) new same six_states in
    let more = ap (λ (l : List Move). l ++ m ∷ []) ms ∙ sym (map-append move_record s.moves (move_of s a ∷ [])) in
    both ∙ (ap (λ (l : List Total). moves_and_totals d (d.moves ++ m ∷ []) l) sums ∙ ap (λ (l : List Move). moves_and_totals d l (map new six_states)) more)
