-- Stored totals that stand for a state take its next move, and stand for the next state then.
use Rattle.std.proofs.Common.{◌≡◌, inl, inr, ℕ, zero, suc, ◌+◌, ◌-◌, ◌*◌, ◌^◌, ◌≤◌, ◌<◌, List, [], ◌∷◌, ◌++◌, length, map, get_or, Bool, true, false, cond, eqb, Some, refl, sym, ◌∙◌, ap, subst, arith, lit<}
use Rattle.std.specs.Prelude.{slice_get}
use Rattle.std.specs.List.{AllByRecursion}
use Rattle.std.proofs.lemmas.Bool.Decides.{eqb_tells}
use Rattle.tb_conllu.specs.Text.{BlockText}
use Rattle.tb_conllu.specs.Words.{words_of}
use Rattle.tb_rules.specs.Ids.{HasIds}
use Rattle.tb_rules.specs.Rules.{ids}
use Rattle.tb_core.specs.declared.kinds.State.{State}
use Rattle.tb_core.specs.declared.kinds.State.TheVariants.{Withdrawn}
use Rattle.tb_core.specs.declared.refusals.Refusal.TheVariants.{WrongState}
use Rattle.tb_core.specs.declared.sums.Totals.{Totals}
use Rattle.tb_core.specs.Events.{is_state}
use Rattle.tb_core.specs.Machine.{IsLawful, Revision, Sentence, Machine, no_batch, batch_with, state_in, weigh, weight_at, when, one, words, at_work}
use Rattle.tb_core.specs.Acts.{Act, importing, stepping, correcting, pulling, restoring, IsAllowed, after, move_of, leaves, enters, from_state, to_state, state_at}
use Rattle.tb_core.specs.Reaching.{Reached, further, IsReachable}
use Rattle.tb_core.specs.Totals.{in_state, total, is_from, Takes, IsApplied, AreTotalsOf}
use Rattle.tb_core.specs.Keeping.{IsPlaced, IsFine}
use Rattle.tb_core.proofs.Weights.{when_zero, weigh-when, weight_there}
use Rattle.tb_core.proofs.Keeps.{well}
use Rattle.tb_core.proofs.Balance.{balance, counted, unpulled, pull_was, restore_was}

-- ---- sums of smaller weights

weigh_below : (P : Sentence → Type 0) (v w : Sentence → ℕ) → ((x : Sentence) → P x → v x ≤ w x) → (xs : List Sentence) → AllByRecursion P xs → weigh v xs ≤ weigh w xs
weigh_below P v w e [] h = omega arith
weigh_below P v w e (x ∷ xs) h = let a = e x h.0 in let b = weigh_below P v w e xs h.1 in omega (arith, a, b)

part_below : (v : Sentence → ℕ) (xs : List Sentence) (i : ℕ) → weight_at v xs i ≤ weigh v xs
part_below v [] i = omega arith
part_below v (x ∷ xs) zero = omega arith
part_below v (x ∷ xs) (suc i) = let e = part_below v xs i in omega (arith, e)

when_below : (t : Bool) (n : ℕ) → when t n ≤ n
when_below true n = omega arith
when_below false n = omega arith

anything : (xs : List Sentence) → AllByRecursion (λ (x : Sentence). Unit {0}) xs
anything [] = tt
anything (x ∷ xs) = (tt, anything xs)

total_below : (w : Sentence → ℕ) (s : Machine) (st : State) → total w s st ≤ weigh w s.sentences
total_below w s st = weigh_below (λ x. Unit {0}) (in_state s.batches st w) w (λ x h. when_below (is_state (state_in s.batches x) st) (w x)) s.sentences (anything s.sentences)

-- ---- what leaves a state is there

-- the sentence at a place weighs there what leaves its state
there : (w : Sentence → ℕ) (s : Machine) (place : ℕ) (x : Sentence) (st own : State) → slice_get s.sentences place ≡ Some x → state_in s.batches x ≡ own → when (is_state own st) (weight_at w s.sentences place) ≤ total w s st
there w s place x st own h is =
    let v = in_state s.batches st w in
    let weight = weight_there w s.sentences place x h in
    let part = weight_there v s.sentences place x h in
    let below = part_below v s.sentences place in
    let same : when (is_state own st) (weight_at w s.sentences place) ≡ v x = ap (λ n. when (is_state own st) n) weight ∙ ap (λ z. when (is_state z st) (w x)) (sym is) in
    omega (arith, part, below, same)

own_state : (s : Machine) (place : ℕ) (x : Sentence) → slice_get s.sentences place ≡ Some x → x.pulled ≡ false → state_in s.batches x ≡ state_at s place
own_state s place x h free =
    let number = weight_there (λ (y : Sentence). y.batch) s.sentences place x h in
    ap (λ p. cond p Withdrawn (batch_with s.batches x.batch).state) free ∙ ap (λ i. (batch_with s.batches i).state) (sym number)

work_point : (p t : Bool) (own st from : State) (n : ℕ) → (t ≡ true → own ≡ from) → when (is_state from st) (cond p 0 (when t n)) ≤ when (is_state (cond p Withdrawn own) st) n
work_point true t own st from n h = let a = when_zero (is_state from st) in omega (arith, a)
work_point false true own st from n h = let a = ap (λ z. when (is_state z st) n) (h refl) in omega (arith, a)
work_point false false own st from n h = let a = when_zero (is_state from st) in omega (arith, a)

leaving_there : (w : Sentence → ℕ) (s : Machine) (a : Act) (st : State) → AllByRecursion (IsPlaced (length s.batches)) s.sentences → IsAllowed s a → when (is_from (from_state s a) st) (leaves w s a) ≤ total w s st
leaving_there w s (importing name user bodies) st h k = omega arith
leaving_there w s (stepping place event user) st h k =
    let from = (get_or s.batches place no_batch).state in
    let work = at_work (place + 1) w in
    let sum = weigh-when (is_state from st) work s.sentences in
    let point = λ (x : Sentence) (p : IsPlaced (length s.batches) x).
    work_point x.pulled (eqb x.batch (place + 1)) (batch_with s.batches x.batch).state st from (w x)
    (λ t. let e : x.batch - 1 ≡ place = elim (eqb_tells x.batch (place + 1)) [ inl y ↦ omega (arith, y.1) | inr n ↦ absurd (let d : true ≡ false = sym t ∙ n.0 in cc) ] in ap (λ i. (get_or s.batches i no_batch).state) e) in
    let below = weigh_below (IsPlaced (length s.batches)) (λ x. when (is_state from st) (work x)) (in_state s.batches st w) point s.sentences h in
    omega (arith, sum, below)
leaving_there w s (correcting place user body) st h k =
    let x = k.sentence in
    let free = unpulled x.pulled (batch_with s.batches x.batch).state (batch_with s.batches x.batch).worker user k.decided in
    there w s place x st (state_at s place) k.there (own_state s place x k.there free)
leaving_there w s (pulling place user) st h k =
    let x = k.sentence in
    let free = pull_was (is_state (batch_with s.batches x.batch).state Withdrawn) x.pulled (WrongState (batch_with s.batches x.batch).state) k.decided in
    there w s place x st (state_at s place) k.there (own_state s place x k.there free)
leaving_there w s (restoring place user) st h k =
    let x = k.sentence in
    let out = restore_was (is_state (batch_with s.batches x.batch).state Withdrawn) x.pulled (WrongState (batch_with s.batches x.batch).state) (batch_with s.batches x.batch).state k.decided in
    there w s place x st Withdrawn k.there (ap (λ p. cond p Withdrawn (batch_with s.batches x.batch).state) out)

-- ---- totals within the limits fit 64 bits

last_of : (P : BlockText → Type 0) (rs : List Revision) (c : Revision) → AllByRecursion P (map (λ (r : Revision). r.body) (rs ++ c ∷ [])) → P c.body
last_of P [] c h = h.0
last_of P (r ∷ rs) c h = last_of P rs c h.1

pub few_in : (b : BlockText) → IsLawful b → words_of b ≤ 1000
few_in b h =
    let right : HasIds b = h.rules ids in
    right.few

pub few_words : (x : Sentence) → IsFine x → words x ≤ 1000
few_words x h = few_in x.current.body (last_of IsLawful x.before x.current h.lawful)

words_below : (xs : List Sentence) → AllByRecursion IsFine xs → weigh words xs ≤ 1000 * length xs
words_below [] h = omega arith
words_below (x ∷ xs) h = let a = few_words x h.0 in let b = words_below xs h.1 in omega (arith, a, b)

ones : (xs : List Sentence) → weigh one xs ≡ length xs
ones [] = refl
ones (x ∷ xs) = let e = ones xs in omega (arith, e)

large : 1000000000 < 2 ^ 64
large = lit< tt

fits_one : (s : Machine) (st : State) → length s.sentences ≤ 1000000 → total one s st < 2 ^ 64
fits_one s st few = let a = total_below one s st in let b = ones s.sentences in omega (arith, a, b, large)

fits_words : (s : Machine) (st : State) → AllByRecursion IsFine s.sentences → length s.sentences ≤ 1000000 → total words s st < 2 ^ 64
fits_words s st h few = let a = total_below words s st in let b = words_below s.sentences h in omega (arith, a, b, large)

-- from the balance of a move: what is there afterwards, by minus
afterwards : (was out coming is top : ℕ) → is + out ≡ was + coming → out ≤ was → is < top → was - out + coming < top
afterwards was out coming is top e l f = omega arith

-- ---- the laws

pub takes_next : (s : Machine) (a : Act) (t : Totals) → IsReachable s → IsAllowed s a → IsReachable (after s a) → AreTotalsOf t s → Takes t (move_of s a)
takes_next s a t r k next h =
    let w = well s r.reached in
    let later = well (after s a) (further s a r.reached k) in
    let from = from_state s a in
    let to = to_state s a in
    record {
      sentences_there = λ st. let e = h.sentences st in let b = leaving_there one s a st w.placed k in let c = counted s a st k in omega (arith, e, b, c);
      sentences_fit = λ st.
          let b = balance one (λ p x. refl) s a st w.placed k in
          let c = counted s a st k in
          let there_is = leaving_there one s a st w.placed k in
          let fit = fits_one (after s a) st next.sentences in
          let all = afterwards (total one s st) (when (is_from from st) (enters one s a)) (when (is_state to st) (enters one s a)) (total one (after s a) st) (2 ^ 64) (omega (arith, b, c)) (omega (arith, c, there_is)) fit in
          subst (λ n. n - when (is_from from st) (enters one s a) + when (is_state to st) (enters one s a) < 2 ^ 64) (sym (h.sentences st)) all;
      words_there = λ st. let e = h.words st in let b = leaving_there words s a st w.placed k in omega (arith, e, b);
      words_fit = λ st.
          let b = balance words (λ p x. refl) s a st w.placed k in
          let there_is = leaving_there words s a st w.placed k in
          let fit = fits_words (after s a) st later.fine next.sentences in
          let all = afterwards (total words s st) (when (is_from from st) (leaves words s a)) (when (is_state to st) (enters words s a)) (total words (after s a) st) (2 ^ 64) b there_is fit in
          subst (λ n. n - when (is_from from st) (leaves words s a) + when (is_state to st) (enters words s a) < 2 ^ 64) (sym (h.words st)) all;
    }

pub stand_next : (s : Machine) (a : Act) (t u : Totals) → Reached s → IsAllowed s a → AreTotalsOf t s → IsApplied t u (move_of s a) → AreTotalsOf u (after s a)
stand_next s a t u r k h done =
    let w = well s r in
    record {
      sentences = λ st.
          let e = h.sentences st in
          let b = balance one (λ p x. refl) s a st w.placed k in
          let c = counted s a st k in
          let d = done.sentences st in
          omega (arith, b, c, d, e);
      words = λ st.
          let e = h.words st in
          let b = balance words (λ p x. refl) s a st w.placed k in
          let d = done.words st in
          omega (arith, b, d, e);
    }
