-- Each accepted command moves between the totals just what its move says.
use Rattle.std.proofs.Common.{◌≡◌, inl, inr, ℕ, ◌+◌, ◌-◌, ◌≤◌, List, [], ◌∷◌, ◌++◌, length, get_or, Bool, true, false, cond, eqb, Result, Ok, Err, refl, sym, ◌∙◌, ap, arith}
use Rattle.std.specs.List.{AllByRecursion}
use Rattle.std.proofs.Math.ListN.{get_or-append}
use Rattle.std.proofs.Math.Seq.{get_or-append_seam}
use Rattle.std.proofs.lemmas.Bool.Decides.{eqb_tells}
use Rattle.tb_core.specs.declared.kinds.State.{State}
use Rattle.tb_core.specs.declared.kinds.State.TheVariants.{Opened, Assigned, Submitted, Adjudicated, Released, Withdrawn}
use Rattle.tb_core.specs.declared.refusals.Refusal.{Refusal}
use Rattle.tb_core.specs.declared.refusals.Refusal.TheVariants.{WrongState, Pulled, NotPulled}
use Rattle.tb_core.specs.Events.{is_state, goes_to}
use Rattle.tb_core.specs.Deciding.{may_correct}
use Rattle.tb_conllu.specs.Text.{BlockText}
use Rattle.tb_core.specs.Moves.{MoveText}
use Rattle.tb_core.specs.Machine.{Batch, Sentence, Machine, no_batch, batch_with, state_in, weigh, weight_at, change_at, when, one, words, at_work}
use Rattle.tb_core.specs.Acts.{Act, importing, stepping, correcting, pulling, restoring, IsAllowed, after, move_of, leaves, enters, from_state, to_state, new_sentence, new_sentences, moved, corrected, flagged}
use Rattle.tb_core.specs.Reaching.{Reached, begun, further}
use Rattle.tb_core.specs.Totals.{in_state, total, is_from, sum_moves, IsNet}
use Rattle.tb_core.specs.Keeping.{IsPlaced}
use Rattle.tb_core.proofs.Weights.{when_zero, weigh-append, weigh-when, weigh_same, weigh_both, weigh_changed, weight_there, weight_changed, changed_there, changed_elsewhere, got}
use Rattle.tb_core.proofs.Keeps.{well}

when_plus : (t : Bool) (a b : ℕ) → when t (a + b) ≡ when t a + when t b
when_plus true a b = refl
when_plus false a b = refl

-- ---- an import

same_state : (bs cs : List Batch) (st : State) (w : Sentence → ℕ) (x : Sentence) → batch_with cs x.batch ≡ batch_with bs x.batch → in_state cs st w x ≡ in_state bs st w x
same_state bs cs st w x e = ap (λ (b : Batch). when (is_state (cond x.pulled Withdrawn b.state) st) (w x)) e

news_weigh : (bs : List Batch) (st : State) (w : Sentence → ℕ) (n : ℕ) (user : List ℕ) (bodies : List BlockText)
    → weigh (in_state bs st w) (new_sentences n user bodies) ≡ when (is_state (batch_with bs n).state st) (weigh w (new_sentences n user bodies))
news_weigh bs st w n user [] = sym (when_zero (is_state (batch_with bs n).state st))
news_weigh bs st w n user (b ∷ more) =
    let e = news_weigh bs st w n user more in
    let split = when_plus (is_state (batch_with bs n).state st) (weigh w (new_sentences n user (b ∷ []))) (weigh w (new_sentences n user more)) in
    let t = is_state (batch_with bs n).state st in
    let here = when_plus t (w (new_sentence n user b)) (weigh w (new_sentences n user more)) in
    omega (arith, e, here)

old_batch : (bs : List Batch) (b : Batch) (n : ℕ) → 1 ≤ n → n ≤ length bs → batch_with (bs ++ b ∷ []) n ≡ batch_with bs n
old_batch bs b n l h = get_or-append bs (b ∷ []) no_batch (n - 1) (omega arith)

new_batch : (bs : List Batch) (b : Batch) → batch_with (bs ++ b ∷ []) (length bs + 1) ≡ b
new_batch bs b = let e : length bs + 1 - 1 ≡ length bs = omega arith in ap (λ i. get_or (bs ++ b ∷ []) i no_batch) e ∙ get_or-append_seam bs b [] no_batch

-- ---- an event

step_point : (p t : Bool) (old new from to st : State) (n : ℕ) → (t ≡ true → (new ≡ to) × (old ≡ from)) → (t ≡ false → new ≡ old)
    → when (is_state (cond p Withdrawn new) st) n + when (is_state from st) (cond p 0 (when t n)) ≡ when (is_state (cond p Withdrawn old) st) n + when (is_state to st) (cond p 0 (when t n))
step_point true t old new from to st n f g =
    let a = when_zero (is_state from st) in let b = when_zero (is_state to st) in omega (arith, a, b)
step_point false true old new from to st n f g =
    let a = ap (λ z. when (is_state z st) n) (f refl).0 in
    let b = ap (λ z. when (is_state z st) n) (f refl).1 in
    omega (arith, a, b)
step_point false false old new from to st n f g =
    let a = when_zero (is_state from st) in let b = when_zero (is_state to st) in
    let c = ap (λ z. when (is_state z st) n) (g refl) in
    omega (arith, a, b, c)

-- ---- decisions

pub unpulled : (p : Bool) (s : State) (worker user : List ℕ) → may_correct (cond p Withdrawn s) worker user ≡ Ok tt → p ≡ false
unpulled true s worker user e = let d : Err (WrongState Withdrawn) ≡ Ok tt = e in absurd (cc)
unpulled false s worker user e = refl

abbrev pub done : Result (Unit {0}) Refusal
done = Ok tt

abbrev pub not_done : Refusal → Result (Unit {0}) Refusal
not_done e = Err e

pub pull_was : (t p : Bool) (e : Refusal) → cond t (not_done e) (cond p (not_done Pulled) done) ≡ done → p ≡ false
pull_was true p e h = let d : not_done e ≡ done = h in absurd (cc)
pull_was false true e h = let d : not_done Pulled ≡ done = h in absurd (cc)
pull_was false false e h = refl

pub restore_was : (t p : Bool) (e : Refusal) (s : State) → cond t (Err e) (cond p (Ok s) (Err NotPulled)) ≡ Ok s → p ≡ true
restore_was true p e s h = let d : Err e ≡ Ok s = h in absurd (cc)
restore_was false true e s h = refl
restore_was false false e s h = let d : Err NotPulled ≡ Ok s = h in absurd (cc)

-- a weight that a pull does not change
abbrev pub IsSteady : (Sentence → ℕ) → Type 0
IsSteady w = (p : Bool) (x : Sentence) → w (flagged p x) ≡ w x

pub balance : (w : Sentence → ℕ) → IsSteady w → (s : Machine) (a : Act) (st : State) → AllByRecursion (IsPlaced (length s.batches)) s.sentences → IsAllowed s a
    → total w (after s a) st + when (is_from (from_state s a) st) (leaves w s a) ≡ total w s st + when (is_state (to_state s a) st) (enters w s a)
balance w steady s (importing name user bodies) st h k =
    let b : Batch = record { name = name; state = Opened; worker = [] } in
    let bs = s.batches ++ b ∷ [] in
    let news = new_sentences (length s.batches + 1) user bodies in
    let parts = weigh-append (in_state bs st w) s.sentences news in
    let old = weigh_same (IsPlaced (length s.batches)) (in_state bs st w) (in_state s.batches st w)
    (λ x p. same_state s.batches bs st w x (old_batch s.batches b x.batch p.0 p.1)) s.sentences h in
    let new = news_weigh bs st w (length s.batches + 1) user bodies ∙ ap (λ (c : Batch). when (is_state c.state st) (weigh w news)) (new_batch s.batches b) in
    omega (arith, parts, old, new)
balance w steady s (stepping place event user) st h k =
    let cs = change_at (moved event user) s.batches place in
    let b = k.batch in
    let was = got s.batches place b no_batch k.there in
    let is = changed_there (moved event user) s.batches place b no_batch k.there in
    let point = λ (x : Sentence) (p : IsPlaced (length s.batches) x).
    step_point x.pulled (eqb x.batch (place + 1)) (batch_with s.batches x.batch).state (batch_with cs x.batch).state b.state (goes_to event) st (w x)
    (λ t. let e : x.batch - 1 ≡ place = elim (eqb_tells x.batch (place + 1)) [ inl y ↦ omega (arith, y.1) | inr n ↦ absurd (let d : true ≡ false = sym t ∙ n.0 in cc) ] in
    (ap (λ i. (get_or cs i no_batch).state) e ∙ ap (λ (c : Batch). c.state) is, ap (λ i. (get_or s.batches i no_batch).state) e ∙ ap (λ (c : Batch). c.state) was))
    (λ t. let apart : x.batch - 1 ≡ place → ⊥ = elim (eqb_tells x.batch (place + 1)) [ inl y ↦ absurd (let d : true ≡ false = sym y.0 ∙ t in cc) | inr n ↦ λ e. n.1 (omega (arith, e, p.0)) ] in
    ap (λ (c : Batch). c.state) (changed_elsewhere (moved event user) s.batches place (x.batch - 1) no_batch apart)) in
    let work = at_work (place + 1) w in
    let sums = weigh_both (IsPlaced (length s.batches)) (in_state cs st w) (λ x. when (is_state b.state st) (work x)) (in_state s.batches st w) (λ x. when (is_state (goes_to event) st) (work x)) point s.sentences h in
    let left = weigh-when (is_state b.state st) work s.sentences in
    let right = weigh-when (is_state (goes_to event) st) work s.sentences in
    let from = ap (λ (c : Batch). when (is_state c.state st) (weigh work s.sentences)) was in
    omega (arith, sums, left, right, from)
balance w steady s (correcting place user body) st h k =
    let x = k.sentence in
    let v = in_state s.batches st w in
    let f = corrected user body in
    let free = unpulled x.pulled (batch_with s.batches x.batch).state (batch_with s.batches x.batch).worker user k.decided in
    let number = weight_there (λ (y : Sentence). y.batch) s.sentences place x k.there in
    let change = weigh_changed v f s.sentences place in
    let out = weight_there v s.sentences place x k.there ∙ ap (λ p. when (is_state (cond p Withdrawn (batch_with s.batches x.batch).state) st) (w x)) free in
    let coming = weight_changed v f s.sentences place x k.there ∙ ap (λ p. when (is_state (cond p Withdrawn (batch_with s.batches x.batch).state) st) (w (f x))) free in
    let out_is = ap (λ i. when (is_state (batch_with s.batches i).state st) (weight_at w s.sentences place)) number ∙ ap (λ n. when (is_state (batch_with s.batches x.batch).state st) n) (weight_there w s.sentences place x k.there) in
    let coming_is = ap (λ i. when (is_state (batch_with s.batches i).state st) (weight_at w (change_at f s.sentences place) place)) number ∙ ap (λ n. when (is_state (batch_with s.batches x.batch).state st) n) (weight_changed w f s.sentences place x k.there) in
    omega (arith, change, out, coming, out_is, coming_is)
balance w steady s (pulling place user) st h k =
    let x = k.sentence in
    let v = in_state s.batches st w in
    let f = flagged true in
    let free = pull_was (is_state (batch_with s.batches x.batch).state Withdrawn) x.pulled (WrongState (batch_with s.batches x.batch).state) k.decided in
    let number = weight_there (λ (y : Sentence). y.batch) s.sentences place x k.there in
    let change = weigh_changed v f s.sentences place in
    let out = weight_there v s.sentences place x k.there ∙ ap (λ p. when (is_state (cond p Withdrawn (batch_with s.batches x.batch).state) st) (w x)) free in
    let coming = weight_changed v f s.sentences place x k.there ∙ ap (λ n. when (is_state Withdrawn st) n) (steady true x) in
    let out_is = ap (λ i. when (is_state (batch_with s.batches i).state st) (weight_at w s.sentences place)) number ∙ ap (λ n. when (is_state (batch_with s.batches x.batch).state st) n) (weight_there w s.sentences place x k.there) in
    let coming_is = ap (λ n. when (is_state Withdrawn st) n) (weight_there w s.sentences place x k.there) in
    omega (arith, change, out, coming, out_is, coming_is)
balance w steady s (restoring place user) st h k =
    let x = k.sentence in
    let v = in_state s.batches st w in
    let f = flagged false in
    let free = restore_was (is_state (batch_with s.batches x.batch).state Withdrawn) x.pulled (WrongState (batch_with s.batches x.batch).state) (batch_with s.batches x.batch).state k.decided in
    let number = weight_there (λ (y : Sentence). y.batch) s.sentences place x k.there in
    let change = weigh_changed v f s.sentences place in
    let out = weight_there v s.sentences place x k.there ∙ ap (λ p. when (is_state (cond p Withdrawn (batch_with s.batches x.batch).state) st) (w x)) free in
    let coming = weight_changed v f s.sentences place x k.there ∙ ap (λ n. when (is_state (batch_with s.batches x.batch).state st) n) (steady false x) in
    let out_is = ap (λ n. when (is_state Withdrawn st) n) (weight_there w s.sentences place x k.there) in
    let coming_is = ap (λ i. when (is_state (batch_with s.batches i).state st) (weight_at w s.sentences place)) number ∙ ap (λ n. when (is_state (batch_with s.batches x.batch).state st) n) (weight_there w s.sentences place x k.there) in
    omega (arith, change, out, coming, out_is, coming_is)

-- ---- sums over moves

sum-next : (f : MoveText → ℕ) (ms : List MoveText) (m : MoveText) → sum_moves f (ms ++ m ∷ []) ≡ sum_moves f ms + f m
sum-next f [] m = omega arith
sum-next f (x ∷ ms) m = let e = sum-next f ms m in omega (arith, e)

-- as many sentences leave a state as the move names
pub counted : (s : Machine) (a : Act) (st : State) → IsAllowed s a → when (is_from (from_state s a) st) (leaves one s a) ≡ when (is_from (from_state s a) st) (enters one s a)
counted s (importing name user bodies) st k = refl
counted s (stepping place event user) st k = refl
counted s (correcting place user body) st k =
    ap (λ n. when (is_from (from_state s (correcting place user body)) st) n) (weight_there one s.sentences place k.sentence k.there ∙ sym (weight_changed one (corrected user body) s.sentences place k.sentence k.there))
counted s (pulling place user) st k = refl
counted s (restoring place user) st k = refl

pub net : (s : Machine) (st : State) → Reached s → IsNet s st
net s st begun = record { sentences = refl; words = refl }
net s st (further t a r k) =
    let h = net t st r in
    let m = move_of t a in
    let placed = (well t r).placed in
    let some = balance one (λ p x. refl) t a st placed k in
    let all = balance words (λ p x. refl) t a st placed k in
    let same = counted t a st k in
    let out = sum-next (λ n. when (is_from n.from st) n.sentences) t.moves m in
    let coming = sum-next (λ n. when (is_state n.to st) n.sentences) t.moves m in
    let words_out = sum-next (λ n. when (is_from n.from st) n.words_out) t.moves m in
    let words_in = sum-next (λ n. when (is_state n.to st) n.words_in) t.moves m in
    record { sentences = omega (arith, h.sentences, some, same, out, coming); words = omega (arith, h.words, all, words_out, words_in) }

-- ---- each sentence is in one state

one_of_six : (st : State) → when (is_state st Opened) 1 + when (is_state st Assigned) 1 + when (is_state st Submitted) 1 + when (is_state st Adjudicated) 1 + when (is_state st Released) 1 + when (is_state st Withdrawn) 1 ≡ 1
one_of_six Opened = refl
one_of_six Assigned = refl
one_of_six Submitted = refl
one_of_six Adjudicated = refl
one_of_six Released = refl
one_of_six Withdrawn = refl

all_of_six : (bs : List Batch) (xs : List Sentence) → weigh (in_state bs Opened one) xs + weigh (in_state bs Assigned one) xs + weigh (in_state bs Submitted one) xs + weigh (in_state bs Adjudicated one) xs
    + weigh (in_state bs Released one) xs + weigh (in_state bs Withdrawn one) xs ≡ length xs
all_of_six bs [] = refl
all_of_six bs (x ∷ xs) = let here = one_of_six (state_in bs x) in let rest = all_of_six bs xs in omega (arith, here, rest)

pub six : (s : Machine) → total one s Opened + total one s Assigned + total one s Submitted + total one s Adjudicated + total one s Released + total one s Withdrawn ≡ length s.sentences
six s = all_of_six s.batches s.sentences
