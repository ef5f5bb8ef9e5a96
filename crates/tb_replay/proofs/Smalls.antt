-- What the replay keeps of a state, after each act.
use Rattle.std.proofs.Common.{◌≡◌, ℕ, zero, suc, ◌+◌, ◌-◌, ◌<◌, ◌≤◌, List, [], ◌∷◌, ◌++◌, length, map, get_or, Some, Bool, true, false, cond, refl, sym, ◌∙◌, ap, subst, arith}
use Rattle.std.specs.Prelude.{slice_get}
use Rattle.std.specs.List.{AllByRecursion}
use Rattle.std.proofs.lemmas.Bool.{ne_eqb, eq-eqb}
use Rattle.tb_conllu.specs.Text.{BlockText}
use Rattle.tb_core.specs.declared.kinds.Event.{Event}
use Rattle.tb_core.specs.declared.kinds.State.TheVariants.{Opened}
use Rattle.tb_core.specs.Machine.{Batch, Sentence, no_batch, weigh, when, one, words, at_work, change_at}
use Rattle.tb_core.specs.Acts.{new_batch, new_sentence, new_sentences, moved}
use Rattle.tb_core.specs.Keeping.{IsPlaced}
use Rattle.tb_core.proofs.Weights.{weigh-append, weigh_changed, weight_there, weight_changed}
use Rattle.tb_replay.specs.Slots.{Slot, Mark, slot_for, slots_from, mark_of, no_slot}
use Rattle.tb_replay.specs.Playing.{slot_moved, slot_with}

pub slots_count : (n : ℕ) (bs : List Batch) (xs : List Sentence) → length (slots_from n bs xs) ≡ length bs
slots_count n [] xs = refl
slots_count n (b ∷ bs) xs = ap suc (slots_count (n + 1) bs xs)

pub slot_there : (n : ℕ) (bs : List Batch) (xs : List Sentence) (i : ℕ) → i < length bs → get_or (slots_from n bs xs) i no_slot ≡ slot_for (n + i) (get_or bs i no_batch) xs
slot_there n [] xs i l = absurd (omega arith)
slot_there n (b ∷ bs) xs zero l = let e : n ≡ n + 0 = omega arith in ap (λ k. slot_for k b xs) e
slot_there n (b ∷ bs) xs (suc i) l =
    let e : n + 1 + i ≡ n + suc i = omega arith in
    slot_there (n + 1) bs xs i (omega arith) ∙ ap (λ k. slot_for k (get_or bs i no_batch) xs) e

-- an event changes one slot, and no sums
pub slots_moved : (e : Event) (user : List ℕ) (n : ℕ) (bs : List Batch) (xs : List Sentence) (i : ℕ) → slots_from n (change_at (moved e user) bs i) xs ≡ change_at (slot_moved e user) (slots_from n bs xs) i
slots_moved e user n [] xs i = refl
slots_moved e user n (b ∷ bs) xs zero = refl
slots_moved e user n (b ∷ bs) xs (suc i) = ap (λ l. slot_for n b xs ∷ l) (slots_moved e user (n + 1) bs xs i)

-- slots none of whose sums changes
slots_same : (n : ℕ) (bs : List Batch) (xs ys : List Sentence) → ((k : ℕ) → n ≤ k → k < n + length bs → (b : Batch) → slot_for k b ys ≡ slot_for k b xs) → slots_from n bs ys ≡ slots_from n bs xs
slots_same n [] xs ys h = refl
slots_same n (b ∷ bs) xs ys h =
    ap (λ x. x ∷ slots_from (n + 1) bs ys) (h n (omega arith) (omega arith) b) ∙ ap (λ l. slot_for n b xs ∷ l) (slots_same (n + 1) bs xs ys (λ k l m c. h k (omega arith) (omega arith) c))

-- one slot whose sums change
slots_changed : (g : Slot → Slot) (n : ℕ) (bs : List Batch) (xs ys : List Sentence) (i : ℕ) → ((b : Batch) → slot_for (n + i) b ys ≡ g (slot_for (n + i) b xs))
    → ((k : ℕ) → (k ≡ n + i → ⊥) → (b : Batch) → slot_for k b ys ≡ slot_for k b xs) → slots_from n bs ys ≡ change_at g (slots_from n bs xs) i
slots_changed g n [] xs ys i h k = refl
slots_changed g n (b ∷ bs) xs ys zero h k =
    let e : n + 0 ≡ n = omega arith in
    ap (λ x. x ∷ slots_from (n + 1) bs ys) (subst (λ j. slot_for j b ys ≡ g (slot_for j b xs)) e (h b))
    ∙ ap (λ l. g (slot_for n b xs) ∷ l) (slots_same (n + 1) bs xs ys (λ j l m c. k j (λ q. omega (arith, q, l)) c))
slots_changed g n (b ∷ bs) xs ys (suc i) h k =
    let e : n + suc i ≡ n + 1 + i = omega arith in
    ap (λ x. x ∷ slots_from (n + 1) bs ys) (k n (λ q. omega (arith, q)) b)
    ∙ ap (λ l. slot_for n b xs ∷ l) (slots_changed g (n + 1) bs xs ys i (λ c. subst (λ j. slot_for j c ys ≡ g (slot_for j c xs)) e (h c)) (λ j q c. k j (λ r. q (r ∙ e)) c))

slot_is : (b : Batch) (a c w v : ℕ) → a ≡ c → w ≡ v → (let x : Slot = record { state = b.state; worker = b.worker; sentences = a; words = w } in x) ≡ record { state = b.state; worker = b.worker; sentences = c; words = v }
slot_is b a c w v e f = ap (λ (n : ℕ). let x : Slot = record { state = b.state; worker = b.worker; sentences = n; words = w } in x) e
    ∙ ap (λ (n : ℕ). let x : Slot = record { state = b.state; worker = b.worker; sentences = c; words = n } in x) f

both_same : (p : Bool) (z : ℕ) → cond p z z ≡ z
both_same true z = refl
both_same false z = refl

-- a changed sentence weighs in the slot of its batch alone
off_work : (n : ℕ) (w : Sentence → ℕ) (x : Sentence) → (x.batch ≡ n → ⊥) → at_work n w x ≡ 0
off_work n w x h = ap (λ t. cond x.pulled 0 (when t (w x))) (ne_eqb x.batch n h) ∙ both_same x.pulled 0

-- the sums of the slot of the changed sentence's batch: more by what comes, less by what goes
pub sentence_changed : (f : Sentence → Sentence) (bs : List Batch) (xs : List Sentence) (i : ℕ) (x : Sentence) (more less words_more words_less : ℕ) → slice_get xs i ≡ Some x → 1 ≤ x.batch
    → (f x).batch ≡ x.batch → at_work x.batch one x ≡ less → at_work x.batch one (f x) ≡ more → at_work x.batch words x ≡ words_less → at_work x.batch words (f x) ≡ words_more
    → slots_from 1 bs (change_at f xs i) ≡ change_at (slot_with more less words_more words_less) (slots_from 1 bs xs) (x.batch - 1)
sentence_changed f bs xs i x more less words_more words_less there placed same a b c d =
    let number : 1 + (x.batch - 1) ≡ x.batch = omega arith in
    let sum = λ (w : Sentence → ℕ) (k : ℕ). weigh_changed (at_work k w) f xs i in
    slots_changed (slot_with more less words_more words_less) 1 bs xs (change_at f xs i) (x.batch - 1)
    (λ e. subst (λ k. slot_for k e (change_at f xs i) ≡ slot_with more less words_more words_less (slot_for k e xs)) (sym number)
    (let p = sum one x.batch in
    let q = weight_there (at_work x.batch one) xs i x there ∙ a in
    let r = weight_changed (at_work x.batch one) f xs i x there ∙ b in
    let p2 = sum words x.batch in
    let q2 = weight_there (at_work x.batch words) xs i x there ∙ c in
    let r2 = weight_changed (at_work x.batch words) f xs i x there ∙ d in
    slot_is e (weigh (at_work x.batch one) (change_at f xs i)) (weigh (at_work x.batch one) xs + more - less) (weigh (at_work x.batch words) (change_at f xs i)) (weigh (at_work x.batch words) xs + words_more - words_less)
    (omega (arith, p, q, r)) (omega (arith, p2, q2, r2))))
    (λ k apart e.
    let other : x.batch ≡ k → ⊥ = λ z. apart (sym z ∙ sym number) in
    let moved_other : (f x).batch ≡ k → ⊥ = λ z. other (sym same ∙ z) in
    let p = sum one k in
    let q = weight_there (at_work k one) xs i x there ∙ off_work k one x other in
    let r = weight_changed (at_work k one) f xs i x there ∙ off_work k one (f x) moved_other in
    let p2 = sum words k in
    let q2 = weight_there (at_work k words) xs i x there ∙ off_work k words x other in
    let r2 = weight_changed (at_work k words) f xs i x there ∙ off_work k words (f x) moved_other in
    slot_is e (weigh (at_work k one) (change_at f xs i)) (weigh (at_work k one) xs) (weigh (at_work k words) (change_at f xs i)) (weigh (at_work k words) xs) (omega (arith, p, q, r)) (omega (arith, p2, q2, r2)))

-- the sums of a new batch, and of those before it
new_off : (k n : ℕ) (w : Sentence → ℕ) (user : List ℕ) (bodies : List BlockText) → (n ≡ k → ⊥) → weigh (at_work k w) (new_sentences n user bodies) ≡ 0
new_off k n w user [] h = refl
new_off k n w user (b ∷ bs) h =
    let here = off_work k w (new_sentence n user b) h in
    let rest = new_off k n w user bs h in
    omega (arith, here, rest)

new_on : (n : ℕ) (w : Sentence → ℕ) (user : List ℕ) (bodies : List BlockText) → weigh (at_work n w) (new_sentences n user bodies) ≡ weigh w (new_sentences n user bodies)
new_on n w user [] = refl
new_on n w user (b ∷ bs) =
    let x : Sentence = new_sentence n user b in
    let here : at_work n w x ≡ w x = ap (λ t. when t (w x)) (eq-eqb n n refl) in
    let rest = new_on n w user bs in
    omega (arith, here, rest)

old_off : (n : ℕ) (w : Sentence → ℕ) (xs : List Sentence) → AllByRecursion (IsPlaced n) xs → weigh (at_work (n + 1) w) xs ≡ 0
old_off n w [] h = refl
old_off n w (x ∷ xs) h = let here = off_work (n + 1) w x (λ e. omega (arith, e, h.0.1)) in let rest = old_off n w xs h.1 in omega (arith, here, rest)

slots_append : (n : ℕ) (bs : List Batch) (b : Batch) (xs : List Sentence) → slots_from n (bs ++ b ∷ []) xs ≡ slots_from n bs xs ++ slot_for (n + length bs) b xs ∷ []
slots_append n [] b xs = let e : n ≡ n + 0 = omega arith in ap (λ k. slot_for k b xs ∷ []) e
slots_append n (c ∷ bs) b xs =
    let e : n + 1 + length bs ≡ n + length (c ∷ bs) = omega arith in
    ap (λ l. slot_for n c xs ∷ l) (slots_append (n + 1) bs b xs ∙ ap (λ k. slots_from (n + 1) bs xs ++ slot_for k b xs ∷ []) e)

pub slots_imported : (bs : List Batch) (name : List ℕ) (xs : List Sentence) (user : List ℕ) (bodies : List BlockText) → AllByRecursion (IsPlaced (length bs)) xs
    → slots_from 1 (bs ++ new_batch name ∷ []) (xs ++ new_sentences (length bs + 1) user bodies)
    ≡ slots_from 1 bs xs ++ record { state = Opened; worker = []; sentences = weigh one (new_sentences (length bs + 1) user bodies); words = weigh words (new_sentences (length bs + 1) user bodies) } ∷ []
slots_imported bs name xs user bodies h =
    let b : Batch = new_batch name in
    let n = length bs + 1 in
    let news = new_sentences n user bodies in
    let number : 1 + length bs ≡ n = omega arith in
    let old = slots_same 1 bs xs (xs ++ news) (λ k l m c.
    let apart : n ≡ k → ⊥ = λ e. omega (arith, e, m) in
    let p = weigh-append (at_work k one) xs news in
    let q = new_off k n one user bodies apart in
    let p2 = weigh-append (at_work k words) xs news in
    let q2 = new_off k n words user bodies apart in
    slot_is c (weigh (at_work k one) (xs ++ news)) (weigh (at_work k one) xs) (weigh (at_work k words) (xs ++ news)) (weigh (at_work k words) xs) (omega (arith, p, q)) (omega (arith, p2, q2))) in
    let p = weigh-append (at_work n one) xs news in
    let q = old_off (length bs) one xs h in
    let r = new_on n one user bodies in
    let p2 = weigh-append (at_work n words) xs news in
    let q2 = old_off (length bs) words xs h in
    let r2 = new_on n words user bodies in
    let last = ap (λ k. slot_for k b (xs ++ news)) number
    ∙ slot_is b (weigh (at_work n one) (xs ++ news)) (weigh one news) (weigh (at_work n words) (xs ++ news)) (weigh words news) (omega (arith, p, q, r)) (omega (arith, p2, q2, r2)) in
    slots_append 1 bs b (xs ++ news) ∙ (ap (λ l. l ++ slot_for (1 + length bs) b (xs ++ news) ∷ []) old ∙ ap (λ x. slots_from 1 bs xs ++ x ∷ []) last)

-- marks: as the sentences
pub marks_changed : (f : Sentence → Sentence) (g : Mark → Mark) → (xs : List Sentence) (i : ℕ) (x : Sentence) → slice_get xs i ≡ Some x → mark_of (f x) ≡ g (mark_of x)
    → map mark_of (change_at f xs i) ≡ change_at g (map mark_of xs) i
marks_changed f g [] i x e h = refl
marks_changed f g (y ∷ ys) zero x e h = let same : x ≡ y = let d : Some y ≡ Some x = e in cc in subst (λ z. mark_of (f z) ∷ map mark_of ys ≡ g (mark_of z) ∷ map mark_of ys) same (ap (λ m. m ∷ map mark_of ys) h)
marks_changed f g (y ∷ ys) (suc i) x e h = ap (λ l. mark_of y ∷ l) (marks_changed f g ys i x e h)
