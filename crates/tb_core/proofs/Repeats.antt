-- An import sent again is a repeat in every later state, with the reply that it had.
use Rattle.std.proofs.Common.{◌≡◌, ℕ, zero, suc, ◌+◌, ◌≤◌, ◌<◌, List, [], ◌∷◌, ◌++◌, length, Bool, true, false, cond, ◌&&◌, None, Some, refl, sym, ◌∙◌, ap, subst, arith, append-nil, length-append}
use Rattle.std.specs.Prelude.{slice_get, nat_eq, nat_lt}
use Rattle.std.specs.List.{AllByRecursion, flat_map}
use Rattle.std.proofs.lemmas.Bool.{ne_eqb, eq-eqb, lt-ltb, le-ltb}
use Rattle.std.proofs.lemmas.List.Concat.{flat_map-append}
use Rattle.tb_conllu.specs.Text.{BlockText, text_of}
use Rattle.tb_conllu.specs.Words.{words_of}
use Rattle.tb_core.specs.declared.kinds.State.TheVariants.{Opened}
use Rattle.tb_core.specs.declared.limits.Limits.{Limits}
use Rattle.tb_core.specs.Names.{is_name}
use Rattle.tb_core.specs.Machine.{Batch, Revision, Sentence, Machine, weigh, change_at, when, words}
use Rattle.tb_core.specs.Acts.{Act, importing, stepping, correcting, pulling, restoring, after, new_sentences, new_sentence, moved, corrected, flagged}
use Rattle.tb_core.specs.Reaching.{Reached, Later, now, later}
use Rattle.tb_core.specs.Keeping.{IsPlaced, IsWell}
use Rattle.tb_core.specs.Commands.{import_file, Reply, imported, replied, ending, HasBatch, reply_to}
use Rattle.tb_core.specs.Tests.{first_in, first_body, first_of, first_bodies, first_words, of_batch, before_batch, import_reply, RepeatsImport, reported, passed}
use Rattle.tb_core.specs.Steps.{Steps}
use Rattle.tb_core.proofs.Weights.{weigh-append, length-changed}
use Rattle.tb_core.proofs.Lists.{get_front, get_seam, get_within}
use Rattle.tb_core.proofs.Keeps.{well}
use Rattle.tb_core.proofs.Chains.{Replied, replied_repeat, replied_new, reply_of, state_of, import_replied, not_bad_name, both_true, good_user}

-- ---- a weight that only first bodies tell

-- the weight of a sentence stays whatever is done to it, and that of a later batch's sentences is 0
pub record IsLasting (n : ℕ) (v : Sentence → ℕ) : Type 0 where
  pub corrected_same : (user : List ℕ) (b : BlockText) (x : Sentence) → v (corrected user b x) ≡ v x
  pub flagged_same : (p : Bool) (x : Sentence) → v (flagged p x) ≡ v x
  pub none_new : (k : ℕ) (user : List ℕ) (b : BlockText) → n < k → v (new_sentence k user b) ≡ 0

steady : (v : Sentence → ℕ) (f : Sentence → Sentence) → ((x : Sentence) → v (f x) ≡ v x) → (xs : List Sentence) (i : ℕ) → weigh v (change_at f xs i) ≡ weigh v xs
steady v f e [] i = refl
steady v f e (x ∷ xs) zero = ap (λ n. n + weigh v xs) (e x)
steady v f e (x ∷ xs) (suc i) = ap (λ n. v x + n) (steady v f e xs i)

none_from : (n : ℕ) (v : Sentence → ℕ) → IsLasting n v → (k : ℕ) → n < k → (user : List ℕ) (bs : List BlockText) → weigh v (new_sentences k user bs) ≡ 0
none_from n v l k h user [] = refl
none_from n v l k h user (b ∷ bs) = let a = l.none_new k user b h in let r = none_from n v l k h user bs in omega (arith, a, r)

lasting : (n : ℕ) (v : Sentence → ℕ) → IsLasting n v → (s : Machine) (a : Act) → n ≤ length s.batches → weigh v (after s a).sentences ≡ weigh v s.sentences
lasting n v l s (importing name user bodies) h =
    let parts = weigh-append v s.sentences (new_sentences (length s.batches + 1) user bodies) in
    let none = none_from n v l (length s.batches + 1) (omega arith) user bodies in
    omega (arith, parts, none)
lasting n v l s (stepping place event user) h = refl
lasting n v l s (correcting place user body) h = steady v (corrected user body) (l.corrected_same user body) s.sentences place
lasting n v l s (pulling place user) h = steady v (flagged true) (l.flagged_same true) s.sentences place
lasting n v l s (restoring place user) h = steady v (flagged false) (l.flagged_same false) s.sentences place

first_kept : (rs : List Revision) (c d : Revision) → first_in (rs ++ c ∷ []) d ≡ first_in rs c
first_kept [] c d = refl
first_kept (r ∷ rs) c d = refl

words_last : (n : ℕ) → IsLasting n (first_words n)
words_last n = record {
  corrected_same = λ user b x. ap (λ (c : BlockText). when (nat_eq x.batch n) (words_of c)) (first_kept x.before x.current (record { who = user; body = b }));
  flagged_same = λ p x. refl;
  none_new = λ k user b h. ap (λ t. when t (words_of b)) (ne_eqb k n (λ e. omega (arith, e, h)));
}

count_lasts : (n : ℕ) → IsLasting n (of_batch n)
count_lasts n = record {
  corrected_same = λ user b x. refl;
  flagged_same = λ p x. refl;
  none_new = λ k user b h. ap (λ t. when t 1) (ne_eqb k n (λ e. omega (arith, e, h)));
}

before_lasts : (n : ℕ) → IsLasting n (before_batch n)
before_lasts n = record {
  corrected_same = λ user b x. refl;
  flagged_same = λ p x. refl;
  none_new = λ k user b h. ap (λ t. when t 1) (le-ltb k n (omega (arith, h)));
}

-- ---- the first bodies of a batch

steady_list : (g : Sentence → List BlockText) (f : Sentence → Sentence) → ((x : Sentence) → g (f x) ≡ g x) → (xs : List Sentence) (i : ℕ) → flat_map g (change_at f xs i) ≡ flat_map g xs
steady_list g f e [] i = refl
steady_list g f e (x ∷ xs) zero = ap (λ l. l ++ flat_map g xs) (e x)
steady_list g f e (x ∷ xs) (suc i) = ap (λ l. g x ++ l) (steady_list g f e xs i)

no_firsts : (n k : ℕ) (user : List ℕ) (bs : List BlockText) → n < k → first_bodies n (new_sentences k user bs) ≡ []
no_firsts n k user [] h = refl
no_firsts n k user (b ∷ bs) h = ap (λ t. cond t (b ∷ []) [] ++ first_bodies n (new_sentences k user bs)) (ne_eqb k n (λ e. omega (arith, e, h))) ∙ no_firsts n k user bs h

firsts_last : (n : ℕ) (s : Machine) (a : Act) → n ≤ length s.batches → first_bodies n (after s a).sentences ≡ first_bodies n s.sentences
firsts_last n s (importing name user bodies) h =
    flat_map-append (first_of n) s.sentences (new_sentences (length s.batches + 1) user bodies)
    ∙ (ap (λ l. first_bodies n s.sentences ++ l) (no_firsts n (length s.batches + 1) user bodies (omega arith)) ∙ append-nil (first_bodies n s.sentences))
firsts_last n s (stepping place event user) h = refl
firsts_last n s (correcting place user body) h =
    steady_list (first_of n) (corrected user body) (λ x. ap (λ (c : BlockText). cond (nat_eq x.batch n) (c ∷ []) []) (first_kept x.before x.current (record { who = user; body = body }))) s.sentences place
firsts_last n s (pulling place user) h = steady_list (first_of n) (flagged true) (λ x. refl) s.sentences place
firsts_last n s (restoring place user) h = steady_list (first_of n) (flagged false) (λ x. refl) s.sentences place

-- ---- a batch stays, with its name

abbrev pub IsStill : Machine → List ℕ → ℕ → Type 0
IsStill s name place = (b : Batch) × HasBatch s name place b

still_changed : (event_done : Batch → Batch) → ((b : Batch) → (event_done b).name ≡ b.name) → (bs : List Batch) (i place : ℕ) (b : Batch) → slice_get bs place ≡ Some b
    → (c : Batch) × (slice_get (change_at event_done bs i) place ≡ Some c) × (c.name ≡ b.name)
still_changed f e [] i place b h = let d : None ≡ Some b = h in absurd (cc)
still_changed f e (z ∷ zs) zero zero b h = let same : z ≡ b = let one : Some z ≡ Some b = h in cc in (f z, refl, e z ∙ ap (λ (c : Batch). c.name) same)
still_changed f e (z ∷ zs) zero (suc place) b h = (b, h, refl)
still_changed f e (z ∷ zs) (suc i) zero b h = (b, h, refl)
still_changed f e (z ∷ zs) (suc i) (suc place) b h = still_changed f e zs i place b h

still : (s : Machine) (a : Act) (name : List ℕ) (place : ℕ) → IsStill s name place → IsStill (after s a) name place
still s (importing new user bodies) name place h = (h.0, record { there = get_front s.batches (record { name = new; state = Opened; worker = [] } ∷ []) place h.0 h.1.there; named = h.1.named })
still s (stepping i event user) name place h =
    let c = still_changed (moved event user) (λ b. refl) s.batches i place h.0 h.1.there in
    (c.0, record { there = c.1; named = c.2 ∙ h.1.named })
still s (correcting i user body) name place h = (h.0, record { there = h.1.there; named = h.1.named })
still s (pulling i user) name place h = (h.0, record { there = h.1.there; named = h.1.named })
still s (restoring i user) name place h = (h.0, record { there = h.1.there; named = h.1.named })

-- ---- what an import leaves, and what later states keep of it

pub record Shows (s : Machine) (name : List ℕ) (place : ℕ) (bs : List BlockText) (r : Reply) : Type 0 where
  pub within : place + 1 ≤ length s.batches
  pub stands : IsStill s name place
  pub firsts : first_bodies (place + 1) s.sentences ≡ bs
  pub reply : import_reply s (place + 1) ≡ r

batches_grow : (s : Machine) (a : Act) → length s.batches ≤ length (after s a).batches
batches_grow s (importing name user bodies) = let e = length-append s.batches (record { name = name; state = Opened; worker = [] } ∷ []) in omega (arith, e)
batches_grow s (stepping place event user) = let e = length-changed (moved event user) s.batches place in omega (arith, e)
batches_grow s (correcting place user body) = omega arith
batches_grow s (pulling place user) = omega arith
batches_grow s (restoring place user) = omega arith

abbrev the_reply : ℕ → ℕ → ℕ → ℕ → Reply
the_reply n first sentences words = imported (record { batch = n; first = first + 1; sentences = sentences; words = words })

reply_is : (n a b c d e f : ℕ) → a ≡ b → c ≡ d → e ≡ f → the_reply n a c e ≡ the_reply n b d f
reply_is n a b c d e f p q r = ap (λ z. the_reply n z c e) p ∙ (ap (λ z. the_reply n b z e) q ∙ ap (λ z. the_reply n b d z) r)

shown_on : (s : Machine) (a : Act) (name : List ℕ) (place : ℕ) (bs : List BlockText) (r : Reply) → Shows s name place bs r → Shows (after s a) name place bs r
shown_on s a name place bs r h =
    let grown = batches_grow s a in
    let n = place + 1 in
    record {
      within = omega (arith, h.within, grown);
      stands = still s a name place h.stands;
      firsts = firsts_last n s a h.within ∙ h.firsts;
      reply = reply_is n (weigh (before_batch n) (after s a).sentences) (weigh (before_batch n) s.sentences)
          (weigh (of_batch n) (after s a).sentences) (weigh (of_batch n) s.sentences)
          (weigh (first_words n) (after s a).sentences) (weigh (first_words n) s.sentences)
          (lasting n (before_batch n) (before_lasts n) s a h.within) (lasting n (of_batch n) (count_lasts n) s a h.within) (lasting n (first_words n) (words_last n) s a h.within) ∙ h.reply;
    }

shown_later : (s u : Machine) (name : List ℕ) (place : ℕ) (bs : List BlockText) (r : Reply) → Later s u → Shows s name place bs r → Shows u name place bs r
shown_later s u name place bs r now h = h
shown_later s u name place bs r (later t a l k) h = shown_on t a name place bs r (shown_later s t name place bs r l h)

-- ---- sums over old and new sentences

old_none : (n k : ℕ) (v : Sentence → ℕ) → ((x : Sentence) → IsPlaced k x → v x ≡ 0) → (xs : List Sentence) → AllByRecursion (IsPlaced k) xs → weigh v xs ≡ 0
old_none n k v e [] h = refl
old_none n k v e (x ∷ xs) h = let a = e x h.0 in let b = old_none n k v e xs h.1 in omega (arith, a, b)

old_all : (k : ℕ) (xs : List Sentence) → AllByRecursion (IsPlaced k) xs → weigh (before_batch (k + 1)) xs ≡ length xs
old_all k [] h = refl
old_all k (x ∷ xs) h =
    let a : when (nat_lt x.batch (k + 1)) 1 ≡ 1 = ap (λ t. when t 1) (lt-ltb x.batch (k + 1) (omega (arith, h.0.1))) in
    let b = old_all k xs h.1 in omega (arith, a, b)

old_no_firsts : (k : ℕ) (xs : List Sentence) → AllByRecursion (IsPlaced k) xs → first_bodies (k + 1) xs ≡ []
old_no_firsts k [] h = refl
old_no_firsts k (x ∷ xs) h = ap (λ t. cond t (first_body x ∷ []) [] ++ first_bodies (k + 1) xs) (ne_eqb x.batch (k + 1) (λ e. omega (arith, e, h.0.1))) ∙ old_no_firsts k xs h.1

new_firsts : (n : ℕ) (user : List ℕ) (bs : List BlockText) → first_bodies n (new_sentences n user bs) ≡ bs
new_firsts n user [] = refl
new_firsts n user (b ∷ bs) = ap (λ t. cond t (b ∷ []) [] ++ first_bodies n (new_sentences n user bs)) (eq-eqb n n refl) ∙ ap (λ l. b ∷ l) (new_firsts n user bs)

new_before : (n : ℕ) (user : List ℕ) (bs : List BlockText) → weigh (before_batch n) (new_sentences n user bs) ≡ 0
new_before n user [] = refl
new_before n user (b ∷ bs) =
    let a : when (nat_lt n n) 1 ≡ 0 = ap (λ t. when t 1) (le-ltb n n (omega arith)) in
    let r = new_before n user bs in omega (arith, a, r)

new_count : (n : ℕ) (user : List ℕ) (bs : List BlockText) → weigh (of_batch n) (new_sentences n user bs) ≡ length bs
new_count n user [] = refl
new_count n user (b ∷ bs) =
    let a : when (nat_eq n n) 1 ≡ 1 = ap (λ t. when t 1) (eq-eqb n n refl) in
    let r = new_count n user bs in omega (arith, a, r)

new_words : (n : ℕ) (user : List ℕ) (bs : List BlockText) → weigh (first_words n) (new_sentences n user bs) ≡ weigh words (new_sentences n user bs)
new_words n user [] = refl
new_words n user (b ∷ bs) =
    let a : when (nat_eq n n) (words_of b) ≡ words_of b = ap (λ t. when t (words_of b)) (eq-eqb n n refl) in
    let r = new_words n user bs in omega (arith, a, r)

shown_first : (s : Machine) (name user : List ℕ) (bs : List BlockText) → IsWell s
    → Shows (after s (importing name user bs)) name (length s.batches) bs (reply_to s (importing name user bs))
shown_first s name user bs h =
    let k = length s.batches in
    let n = k + 1 in
    let news = new_sentences n user bs in
    let b : Batch = record { name = name; state = Opened; worker = [] } in
    let size = length-append s.batches (b ∷ []) in
    let apart = λ (x : Sentence) (p : IsPlaced k x). ne_eqb x.batch n (λ e. omega (arith, e, p.1)) in
    let a0 = weigh-append (before_batch n) s.sentences news in
    let a1 = old_all k s.sentences h.placed in
    let a2 = new_before n user bs in
    let b0 = weigh-append (of_batch n) s.sentences news in
    let b1 = old_none n k (of_batch n) (λ x p. ap (λ t. when t 1) (apart x p)) s.sentences h.placed in
    let b2 = new_count n user bs in
    let c0 = weigh-append (first_words n) s.sentences news in
    let c1 = old_none n k (first_words n) (λ x p. ap (λ t. when t (words_of (first_body x))) (apart x p)) s.sentences h.placed in
    let c2 = new_words n user bs in
    record {
      within = omega (arith, size);
      stands = (b, record { there = get_seam s.batches b; named = refl });
      firsts = flat_map-append (first_of n) s.sentences news ∙ (ap (λ l. l ++ first_bodies n news) (old_no_firsts k s.sentences h.placed) ∙ new_firsts n user bs);
      reply = reply_is n (weigh (before_batch n) (s.sentences ++ news)) (length s.sentences) (weigh (of_batch n) (s.sentences ++ news)) (length bs)
          (weigh (first_words n) (s.sentences ++ news)) (weigh words news) (omega (arith, a0, a1, a2)) (omega (arith, b0, b1, b2)) (omega (arith, c0, c1, c2));
    }

-- what it shows is answered as a repeat
shown_repeat : (u : Machine) (name body : List ℕ) (place : ℕ) (bs : List BlockText) (r : Reply) → body ≡ text_of bs → Shows u name place bs r → RepeatsImport u name body (ending (replied r) u)
shown_repeat u name body place bs r e h = (place, h.stands.0, h.stands.1, e ∙ ap text_of (sym h.firsts), ap (λ x. ending (replied x) u) (sym h.reply))

-- ---- an import that was answered, sent again

-- what the state after it shows
abbrev ShowsBody : Machine → List ℕ → List ℕ → Reply → Type 0
ShowsBody t name body r = (place : ℕ) × (bs : List BlockText) × (body ≡ text_of bs) × Shows t name place bs r

shows_new : (s : Machine) (name user body : List ℕ) (r : Reply) (t : Machine) → IsWell s → (a : Act) → (bs : List BlockText) → body ≡ text_of bs → a ≡ importing name user bs → r ≡ reply_to s a → t ≡ after s a → ShowsBody t name body r
shows_new s name user body r t w a bs text is reply next =
    let first = shown_first s name user bs w in
    let act : reply_to s (importing name user bs) ≡ r = ap (reply_to s) (sym is) ∙ sym reply in
    let then : after s (importing name user bs) ≡ t = ap (after s) (sym is) ∙ sym next in
    (length s.batches, bs, text, subst (λ q. Shows t name (length s.batches) bs q) act (subst (λ v. Shows v name (length s.batches) bs (reply_to s (importing name user bs))) then first))

shows_old : (s : Machine) (name body : List ℕ) (r : Reply) (t : Machine) (place : ℕ) (b : Batch) → HasBatch s name place b → body ≡ text_of (first_bodies (place + 1) s.sentences) → r ≡ import_reply s (place + 1) → t ≡ s → ShowsBody t name body r
shows_old s name body r t place b has text reply same =
    let inside = get_within s.batches place b has.there in
    let here : Shows s name place (first_bodies (place + 1) s.sentences) r = record { within = omega (arith, inside); stands = (b, has); firsts = refl; reply = sym reply } in
    (place, first_bodies (place + 1) s.sentences, text, subst (λ v. Shows v name place (first_bodies (place + 1) s.sentences) r) (sym same) here)

shows_after : (s : Machine) (name user body : List ℕ) (r : Reply) (t : Machine) → IsWell s → Replied s (import_file name user body) (RepeatsImport s name body) (ending (replied r) t) → ShowsBody t name body r
shows_after s name user body r t w (replied_repeat h) = shows_old s name body r t h.0 h.1 h.2 h.3 (reply_of r (import_reply s (h.0 + 1)) t s h.4) (state_of (replied r) (replied (import_reply s (h.0 + 1))) t s h.4)
shows_after s name user body r t w (replied_new h) =
    shows_new s name user body r t w h.0 h.1.0 h.1.1.text h.1.2 (reply_of r (reply_to s h.0) t (after s h.0) h.3) (state_of (replied r) (replied (reply_to s h.0)) t (after s h.0) h.3)

pub import_repeats : (l k : Limits) (s t u : Machine) (name user other body : List ℕ) (r : Reply) → Reached s → Steps l s (import_file name user body) (replied r) t → Later t u → is_name other ≡ true
    → Steps k u (import_file name other body) (replied r) u
import_repeats l k s t u name user other body r reached steps on good =
    let answered = import_replied l s name user body r t steps in
    let shown = shows_after s name user body r t (well s reached) answered.1 in
    passed (not_bad_name u (is_name name && is_name other) (both_true (is_name name) (is_name other) (good_user (is_name name) (is_name user) answered.0) good))
    (reported (shown_repeat u name body shown.0 shown.1 r shown.2 (shown_later t u name shown.0 shown.1 r on shown.3)))
