-- What every reached state keeps beyond the laws of the machine: good names of users, and bounds of what moves tell.
use Rattle.std.proofs.Common.{◌≡◌, ◌⊎◌, inl, inr, ℕ, zero, suc, ◌+◌, ◌*◌, ◌≤◌, List, [], ◌∷◌, ◌++◌, length, Bool, true, false, cond, Some, refl, sym, subst, arith, length-append, eqb, slice_get}
use Rattle.std.specs.List.{AllByRecursion}
use Rattle.tb_conllu.specs.Text.{BlockText}
use Rattle.tb_core.specs.declared.kinds.Worker.{Worker}
use Rattle.tb_core.specs.declared.kinds.Worker.TheVariants.{Keep, Caller, Cleared}
use Rattle.tb_core.specs.Moves.{MoveText}
use Rattle.tb_core.specs.Names.{is_name}
use Rattle.tb_core.specs.Events.{makes_worker}
use Rattle.tb_core.specs.Machine.{Batch, Revision, Sentence, Machine, revisions, rev, weigh, weight_at, change_at, when, one, words, at_work}
use Rattle.tb_core.specs.Acts.{Act, importing, stepping, correcting, pulling, restoring, IsAllowed, with_worker, after, batches_after, sentences_after, move_of, leaves, enters, batch_number, sent_number, user_of, moved, corrected, flagged, new_batch, new_sentences}
use Rattle.tb_core.specs.Reaching.{Reached, begun, further}
use Rattle.tb_core.specs.Keeping.{IsPlaced, IsFine, IsWell}
use Rattle.tb_core.proofs.Weights.{weigh-append, weight_there, length-changed, all_append, all_mapped, all_changed, all_there}
use Rattle.tb_core.proofs.Lists.{get_within}
use Rattle.tb_core.proofs.Stored.{few_words}
use Rattle.tb_core.proofs.Keeps.{well}

abbrev pub IsGood : List ℕ → Type 0
IsGood t = is_name t ≡ true

-- the move is of one of so many batches and sentences, and moves no more than these
pub record IsWithin (n m : ℕ) (x : MoveText) : Type 0 where
  pub batch : x.batch ≤ n
  pub sent : x.sent ≤ m
  pub sentences : x.sentences ≤ m
  pub words_out : x.words_out ≤ 1000 * m
  pub words_in : x.words_in ≤ 1000 * m
  pub who : IsGood x.who

abbrev pub HasGoodWorker : Batch → Type 0
HasGoodWorker b = (b.worker ≡ []) ⊎ IsGood b.worker

abbrev pub IsGoodRevision : Revision → Type 0
IsGoodRevision r = IsGood r.who

abbrev pub HasGoodUsers : Sentence → Type 0
HasGoodUsers x = AllByRecursion IsGoodRevision (revisions x)

abbrev pub IsRevisedBelow : ℕ → Sentence → Type 0
IsRevisedBelow n x = rev x ≤ n

pub record IsSound (s : Machine) : Type 0 where
  pub few : length s.batches ≤ length s.moves
  pub workers : AllByRecursion HasGoodWorker s.batches
  pub revs : AllByRecursion (IsRevisedBelow (length s.moves)) s.sentences
  pub users : AllByRecursion HasGoodUsers s.sentences
  pub moves : AllByRecursion (IsWithin (length s.batches) (length s.sentences)) s.moves

-- ---- what there is becomes more

more_batches : (s : Machine) (a : Act) → length s.batches ≤ length (batches_after s a)
more_batches s (importing name user bodies) = let e = length-append s.batches (new_batch name ∷ []) in omega (arith, e)
more_batches s (stepping place event user) = let e = length-changed (moved event user) s.batches place in omega (arith, e)
more_batches s (correcting place user body) = omega arith
more_batches s (pulling place user) = omega arith
more_batches s (restoring place user) = omega arith

more_sentences : (s : Machine) (a : Act) → length s.sentences ≤ length (sentences_after s a)
more_sentences s (importing name user bodies) = let e = length-append s.sentences (new_sentences (length s.batches + 1) user bodies) in omega (arith, e)
more_sentences s (stepping place event user) = omega arith
more_sentences s (correcting place user body) = let e = length-changed (corrected user body) s.sentences place in omega (arith, e)
more_sentences s (pulling place user) = let e = length-changed (flagged true) s.sentences place in omega (arith, e)
more_sentences s (restoring place user) = let e = length-changed (flagged false) s.sentences place in omega (arith, e)

within_more : (n m i j : ℕ) (x : MoveText) → n ≤ i → m ≤ j → IsWithin n m x → IsWithin i j x
within_more n m i j x p q h = record {
  batch = omega (arith, h.batch, p);
  sent = omega (arith, h.sent, q);
  sentences = omega (arith, h.sentences, q);
  words_out = omega (arith, h.words_out, q);
  words_in = omega (arith, h.words_in, q);
  who = h.who;
}

-- ---- sums of weights

pub part_below : (w : Sentence → ℕ) (xs : List Sentence) (i : ℕ) → weight_at w xs i ≤ weigh w xs
part_below w [] i = omega arith
part_below w (x ∷ xs) zero = omega arith
part_below w (x ∷ xs) (suc i) = let e = part_below w xs i in omega (arith, e)

when_below : (p t : Bool) (n : ℕ) → cond p 0 (when t n) ≤ n
when_below true t n = omega arith
when_below false true n = omega arith
when_below false false n = omega arith

work_below : (n : ℕ) (w : Sentence → ℕ) (xs : List Sentence) → weigh (at_work n w) xs ≤ weigh w xs
work_below n w [] = omega arith
work_below n w (x ∷ xs) = let a = when_below x.pulled (eqb x.batch n) (w x) in let b = work_below n w xs in omega (arith, a, b)

pub weigh_ones : (xs : List Sentence) → weigh one xs ≡ length xs
weigh_ones [] = refl
weigh_ones (x ∷ xs) = let e = weigh_ones xs in omega (arith, e)

pub weigh_words : (xs : List Sentence) → AllByRecursion IsFine xs → weigh words xs ≤ 1000 * length xs
weigh_words [] h = omega arith
weigh_words (x ∷ xs) h = let a = few_words x h.0 in let b = weigh_words xs h.1 in omega (arith, a, b)

-- what a move tells is no more than a bound of the sums before and after it
leaves_below : (w : Sentence → ℕ) (s : Machine) (a : Act) (n : ℕ) → weigh w s.sentences ≤ n → leaves w s a ≤ n
leaves_below w s (importing name user bodies) n h = omega arith
leaves_below w s (stepping place event user) n h = let e = work_below (place + 1) w s.sentences in omega (arith, e, h)
leaves_below w s (correcting place user body) n h = let e = part_below w s.sentences place in omega (arith, e, h)
leaves_below w s (pulling place user) n h = let e = part_below w s.sentences place in omega (arith, e, h)
leaves_below w s (restoring place user) n h = let e = part_below w s.sentences place in omega (arith, e, h)

enters_below : (w : Sentence → ℕ) (s : Machine) (a : Act) (n : ℕ) → weigh w s.sentences ≤ n → weigh w (sentences_after s a) ≤ n → enters w s a ≤ n
enters_below w s (importing name user bodies) n h k = let e = weigh-append w s.sentences (new_sentences (length s.batches + 1) user bodies) in omega (arith, e, k)
enters_below w s (stepping place event user) n h k = let e = work_below (place + 1) w s.sentences in omega (arith, e, h)
enters_below w s (correcting place user body) n h k = let e = part_below w (change_at (corrected user body) s.sentences place) place in omega (arith, e, k)
enters_below w s (pulling place user) n h k = let e = part_below w s.sentences place in omega (arith, e, h)
enters_below w s (restoring place user) n h k = let e = part_below w s.sentences place in omega (arith, e, h)

-- ---- the move of an act

batch_within : (s : Machine) (place : ℕ) (x : Sentence) → IsWell s → slice_get s.sentences place ≡ Some x → weight_at (λ (y : Sentence). y.batch) s.sentences place ≤ length s.batches
batch_within s place x w there =
    let number = weight_there (λ (y : Sentence). y.batch) s.sentences place x there in
    let placed = all_there (IsPlaced (length s.batches)) s.sentences place x there w.placed in
    omega (arith, number, placed.1)

number_within : (s : Machine) (a : Act) → IsWell s → IsAllowed s a → batch_number s a ≤ length (batches_after s a)
number_within s (importing name user bodies) w k = let e = length-append s.batches (new_batch name ∷ []) in omega (arith, e)
number_within s (stepping place event user) w k = let e = length-changed (moved event user) s.batches place in let g = get_within s.batches place k.batch k.there in omega (arith, e, g)
number_within s (correcting place user body) w k = batch_within s place k.sentence w k.there
number_within s (pulling place user) w k = batch_within s place k.sentence w k.there
number_within s (restoring place user) w k = batch_within s place k.sentence w k.there

sent_within : (s : Machine) (a : Act) → IsAllowed s a → sent_number a ≤ length s.sentences
sent_within s (importing name user bodies) k = omega arith
sent_within s (stepping place event user) k = omega arith
sent_within s (correcting place user body) k = let g = get_within s.sentences place k.sentence k.there in omega (arith, g)
sent_within s (pulling place user) k = let g = get_within s.sentences place k.sentence k.there in omega (arith, g)
sent_within s (restoring place user) k = let g = get_within s.sentences place k.sentence k.there in omega (arith, g)

good_user : (s : Machine) (a : Act) → IsAllowed s a → IsGood (user_of a)
good_user s (importing name user bodies) k = k.by
good_user s (stepping place event user) k = k.by
good_user s (correcting place user body) k = k.by
good_user s (pulling place user) k = k.by
good_user s (restoring place user) k = k.by

move_within : (s : Machine) (a : Act) → IsWell s → IsWell (after s a) → IsAllowed s a → IsWithin (length (batches_after s a)) (length (sentences_after s a)) (move_of s a)
move_within s a w v k =
    let m = length (sentences_after s a) in
    let more = more_sentences s a in
    let ones = weigh_ones s.sentences in
    let ones_after = weigh_ones (sentences_after s a) in
    let all = weigh_words s.sentences w.fine in
    let all_after = weigh_words (sentences_after s a) v.fine in
    let sent = sent_within s a k in
    record {
      batch = number_within s a w k;
      sent = omega (arith, sent, more);
      sentences = enters_below one s a m (omega (arith, ones, more)) (omega (arith, ones_after));
      words_out = leaves_below words s a (1000 * m) (omega (arith, all, more));
      words_in = enters_below words s a (1000 * m) (omega (arith, all, more)) all_after;
      who = good_user s a k;
    }

-- ---- each part after an act

few_after : (s : Machine) (a : Act) → length s.batches ≤ length s.moves → length (batches_after s a) ≤ length s.moves + 1
few_after s (importing name user bodies) h = let e = length-append s.batches (new_batch name ∷ []) in omega (arith, e, h)
few_after s (stepping place event user) h = let e = length-changed (moved event user) s.batches place in omega (arith, e, h)
few_after s (correcting place user body) h = omega (arith, h)
few_after s (pulling place user) h = omega (arith, h)
few_after s (restoring place user) h = omega (arith, h)

good_worker : (w : Worker) (user old : List ℕ) → IsGood user → (old ≡ []) ⊎ IsGood old → (with_worker w user old ≡ []) ⊎ IsGood (with_worker w user old)
good_worker Keep user old by h = h
good_worker Caller user old by h = inr by
good_worker Cleared user old by h = inl refl

workers_after : (s : Machine) (a : Act) → IsAllowed s a → AllByRecursion HasGoodWorker s.batches → AllByRecursion HasGoodWorker (batches_after s a)
workers_after s (importing name user bodies) k h = all_append HasGoodWorker s.batches (new_batch name ∷ []) h (inl refl, tt)
workers_after s (stepping place event user) k h = all_changed HasGoodWorker (moved event user) (λ b p. good_worker (makes_worker event) user b.worker k.by p) s.batches place h
workers_after s (correcting place user body) k h = h
workers_after s (pulling place user) k h = h
workers_after s (restoring place user) k h = h

changed_to : (P Q : Sentence → Type 0) (f : Sentence → Sentence) → ((x : Sentence) → P x → Q x) → ((x : Sentence) → P x → Q (f x)) → (xs : List Sentence) (i : ℕ) → AllByRecursion P xs → AllByRecursion Q (change_at f xs i)
changed_to P Q f a b [] i h = tt
changed_to P Q f a b (x ∷ xs) zero h = (b x h.0, all_mapped P Q a xs h.1)
changed_to P Q f a b (x ∷ xs) (suc i) h = (a x h.0, changed_to P Q f a b xs i h.1)

news_revised : (n k : ℕ) (user : List ℕ) (bodies : List BlockText) → 1 ≤ n → AllByRecursion (IsRevisedBelow n) (new_sentences k user bodies)
news_revised n k user [] h = tt
news_revised n k user (b ∷ bs) h = (h, news_revised n k user bs h)

news_good : (k : ℕ) (user : List ℕ) (bodies : List BlockText) → IsGood user → AllByRecursion HasGoodUsers (new_sentences k user bodies)
news_good k user [] h = tt
news_good k user (b ∷ bs) h = ((h, tt), news_good k user bs h)

one_above : (n : ℕ) (x : Sentence) → IsRevisedBelow n x → IsRevisedBelow (n + 1) x
one_above n x h = omega (arith, h)

revs_after : (s : Machine) (a : Act) (n : ℕ) → AllByRecursion (IsRevisedBelow n) s.sentences → AllByRecursion (IsRevisedBelow (n + 1)) (sentences_after s a)
revs_after s (importing name user bodies) n h =
    all_append (IsRevisedBelow (n + 1)) s.sentences (new_sentences (length s.batches + 1) user bodies) (all_mapped (IsRevisedBelow n) (IsRevisedBelow (n + 1)) (one_above n) s.sentences h) (news_revised (n + 1) (length s.batches + 1) user bodies (omega arith))
revs_after s (stepping place event user) n h = all_mapped (IsRevisedBelow n) (IsRevisedBelow (n + 1)) (one_above n) s.sentences h
revs_after s (correcting place user body) n h =
    changed_to (IsRevisedBelow n) (IsRevisedBelow (n + 1)) (corrected user body) (one_above n) (λ x p. let e = length-append x.before (x.current ∷ []) in omega (arith, e, p)) s.sentences place h
revs_after s (pulling place user) n h = changed_to (IsRevisedBelow n) (IsRevisedBelow (n + 1)) (flagged true) (one_above n) (one_above n) s.sentences place h
revs_after s (restoring place user) n h = changed_to (IsRevisedBelow n) (IsRevisedBelow (n + 1)) (flagged false) (one_above n) (one_above n) s.sentences place h

users_after : (s : Machine) (a : Act) → IsAllowed s a → AllByRecursion HasGoodUsers s.sentences → AllByRecursion HasGoodUsers (sentences_after s a)
users_after s (importing name user bodies) k h = all_append HasGoodUsers s.sentences (new_sentences (length s.batches + 1) user bodies) h (news_good (length s.batches + 1) user bodies k.by)
users_after s (stepping place event user) k h = h
users_after s (correcting place user body) k h =
    let z : Revision = record { who = user; body = body } in
    all_changed HasGoodUsers (corrected user body) (λ x p. all_append IsGoodRevision (revisions x) (z ∷ []) p (k.by, tt)) s.sentences place h
users_after s (pulling place user) k h = all_changed HasGoodUsers (flagged true) (λ x p. p) s.sentences place h
users_after s (restoring place user) k h = all_changed HasGoodUsers (flagged false) (λ x p. p) s.sentences place h

sound_after : (s : Machine) (a : Act) → IsWell s → IsWell (after s a) → IsAllowed s a → IsSound s → IsSound (after s a)
sound_after s a w v k h =
    let m = move_of s a in
    let size : length (s.moves ++ m ∷ []) ≡ length s.moves + 1 = length-append s.moves (m ∷ []) in
    let n = length (batches_after s a) in
    let i = length (sentences_after s a) in
    let few = few_after s a h.few in
    record {
      few = omega (arith, few, size);
      workers = workers_after s a k h.workers;
      revs = subst (λ j. AllByRecursion (IsRevisedBelow j) (sentences_after s a)) (sym size) (revs_after s a (length s.moves) h.revs);
      users = users_after s a k h.users;
      moves = all_append (IsWithin n i) s.moves (m ∷ [])
          (all_mapped (IsWithin (length s.batches) (length s.sentences)) (IsWithin n i) (λ x p. within_more (length s.batches) (length s.sentences) n i x (more_batches s a) (more_sentences s a) p) s.moves h.moves) (move_within s a w v k, tt);
    }

pub sound : (s : Machine) → Reached s → IsSound s
sound s begun = record { few = omega arith; workers = tt; revs = tt; users = tt; moves = tt }
sound s (further t a r k) = sound_after t a (well t r) (well (after t a) (further t a r k)) k (sound t r)
