-- Each revision of a sentence has its move: the import of its batch, or a correction, by the user who wrote it.
use Rattle.std.proofs.Common.{◌≡◌, ℕ, zero, suc, ◌+◌, ◌-◌, ◌<◌, ◌≤◌, List, [], ◌∷◌, ◌++◌, map, length, Bool, true, false, cond, nat_eq, Some, None, slice_get, refl, sym, ap, ap₂, subst, ◌∙◌, arith, append-nil, length-append}
use Rattle.std.specs.List.{AllByRecursion}
use Rattle.std.proofs.lemmas.Bool.Decides.{nat_tests}
use Rattle.std.proofs.lemmas.List.{length-map, map-append}
use Rattle.std.proofs.lemmas.List.Elements.{filter-append}
use Rattle.tb_conllu.specs.Text.{BlockText}
use Rattle.tb_core.specs.declared.kinds.Kind.{Kind}
use Rattle.tb_core.specs.declared.kinds.Kind.TheVariants.{Import, Step, Correct, Pull, Restore}
use Rattle.tb_core.specs.Machine.{Revision, Sentence, Machine, revisions, rev, change_at}
use Rattle.tb_core.specs.Moves.{MoveText}
use Rattle.tb_core.specs.Acts.{Act, importing, stepping, correcting, pulling, restoring, IsAllowed, after, move_of, new_batch, new_sentences, corrected, flagged, moved, batch_at}
use Rattle.tb_core.specs.Keeping.{IsPlaced}
use Rattle.tb_core.specs.Reaching.{Reached, begun, further}
use Rattle.tb_core.proofs.Keeps.{well}
use Rattle.tb_core.proofs.Lists.{get_within}
use Rattle.tb_core.proofs.Weights.{length-changed, all_append, all_mapped, all_there, weight_there}
use Rattle.tb_lists.specs.Revisions.{makes, is_maker, makers, revision_line, beside, revision_lines}
use Rattle.tb_lists.specs.Made.{line_by, lines_by}

-- ---- one move more

abbrev by : List Revision → List (List ℕ)
by rs = map (λ (r : Revision). r.who) rs

abbrev who_of : List MoveText → List (List ℕ)
who_of ms = map (λ (m : MoveText). m.who) ms

-- the users who wrote the revisions are those of the moves that made them
abbrev IsMade : List MoveText → ℕ → Sentence → Type 0
IsMade ms n x = by (revisions x) ≡ who_of (makers n x.batch ms)

-- of each sentence, the first of which has the number n
abbrev AreMade : List MoveText → ℕ → List Sentence → Type 0
AreMade ms n [] = Unit {0}
AreMade ms n (x ∷ xs) = IsMade ms n x × AreMade ms (n + 1) xs

-- a move that makes none of its revisions
makers_same : (n b : ℕ) (ms : List MoveText) (m : MoveText) → is_maker n b m ≡ false → makers n b (ms ++ m ∷ []) ≡ makers n b ms
makers_same n b ms m none =
    filter-append (is_maker n b) ms (m ∷ []) ∙ ap (λ t. makers n b ms ++ cond t (m ∷ []) []) none ∙ append-nil (makers n b ms)

-- a move that makes one
makers_more : (n b : ℕ) (ms : List MoveText) (m : MoveText) → is_maker n b m ≡ true → makers n b (ms ++ m ∷ []) ≡ makers n b ms ++ m ∷ []
makers_more n b ms m one = filter-append (is_maker n b) ms (m ∷ []) ∙ ap (λ t. makers n b ms ++ cond t (m ∷ []) []) one

-- moves that name no batch and no sentence beyond these
abbrev IsWithin : (batches sentences : ℕ) → MoveText → Type 0
IsWithin b n m = (m.batch ≤ b) × (m.sent ≤ n)

-- none of these makes a revision of a sentence and a batch beyond them
no_maker : (b n : ℕ) (batch sentence : ℕ) → b < batch → n < sentence → (m : MoveText) → IsWithin b n m → is_maker sentence batch m ≡ false
no_maker b n batch sentence high far m within =
    let first : nat_eq m.batch batch ≡ false = grind (arith, nat_tests, high, within.0) in
    let second : nat_eq m.sent sentence ≡ false = grind (arith, nat_tests, far, within.1) in
    ap (λ t. makes m.kind t (nat_eq m.sent sentence)) first ∙ ap (makes m.kind false) second ∙ neither m.kind
  where
    neither : (k : Kind) → makes k false false ≡ false
    neither Import = refl
    neither (Step event) = refl
    neither Correct = refl
    neither Pull = refl
    neither Restore = refl

no_makers : (b n : ℕ) (batch sentence : ℕ) → b < batch → n < sentence → (ms : List MoveText) → AllByRecursion (IsWithin b n) ms → makers sentence batch ms ≡ []
no_makers b n batch sentence high far [] h = refl
no_makers b n batch sentence high far (m ∷ ms) h =
    ap (λ t. cond t (m ∷ makers sentence batch ms) (makers sentence batch ms)) (no_maker b n batch sentence high far m h.0) ∙ no_makers b n batch sentence high far ms h.1

-- ---- all sentences

made_on : (P : Sentence → Type 0) (ms more : List MoveText) (n : ℕ) (xs : List Sentence) → ((k : ℕ) (x : Sentence) → n ≤ k → k < n + length xs → P x → IsMade ms k x → IsMade more k x)
    → AllByRecursion P xs → AreMade ms n xs → AreMade more n xs
made_on P ms more n [] f p h = tt
made_on P ms more n (x ∷ xs) f p h =
    (f n x (omega arith) (omega arith) p.0 h.0, made_on P ms more (n + 1) xs (λ k y low high. f k y (omega (arith, low)) (omega (arith, high))) p.1 h.1)

made_append : (ms : List MoveText) (n : ℕ) (xs ys : List Sentence) → AreMade ms n xs → AreMade ms (n + length xs) ys → AreMade ms n (xs ++ ys)
made_append ms n [] ys h k = subst (λ m. AreMade ms m ys) (let same : n + 0 ≡ n = omega arith in same) k
made_append ms n (x ∷ xs) ys h k =
    (h.0, made_append ms (n + 1) xs ys h.1 (subst (λ m. AreMade ms m ys) (let same : n + suc (length xs) ≡ n + 1 + length xs = omega arith in same) k))

-- one sentence is changed
made_changed : (ms more : List MoveText) (f : Sentence → Sentence) (n : ℕ) (xs : List Sentence) (i : ℕ) → ((k : ℕ) (x : Sentence) → (k ≡ n + i → ⊥) → IsMade ms k x → IsMade more k x) → ((x : Sentence) → IsMade ms (n + i) x → IsMade more (n + i) (f x))
    → AreMade ms n xs → AreMade more n (change_at f xs i)
made_changed ms more f n [] i other here h = tt
made_changed ms more f n (x ∷ xs) zero other here h =
    let at : n + 0 ≡ n = omega arith in (
      subst (λ k. IsMade ms k x → IsMade more k (f x)) at (here x) h.0,
      made_on (λ y. Unit {0}) ms more (n + 1) xs (λ k y low high t. other k y (λ is. omega (arith, is, low))) (every xs) h.1,
    )
  where
    every : (ys : List Sentence) → AllByRecursion (λ (y : Sentence). Unit {0}) ys
    every [] = tt
    every (y ∷ ys) = (tt, every ys)
made_changed ms more f n (x ∷ xs) (suc i) other here h =
    let at : n + suc i ≡ n + 1 + i = omega arith in (
      other n x (λ is. omega (arith, is)) h.0,
      made_changed ms more f (n + 1) xs i (λ k y apart. other k y (λ is. apart (is ∙ at))) (λ y. subst (λ k. IsMade ms k y → IsMade more k (f y)) at (here y)) h.1,
    )

-- ---- the state

record IsMadeAll (s : Machine) : Type 0 where
  pub within : AllByRecursion (IsWithin (length s.batches) (length s.sentences)) s.moves
  pub made : AreMade s.moves 1 s.sentences

widened : (b n c k : ℕ) → b ≤ c → n ≤ k → (ms : List MoveText) → AllByRecursion (IsWithin b n) ms → AllByRecursion (IsWithin c k) ms
widened b n c k wide long ms h = all_mapped (IsWithin b n) (IsWithin c k) (λ m p. (omega (arith, p.0, wide), omega (arith, p.1, long))) ms h

-- the sentences of an import have one revision each, which its move made
new_made : (b n : ℕ) (ms : List MoveText) (m : MoveText) (user : List ℕ) → AllByRecursion (IsWithin b n) ms → m.kind ≡ Import → m.batch ≡ b + 1 → m.who ≡ user → (k : ℕ) → n < k → (bodies : List BlockText)
    → AreMade (ms ++ m ∷ []) k (new_sentences (b + 1) user bodies)
new_made b n ms m user within kind batch who k far [] = tt
new_made b n ms m user within kind batch who k far (body ∷ bodies) =
    let same : nat_eq m.batch (b + 1) ≡ true = grind (arith, nat_tests, batch) in
    let one : is_maker k (b + 1) m ≡ true = ap (λ t. makes t (nat_eq m.batch (b + 1)) (nat_eq m.sent k)) kind ∙ same in
    let none : makers k (b + 1) ms ≡ [] = no_makers b n (b + 1) k (omega arith) far ms within in
    let all : makers k (b + 1) (ms ++ m ∷ []) ≡ m ∷ [] = makers_more k (b + 1) ms m one ∙ ap (λ l. l ++ m ∷ []) none in
    (sym (ap who_of all ∙ ap (λ w. w ∷ []) who), new_made b n ms m user within kind batch who (k + 1) (omega (arith, far)) bodies)

-- a move that makes no revision, and leaves the revisions alone
made_same : (ms : List MoveText) (m : MoveText) (xs : List Sentence) (P : Sentence → Type 0) → ((k : ℕ) (x : Sentence) → P x → is_maker k x.batch m ≡ false) → AllByRecursion P xs → AreMade ms 1 xs → AreMade (ms ++ m ∷ []) 1 xs
made_same ms m xs P none all h =
    made_on P ms (ms ++ m ∷ []) 1 xs (λ k x low high p is. is ∙ ap who_of (sym (makers_same k x.batch ms m (none k x p)))) all h

made_flagged : (ms : List MoveText) (m : MoveText) (p : Bool) (xs : List Sentence) (place : ℕ) → ((k b : ℕ) → is_maker k b m ≡ false) → AreMade ms 1 xs → AreMade (ms ++ m ∷ []) 1 (change_at (flagged p) xs place)
made_flagged ms m p xs place none h =
    made_changed ms (ms ++ m ∷ []) (flagged p) 1 xs place (λ k x apart is. is ∙ ap who_of (sym (makers_same k x.batch ms m (none k x.batch))))
    (λ x is. is ∙ ap who_of (sym (makers_same (1 + place) x.batch ms m (none (1 + place) x.batch)))) h

made_corrected : (ms : List MoveText) (m : MoveText) (user : List ℕ) (body : BlockText) (xs : List Sentence) (place : ℕ) → m.kind ≡ Correct → m.sent ≡ place + 1 → m.who ≡ user → AreMade ms 1 xs
    → AreMade (ms ++ m ∷ []) 1 (change_at (corrected user body) xs place)
made_corrected ms m user body xs place kind sent who h =
    made_changed ms (ms ++ m ∷ []) (corrected user body) 1 xs place
    (λ k x apart is.
    let other : nat_eq m.sent k ≡ false = grind (arith, nat_tests, sent, apart) in
    let none : is_maker k x.batch m ≡ false = ap (λ t. makes t (nat_eq m.batch x.batch) (nat_eq m.sent k)) kind ∙ other in
    is ∙ ap who_of (sym (makers_same k x.batch ms m none)))
    (λ x is.
    let same : nat_eq m.sent (1 + place) ≡ true = grind (arith, nat_tests, sent) in
    let one : is_maker (1 + place) x.batch m ≡ true = ap (λ t. makes t (nat_eq m.batch x.batch) (nat_eq m.sent (1 + place))) kind ∙ same in
    map-append (λ (r : Revision). r.who) (revisions x) (record { who = user; body = body } ∷ []) ∙ ap (λ l. l ++ user ∷ []) is ∙ ap (λ w. who_of (makers (1 + place) x.batch ms) ++ w ∷ []) (sym who)
    ∙ sym (map-append (λ (y : MoveText). y.who) (makers (1 + place) x.batch ms) (m ∷ [])) ∙ ap who_of (sym (makers_more (1 + place) x.batch ms m one))) h

-- a move of one sentence names its batch, and it
one_within : (s : Machine) (place : ℕ) (x : Sentence) (b n : ℕ) (m : MoveText) → slice_get s.sentences place ≡ Some x → AllByRecursion (IsPlaced (length s.batches)) s.sentences → m.batch ≡ batch_at s.sentences place → m.sent ≡ place + 1
    → length s.batches ≤ b → length s.sentences ≤ n → IsWithin b n m
one_within s place x b n m there placed batch sent wide long =
    let low = get_within s.sentences place x there in
    let at = (all_there (IsPlaced (length s.batches)) s.sentences place x there placed).1 in
    let is = weight_there (λ (y : Sentence). y.batch) s.sentences place x there in
    (omega (arith, at, is, batch, wide), omega (arith, low, sent, long))

made_after : (s : Machine) (a : Act) → IsMadeAll s → AllByRecursion (IsPlaced (length s.batches)) s.sentences → IsAllowed s a → IsMadeAll (after s a)
made_after s (importing name user bodies) h placed k =
    let m = move_of s (importing name user bodies) in
    let b = length s.batches in
    let n = length s.sentences in
    let new = new_sentences (b + 1) user bodies in
    let count : length (s.batches ++ new_batch name ∷ []) ≡ b + 1 = length-append s.batches (new_batch name ∷ []) in
    let longer : length (s.sentences ++ new) ≡ n + length new = length-append s.sentences new in
    record {
      within = all_append (IsWithin (length (s.batches ++ new_batch name ∷ [])) (length (s.sentences ++ new))) s.moves (m ∷ [])
          (widened b n (length (s.batches ++ new_batch name ∷ [])) (length (s.sentences ++ new)) (omega (arith, count)) (omega (arith, longer)) s.moves h.within) ((omega (arith, count), omega arith), tt);
      made = made_append (s.moves ++ m ∷ []) 1 s.sentences new
          (made_same s.moves m s.sentences (IsPlaced b) (λ k x at. let other : nat_eq (b + 1) x.batch ≡ false = grind (arith, nat_tests, at.1) in other) placed h.made)
          (new_made b n s.moves m user h.within refl refl refl (1 + n) (omega arith) bodies);
    }
made_after s (stepping place event user) h placed k =
    let m = move_of s (stepping place event user) in
    let same = length-changed (moved event user) s.batches place in
    let low = get_within s.batches place k.batch k.there in
    record {
      within = all_append (IsWithin (length (change_at (moved event user) s.batches place)) (length s.sentences)) s.moves (m ∷ [])
          (widened (length s.batches) (length s.sentences) (length (change_at (moved event user) s.batches place)) (length s.sentences) (omega (arith, same)) (omega arith) s.moves h.within) ((omega (arith, same, low), omega arith), tt);
      made = made_same s.moves m s.sentences (IsPlaced (length s.batches)) (λ k x at. refl) placed h.made;
    }
made_after s (correcting place user body) h placed k =
    let m = move_of s (correcting place user body) in
    let n = length (change_at (corrected user body) s.sentences place) in
    let same : n ≡ length s.sentences = length-changed (corrected user body) s.sentences place in
    record {
      within = all_append (IsWithin (length s.batches) n) s.moves (m ∷ []) (widened (length s.batches) (length s.sentences) (length s.batches) n (omega arith) (omega (arith, same)) s.moves h.within)
          (one_within s place k.sentence (length s.batches) n m k.there placed refl refl (omega arith) (omega (arith, same)), tt);
      made = made_corrected s.moves m user body s.sentences place refl refl refl h.made;
    }
made_after s (pulling place user) h placed k =
    let m = move_of s (pulling place user) in
    let n = length (change_at (flagged true) s.sentences place) in
    let same : n ≡ length s.sentences = length-changed (flagged true) s.sentences place in
    record {
      within = all_append (IsWithin (length s.batches) n) s.moves (m ∷ []) (widened (length s.batches) (length s.sentences) (length s.batches) n (omega arith) (omega (arith, same)) s.moves h.within)
          (one_within s place k.sentence (length s.batches) n m k.there placed refl refl (omega arith) (omega (arith, same)), tt);
      made = made_flagged s.moves m true s.sentences place (λ k b. refl) h.made;
    }
made_after s (restoring place user) h placed k =
    let m = move_of s (restoring place user) in
    let n = length (change_at (flagged false) s.sentences place) in
    let same : n ≡ length s.sentences = length-changed (flagged false) s.sentences place in
    record {
      within = all_append (IsWithin (length s.batches) n) s.moves (m ∷ []) (widened (length s.batches) (length s.sentences) (length s.batches) n (omega arith) (omega (arith, same)) s.moves h.within)
          (one_within s place k.sentence (length s.batches) n m k.there placed refl refl (omega arith) (omega (arith, same)), tt);
      made = made_flagged s.moves m false s.sentences place (λ k b. refl) h.made;
    }

made_all : (s : Machine) → Reached s → IsMadeAll s
made_all _ begun = record { within = tt; made = tt }
made_all _ (further t a r k) = made_after t a (made_all t r) (well t r).placed k

-- ---- one sentence

made_at : (ms : List MoveText) (n : ℕ) (xs : List Sentence) (i : ℕ) (x : Sentence) → slice_get xs i ≡ Some x → AreMade ms n xs → IsMade ms (n + i) x
made_at ms n [] i x there h = let no_one : None ≡ Some x = there in absurd cc
made_at ms n (y ∷ xs) zero x there h =
    let one : Some y ≡ Some x = there in
    let same : y ≡ x = cc in
    let at : n ≡ n + 0 = omega arith in
    subst (λ k. IsMade ms k x) at (subst (IsMade ms n) same h.0)
made_at ms n (y ∷ xs) (suc i) x there h = subst (λ k. IsMade ms k x) (let at : n + 1 + i ≡ n + suc i = omega arith in at) (made_at ms (n + 1) xs i x there h.1)

beside_made : (k : ℕ) (rs : List Revision) (ms : List MoveText) → by rs ≡ who_of ms → lines_by k ms ≡ beside k rs ms
beside_made k [] [] e = refl
beside_made k [] (m ∷ ms) e = absurd cc
beside_made k (r ∷ rs) [] e = absurd cc
beside_made k (r ∷ rs) (m ∷ ms) e =
    let one : m.who ≡ r.who = cc in
    let rest : by rs ≡ who_of ms = cc in
    let here : line_by k m ≡ revision_line k r m = λ i. record { rev = k; who = one i; kind = m.kind; move_no = m.no } in
    ap₂ (λ l ls. l ∷ ls) here (beside_made (k + 1) rs ms rest)

many_lines : (k : ℕ) (ms : List MoveText) → length (lines_by k ms) ≡ length ms
many_lines k [] = refl
many_lines k (m ∷ ms) = ap suc (many_lines (k + 1) ms)

pub are_revisions : (s : Machine) → Reached s → (n : ℕ) (x : Sentence) → 0 < n → slice_get s.sentences (n - 1) ≡ Some x
    → (lines_by 1 (makers n x.batch s.moves) ≡ revision_lines s n x) × (length (lines_by 1 (makers n x.batch s.moves)) ≡ rev x)
are_revisions s reached n x above there =
    let at : 1 + (n - 1) ≡ n = omega (arith, above) in
    let is : by (revisions x) ≡ who_of (makers n x.batch s.moves) = subst (λ k. IsMade s.moves k x) at (made_at s.moves 1 s.sentences (n - 1) x there (made_all s reached).made) in
    let size : length (revisions x) ≡ length (makers n x.batch s.moves) = sym (length-map (revisions x) (λ (r : Revision). r.who)) ∙ ap length is ∙ length-map (makers n x.batch s.moves) (λ (m : MoveText). m.who) in
    (beside_made 1 (revisions x) (makers n x.batch s.moves) is, many_lines 1 (makers n x.batch s.moves) ∙ sym size ∙ length-append x.before (x.current ∷ []))
