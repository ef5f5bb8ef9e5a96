-- A state's moves, replayed with the texts that it holds, lead to it exactly where it is reached.
use Rattle.std.proofs.Common.{◌≡◌, ℕ, zero, suc, ◌+◌, ◌-◌, List, [], ◌∷◌, ◌++◌, length, map, get_or, take, drop, None, Some, refl, sym, ◌∙◌, ap, subst, arith, append_assoc, append-nil}
use Rattle.std.specs.Prelude.{slice_get}
use Rattle.std.specs.List.{flat_map}
use Rattle.std.proofs.lemmas.List.{length-map}
use Rattle.std.proofs.Math.Seq.{get_or-append_seam}
use Rattle.tb_conllu.specs.Text.{BlockText}
use Rattle.tb_core.specs.Moves.{MoveText}
use Rattle.tb_core.specs.Machine.{Batch, Revision, Sentence, Machine, empty_machine, revisions, bodies_of, weigh, one, change_at}
use Rattle.tb_core.specs.Acts.{Act, importing, stepping, correcting, pulling, restoring, IsAllowed, after, move_of, names_of, new_batch, new_sentences, corrected}
use Rattle.tb_core.specs.Keeping.{Continues, Continue, Extends}
use Rattle.tb_core.specs.Reaching.{Reached, begun, further}
use Rattle.tb_core.proofs.Lists.{map-joined}
use Rattle.tb_core.proofs.Extending.{extends_refl, extends_trans, extends_after}
use Rattle.tb_replay.specs.Course.{Plays, act_of, bodies_in, body_at, firsts, no_body, rev_count}

-- ---- soundness

pub sound : (f : Machine) (ms : List MoveText) (s : Machine) → Plays f s ms → Reached s → Reached f
sound f [] s h r = subst Reached h r
sound f (m ∷ ms) s h r = sound f ms (after s (act_of f s m)) h.2 (further s (act_of f s m) r h.0)

-- ---- what stands stays: later states have the texts that earlier ones have

Grows : List (List BlockText) → List (List BlockText) → Type 0
Grows [] ys = Unit {0}
Grows (x ∷ xs) [] = ⊥
Grows (x ∷ xs) (y ∷ ys) = ((more : List BlockText) × (y ≡ x ++ more)) × Grows xs ys

bodies_grown : (x y : Sentence) → Continues x y → (more : List BlockText) × (bodies_of y ≡ bodies_of x ++ more)
bodies_grown x y h = (map (λ (r : Revision). r.body) h.more, ap (λ (rs : List Revision). map (λ (r : Revision). r.body) rs) h.revised ∙ map-joined (λ (r : Revision). r.body) (revisions x) h.more)

grown : (xs ys : List Sentence) → Continue xs ys → Grows (map bodies_of xs) (map bodies_of ys)
unfolding Grows
grown [] ys h = tt
grown (x ∷ xs) [] h = absurd h
grown (x ∷ xs) (y ∷ ys) h = (bodies_grown x y h.0, grown xs ys h.1)

bodies_corrected : (user : List ℕ) (body : BlockText) (x : Sentence) → bodies_of (corrected user body x) ≡ bodies_of x ++ body ∷ []
bodies_corrected user body x = map-joined (λ (r : Revision). r.body) (x.before ++ x.current ∷ []) (record { who = user; body = body } ∷ [])

-- ---- the act that led on is the one that its move names

back_one : (n : ℕ) → n + 1 - 1 ≡ n
back_one n = omega arith

grows_drop : (a b f : List (List BlockText)) → Grows (a ++ b) f → Grows b (drop (length a) f)
unfolding Grows
grows_drop [] b f h = h
grows_drop (x ∷ a) b [] h = absurd h
grows_drop (x ∷ a) b (y ∷ f) h = grows_drop a b f h.1

firsts_grown : (n : ℕ) (user : List ℕ) (bodies : List BlockText) (f : List (List BlockText)) → Grows (map bodies_of (new_sentences n user bodies)) f
    → flat_map (λ (bs : List BlockText). take 1 bs) (take (length bodies) f) ≡ bodies
unfolding Grows
firsts_grown n user [] f h = refl
firsts_grown n user (b ∷ bs) [] h = absurd h
firsts_grown n user (b ∷ bs) (y ∷ f) h =
    let first : take 1 y ≡ b ∷ [] = ap (λ (l : List BlockText). take 1 l) h.0.1 in
    ap (λ (l : List BlockText). l ++ flat_map (λ (c : List BlockText). take 1 c) (take (length bs) f)) first ∙ ap (λ l. b ∷ l) (firsts_grown n user bs f h.1)

counted_new : (n : ℕ) (user : List ℕ) (bodies : List BlockText) → weigh one (new_sentences n user bodies) ≡ length bodies
counted_new n user [] = refl
counted_new n user (b ∷ bs) = let e = counted_new n user bs in omega (arith, e)

next_body : (x : List BlockText) (b : BlockText) (more y : List BlockText) → y ≡ (x ++ b ∷ []) ++ more → get_or y (length x) no_body ≡ b
next_body x b more y e = ap (λ l. get_or l (length x) no_body) (e ∙ append_assoc x (b ∷ []) more) ∙ get_or-append_seam x b more no_body

body_grown : (user : List ℕ) (body : BlockText) (xs : List Sentence) (i : ℕ) (x : Sentence) (f : List (List BlockText)) → slice_get xs i ≡ Some x
    → Grows (map bodies_of (change_at (corrected user body) xs i)) f → body_at f i (length (get_or (map bodies_of xs) i [])) ≡ body
unfolding Grows
body_grown user body [] i x f e h = let d : None ≡ Some x = e in absurd (cc)
body_grown user body (z ∷ zs) zero x [] e h = absurd h
body_grown user body (z ∷ zs) zero x (y ∷ f) e h = next_body (bodies_of z) body h.0.0 y (h.0.1 ∙ ap (λ l. l ++ h.0.0) (bodies_corrected user body z))
body_grown user body (z ∷ zs) (suc i) x [] e h = absurd h
body_grown user body (z ∷ zs) (suc i) x (y ∷ f) e h = body_grown user body zs i x f e h.1

act_is : (s : Machine) (a : Act) (f : Machine) → IsAllowed s a → Extends (after s a) f → act_of f s (move_of s a) ≡ a
act_is s (importing name user bodies) f k e =
    let n = length s.batches + 1 in
    let joined = map-joined (λ (c : Batch). c.name) s.batches (new_batch name ∷ []) in
    let all : names_of f.batches ≡ names_of s.batches ++ (name ∷ e.new_names) = e.names ∙ (ap (λ l. l ++ e.new_names) joined ∙ append_assoc (names_of s.batches) (name ∷ []) e.new_names) in
    let size : length (names_of s.batches) ≡ length s.batches = length-map s.batches (λ (c : Batch). c.name) in
    let named : get_or (names_of f.batches) (length s.batches) [] ≡ name =
    ap (λ l. get_or l (length s.batches) []) all ∙ (ap (λ i. get_or (names_of s.batches ++ (name ∷ e.new_names)) i []) (sym size) ∙ get_or-append_seam (names_of s.batches) name e.new_names []) in
    let bodies_grow = grown (s.sentences ++ new_sentences n user bodies) f.sentences e.sentences in
    let parted = subst (λ l. Grows l (bodies_in f)) (map-joined bodies_of s.sentences (new_sentences n user bodies)) bodies_grow in
    let rest = grows_drop (bodies_in s) (map bodies_of (new_sentences n user bodies)) (bodies_in f) parted in
    let count : length (bodies_in s) ≡ length s.sentences = length-map s.sentences bodies_of in
    let placed = subst (λ i. Grows (map bodies_of (new_sentences n user bodies)) (drop i (bodies_in f))) count rest in
    let read = ap (λ i. firsts (bodies_in f) (length s.sentences) i) (counted_new n user bodies) ∙ firsts_grown n user bodies (drop (length s.sentences) (bodies_in f)) placed in
    ap (λ l. importing l user (firsts (bodies_in f) (length s.sentences) (weigh one (new_sentences n user bodies)))) named ∙ ap (importing name user) read
act_is s (stepping place event user) f k e = ap (λ i. stepping i event user) (back_one place)
act_is s (correcting place user body) f k e =
    let bodies_grow = grown (change_at (corrected user body) s.sentences place) f.sentences e.sentences in
    ap (λ i. correcting i user (body_at (bodies_in f) i (rev_count s i))) (back_one place) ∙ ap (correcting place user) (body_grown user body s.sentences place k.sentence (bodies_in f) k.there bodies_grow)
act_is s (pulling place user) f k e = ap (λ i. pulling i user) (back_one place)
act_is s (restoring place user) f k e = ap (λ i. restoring i user) (back_one place)

-- ---- completeness

back : (s : Machine) → Reached s → (f : Machine) → Extends s f → (rest : List MoveText) → Plays f s rest → Plays f empty_machine (s.moves ++ rest)
back s begun f e rest p = p
back s (further t a r k) f e rest p =
    let m = move_of t a in
    let same = act_is t a f k e in
    let q : Plays f t (m ∷ rest) = subst (λ b. IsAllowed t b × (move_of t b ≡ m) × Plays f (after t b) rest) (sym same) (k, refl, p) in
    subst (Plays f empty_machine) (sym (append_assoc t.moves (m ∷ []) rest)) (back t r f (extends_trans t (after t a) f (extends_after t a) e) (m ∷ rest) q)

pub complete : (f : Machine) → Reached f → Plays f empty_machine f.moves
complete f r = subst (Plays f empty_machine) (append-nil f.moves) (back f r f (extends_refl f) [] refl)
