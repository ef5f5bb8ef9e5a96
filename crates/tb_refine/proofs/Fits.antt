-- The records of a reachable state fit their columns, and can be read back.
use Rattle.std.proofs.Common.{◌≡◌, inl, inr, ℕ, ◌+◌, ◌^◌, ◌≤◌, ◌<◌, List, [], ◌∷◌, ◌++◌, length, map, Bool, true, false, cond, refl, sym, subst, arith, lit<, length-append}
use Rattle.std.specs.List.{All, AllByRecursion}
use Rattle.std.specs.Str.{IsUtf8}
use Rattle.std.proofs.lemmas.List.{length-map}
use Rattle.std.proofs.lemmas.List.Elements.{All-from_recursion}
use Rattle.std.proofs.lemmas.Str.{IsUtf8-nil}
use Rattle.tb_conllu.specs.Text.{BlockText}
use Rattle.tb_core.specs.declared.kinds.State.{State}
use Rattle.tb_core.specs.Names.{is_name}
use Rattle.tb_core.specs.Moves.{MoveText}
use Rattle.tb_core.specs.Machine as machine
use Rattle.tb_core.specs.Machine.{Machine, sent_id_of, IsLawful, revisions, bodies_of, rev, words, weigh, one, when, state_in}
use Rattle.tb_core.specs.Events.{is_state}
use Rattle.tb_core.specs.Reaching.{IsReachable}
use Rattle.tb_core.specs.Rows.{RevisionRow, revision_rows, revisions_from, pulled_from}
use Rattle.tb_core.specs.Totals.{in_state, total}
use Rattle.tb_core.specs.Keeping.{IsPlaced, IsFine}
use Rattle.tb_core.proofs.Stored.{few_words}
use Rattle.tb_core.proofs.Keeps.{well}
use Rattle.tb_tables.specs.Records.{Batch}
use Rattle.tb_refine.specs.Numbers.{state_number, from_number, kind_number}
use Rattle.tb_refine.specs.DeskTables.{batch_record, sentence_record, revision_record, move_record, total_record, six_states, tables_of}
use Rattle.tb_refine.specs.Fitting.{IsReadableBatch, IsReadableSentence, IsReadableRevision, IsReadableMove, IsReadableTotal, IsReadable, IsStateNumber, IsPlacedSentence, IsKnownMove, IsFitting}
use Rattle.tb_refine.proofs.CallLemmas.{state_within, before_within, kind_within}
use Rattle.tb_refine.proofs.Lasting.{IsWithin, HasGoodWorker, HasGoodUsers, IsGoodRevision, IsRevisedBelow, sound, weigh_ones, weigh_words}
use Rattle.tb_refine.proofs.Encodings.{name_utf8, sent_id_utf8, text_utf8}

large : 1000000000 < 2 ^ 31
large = lit< tt

small : 2 ^ 31 < 2 ^ 32
small = lit< tt

below_32 : (n : ℕ) → n ≤ 1000000000 → n < 2 ^ 32
below_32 n h = omega (arith, h, large, small)

below_31 : (n : ℕ) → n ≤ 1000000000 → n < 2 ^ 31
below_31 n h = omega (arith, h, large)

-- what holds of each record
all_records : {X Y : Type 0} (P : X → Type 0) (Q : Y → Type 0) (g : X → Y) → ((x : X) → P x → Q (g x)) → (xs : List X) → AllByRecursion P xs → AllByRecursion Q (map g xs)
all_records P Q g f [] h = tt
all_records P Q g f (x ∷ xs) h = (f x h.0, all_records P Q g f xs h.1)

all_both : {X : Type 0} (P Q : X → Type 0) (xs : List X) → AllByRecursion P xs → AllByRecursion Q xs → AllByRecursion (λ x. P x × Q x) xs
all_both P Q [] h k = tt
all_both P Q (x ∷ xs) h k = ((h.0, k.0), all_both P Q xs h.1 k.1)

anything : {X : Type 0} (xs : List X) → AllByRecursion (λ x. Unit {0}) xs
anything [] = tt
anything (x ∷ xs) = (tt, anything xs)

-- ---- batches

worker_utf8 : (b : machine.Batch) → HasGoodWorker b → IsUtf8 b.worker
worker_utf8 b (inl none) = subst IsUtf8 (sym none) IsUtf8-nil
worker_utf8 b (inr good) = name_utf8 b.worker good

readable_batch : (b : machine.Batch) → (is_name b.name ≡ true) × HasGoodWorker b → IsReadableBatch (batch_record b)
readable_batch b h = record { name_fits = name_utf8 b.name h.0; state_fits = below_32 (state_number b.state) (let w = state_within b.state in omega (arith, w.1)); worker_fits = worker_utf8 b h.1 }

-- ---- sentences

current_of : (P : BlockText → Type 0) (rs : List machine.Revision) (c : machine.Revision) → AllByRecursion P (map (λ (r : machine.Revision). r.body) (rs ++ c ∷ [])) → P c.body
current_of P [] c h = h.0
current_of P (r ∷ rs) c h = current_of P rs c h.1

id_utf8 : (x : machine.Sentence) → IsFine x → IsUtf8 x.sent_id
id_utf8 x h =
    let lawful : IsLawful x.current.body = current_of IsLawful x.before x.current h.lawful in
    subst IsUtf8 (current_of (λ b. sent_id_of b ≡ x.sent_id) x.before x.current h.titled) (sent_id_utf8 x.current.body lawful.shaped)

readable_sentence : (n m : ℕ) → n ≤ 1000000000 → m ≤ 1000000000 → (x : machine.Sentence) → (IsPlaced n x × IsFine x) × IsRevisedBelow m x → IsReadableSentence (sentence_record x)
readable_sentence n m a b x h = record {
  sent_id_fits = id_utf8 x h.0.1;
  batch_fits = below_32 x.batch (let p = h.0.0.1 in omega (arith, a, p));
  rev_fits = below_32 (rev x) (let p = h.1 in omega (arith, b, p));
  words_fits = below_32 (words x) (let p = few_words x h.0.1 in omega (arith, p));
}

placed_sentence : (n : ℕ) (x : machine.Sentence) → IsPlaced n x → IsPlacedSentence n (sentence_record x)
placed_sentence n x h = record { least = h.0; most = h.1; revised = omega arith }

-- ---- revisions

readable_rows : (n k m : ℕ) → n ≤ 1000000000 → m ≤ 1000000000 → (rs : List machine.Revision) → k + length rs ≤ m + 1 → AllByRecursion IsLawful (map (λ (r : machine.Revision). r.body) rs) → AllByRecursion IsGoodRevision rs
    → AllByRecursion IsReadableRevision (map revision_record (revision_rows n k rs))
readable_rows n k m a b [] l h g = tt
readable_rows n k m a b (r ∷ rs) l h g = (
  record {
    sent_fits = below_32 n a;
    rev_fits = below_32 k (omega (arith, l, b));
    who_fits = name_utf8 r.who g.0;
    body_fits = text_utf8 r.body h.0.shaped;
  },
  readable_rows n (k + 1) m a b rs (omega (arith, l)) h.1 g.1,
)

map_joined : (xs ys : List RevisionRow) → AllByRecursion IsReadableRevision (map revision_record xs) → AllByRecursion IsReadableRevision (map revision_record ys) → AllByRecursion IsReadableRevision (map revision_record (xs ++ ys))
map_joined [] ys h k = k
map_joined (x ∷ xs) ys h k = (h.0, map_joined xs ys h.1 k)

readable_revisions : (n m : ℕ) → m ≤ 1000000000 → (xs : List machine.Sentence) → n + length xs ≤ 1000000000 → AllByRecursion IsFine xs → AllByRecursion HasGoodUsers xs → AllByRecursion (IsRevisedBelow m) xs
    → AllByRecursion IsReadableRevision (map revision_record (revisions_from n xs))
readable_revisions n m b [] l h g r = tt
readable_revisions n m b (x ∷ xs) l h g r =
    let size = length-append x.before (x.current ∷ []) in
    let below = r.0 in
    map_joined (revision_rows n 1 (revisions x)) (revisions_from (n + 1) xs)
    (readable_rows n 1 m (omega (arith, l)) b (revisions x) (omega (arith, size, below)) h.0.lawful g.0) (readable_revisions (n + 1) m b xs (omega (arith, l)) h.1 g.1 r.1)

-- ---- moves

readable_move : (n m : ℕ) → n ≤ 1000000000 → m ≤ 1000000 → (x : MoveText) → IsWithin n m x → IsReadableMove (move_record x)
readable_move n m a b x h = record {
  kind_fits = below_32 (kind_number x.kind) (let w = kind_within x.kind in omega (arith, w.1));
  batch_fits = below_32 x.batch (omega (arith, h.batch, a));
  sent_fits = below_32 x.sent (omega (arith, h.sent, b));
  from_fits = below_32 (from_number x.from) (let w = before_within x.from in omega (arith, w));
  to_fits = below_32 (state_number x.to) (let w = state_within x.to in omega (arith, w.1));
  sentences_fits = below_32 x.sentences (omega (arith, h.sentences, b));
  words_out_fits = below_32 x.words_out (omega (arith, h.words_out, b));
  words_in_fits = below_32 x.words_in (omega (arith, h.words_in, b));
  who_fits = name_utf8 x.who h.who;
}

known_move : (x : MoveText) → IsKnownMove (move_record x)
known_move x = record { kind = (x.kind, refl); from = (x.from, refl); to = (x.to, refl) }

-- ---- totals

when_below : (t : Bool) (n : ℕ) → when t n ≤ n
when_below true n = omega arith
when_below false n = omega arith

weigh_below : (bs : List machine.Batch) (st : State) (w : machine.Sentence → ℕ) (xs : List machine.Sentence) → weigh (in_state bs st w) xs ≤ weigh w xs
weigh_below bs st w [] = omega arith
weigh_below bs st w (x ∷ xs) = let a = when_below (is_state (state_in bs x) st) (w x) in let b = weigh_below bs st w xs in omega (arith, a, b)

readable_total : (s : Machine) (st : State) → AllByRecursion IsFine s.sentences → length s.sentences ≤ 1000000 → IsReadableTotal (total_record s st)
readable_total s st fine few = record {
  sentences_fits = below_32 (total one s st) (let a = weigh_below s.batches st one s.sentences in let b = weigh_ones s.sentences in omega (arith, a, b, few));
  words_fits = below_32 (total words s st) (let a = weigh_below s.batches st words s.sentences in let b = weigh_words s.sentences fine in omega (arith, a, b, few));
}

-- ---- numbers of pulled sentences

below_flag : (p : Bool) (n m : ℕ) (l : List ℕ) → n < m → AllByRecursion (λ k. k < m) l → AllByRecursion (λ k. k < m) (cond p (n ∷ l) l)
below_flag true n m l h k = (h, k)
below_flag false n m l h k = k

pulled_below : (n m : ℕ) (xs : List machine.Sentence) → n + length xs ≤ m → AllByRecursion (λ k. k < m) (pulled_from n xs)
pulled_below n m [] h = tt
pulled_below n m (x ∷ xs) h = below_flag x.pulled n m (pulled_from (n + 1) xs) (omega (arith, h)) (pulled_below (n + 1) m xs (omega (arith, h)))

all_below_32 : (m : ℕ) → m ≤ 1000000000 → (l : List ℕ) → AllByRecursion (λ k. k < m) l → AllByRecursion (λ k. k < 2 ^ 32) l
all_below_32 m a [] h = tt
all_below_32 m a (n ∷ l) h = (below_32 n (let p = h.0 in omega (arith, p, a)), all_below_32 m a l h.1)

-- ---- the laws

pub readable : (s : Machine) → IsReachable s → IsReadable (tables_of s)
readable s r =
    let w = well s r.reached in
    let q = sound s r.reached in
    let d = tables_of s in
    let n = length s.batches in
    let few : n ≤ 1000000000 = let a = q.few in let b = r.moves in omega (arith, a, b) in
    let sentences = r.sentences in
    let upto : 1 + length s.sentences ≤ 1000000000 = omega (arith, sentences) in
    let whole = all_both (λ x. IsPlaced n x × IsFine x) (IsRevisedBelow (length s.moves)) s.sentences (all_both (IsPlaced n) IsFine s.sentences w.placed w.fine) q.revs in
    record {
      batches = All-from_recursion IsReadableBatch d.batches (all_records (λ (b : machine.Batch). (is_name b.name ≡ true) × HasGoodWorker b) IsReadableBatch batch_record readable_batch s.batches (all_both (λ (b : machine.Batch). is_name b.name ≡ true) HasGoodWorker s.batches w.named q.workers));
      sentences = All-from_recursion IsReadableSentence d.sentences (all_records (λ x. (IsPlaced n x × IsFine x) × IsRevisedBelow (length s.moves) x) IsReadableSentence sentence_record (readable_sentence n (length s.moves) few r.moves) s.sentences whole);
      revisions = All-from_recursion IsReadableRevision d.revisions (readable_revisions 1 (length s.moves) r.moves s.sentences upto w.fine q.users q.revs);
      moves = All-from_recursion IsReadableMove d.moves (all_records (IsWithin n (length s.sentences)) IsReadableMove move_record (readable_move n (length s.sentences) few r.sentences) s.moves q.moves);
      totals = All-from_recursion IsReadableTotal d.totals (all_records (λ (st : State). Unit {0}) IsReadableTotal (total_record s) (λ st u. readable_total s st w.fine r.sentences) six_states (anything six_states));
      pulled = All-from_recursion (λ k. k < 2 ^ 32) d.pulled (all_below_32 (1 + length s.sentences) upto d.pulled (pulled_below 1 (1 + length s.sentences) s.sentences (omega arith)));
    }

pub fitting : (s : Machine) → IsReachable s → IsFitting (tables_of s)
fitting s r =
    let w = well s r.reached in
    let q = sound s r.reached in
    let d = tables_of s in
    let sentences = r.sentences in
    let moves = r.moves in
    let few = q.few in
    let b = length-map s.batches batch_record in
    let x = length-map s.sentences sentence_record in
    let m = length-map s.moves move_record in
    record {
      batches_few = below_31 (length d.batches) (omega (arith, b, few, moves));
      sentences_few = below_31 (length d.sentences) (omega (arith, x, sentences));
      moves_few = below_31 (length d.moves) (omega (arith, m, moves));
      six = refl;
      states = All-from_recursion (λ (y : Batch). IsStateNumber y.state) d.batches (all_records (λ (y : machine.Batch). Unit {0}) (λ (y : Batch). IsStateNumber y.state) batch_record (λ y u. (y.state, refl)) s.batches (anything s.batches));
      placed = subst (λ j. All (IsPlacedSentence j) d.sentences) (sym b)
          (All-from_recursion (IsPlacedSentence (length s.batches)) d.sentences (all_records (IsPlaced (length s.batches)) (IsPlacedSentence (length s.batches)) sentence_record (placed_sentence (length s.batches)) s.sentences w.placed));
      known = All-from_recursion IsKnownMove d.moves (all_records (λ (y : MoveText). Unit {0}) IsKnownMove move_record (λ y u. known_move y) s.moves (anything s.moves));
    }
