-- One turn of the choice of released sentences.
use Rattle.std.proofs.Common.{◌≡◌, ℕ, zero, suc, ◌+◌, ◌<◌, ◌≤◌, List, [], ◌∷◌, ◌++◌, map, take, drop, length, get_or, slice_index_or, Bool, true, false, cond, nat_eq, Some, None, slice_get, option_map, refl, sym, ap, ◌∙◌, arith, append-nil, append_assoc}
use Rattle.std.proofs.lemmas.Bool.Decides.{nat_tests}
use Rattle.std.proofs.lemmas.List.{length-map, take_more, map-append}
use Rattle.std.proofs.lemmas.Option.{slice_get-map}
use Rattle.tb_core.specs.declared.kinds.State.{State}
use Rattle.tb_core.specs.declared.kinds.State.TheVariants.{Opened, Assigned, Submitted, Adjudicated, Released, Withdrawn}
use Rattle.tb_core.specs.Events.{is_state}
use Rattle.tb_core.specs.Machine.{Batch, Sentence, batch_with, no_batch, rev}
use Rattle.tb_core.specs.Rows.{pulled_from}
use Rattle.tb_tables.specs.Records as records
use Rattle.tb_tables.specs.Values.{batch_of}
use Rattle.tb_tables.specs.declared.rows.BatchRow.{BatchRow}
use Rattle.tb_refine.specs.Numbers.{state_number}
use Rattle.tb_refine.specs.DeskTables.{batch_record, sentence_record}
use Rattle.tb_reads.specs.declared.stream.CurrentRev.{CurrentRev}
use Rattle.tb_reads.specs.declared.work.BatchSentence.{BatchSentence}
use Rattle.tb_reads.specs.Streams.{head_of}
use Rattle.tb_search.specs.declared.picks.Pick.{Pick}
use Rattle.tb_search.specs.Released.{is_released}
use Rattle.tb_search.specs.Picked.{picks_from, begins, pick_of}

-- ---- the state of a batch

pub is_five : (st : State) → nat_eq (state_number st) 5 ≡ is_state st Released
is_five Opened = refl
is_five Assigned = refl
is_five Submitted = refl
is_five Adjudicated = refl
is_five Released = refl
is_five Withdrawn = refl

pub batch_reported : (rows : List BatchRow) (bs : List Batch) (i : ℕ) (row : BatchRow) → map batch_of rows ≡ map batch_record bs → slice_get rows i ≡ Some row → row.state ≡ state_number (slice_index_or bs i no_batch).state
batch_reported [] bs i row e there = absurd cc
batch_reported (r ∷ rows) [] i row e there = absurd cc
batch_reported (r ∷ rows) (b ∷ bs) zero row e there =
    let same : Some r ≡ Some row = there in
    let one : r ≡ row = cc in
    let head : batch_of r ≡ batch_record b = cc in
    ap (λ (x : BatchRow). x.state) (sym one) ∙ ap (λ (x : records.Batch). x.state) head
batch_reported (r ∷ rows) (b ∷ bs) (suc i) row e there = batch_reported rows bs i row (let tail : map batch_of rows ≡ map batch_record bs = cc in tail) there

pub batch_lacks : (rows : List BatchRow) (bs : List Batch) (i : ℕ) → map batch_of rows ≡ map batch_record bs → slice_get rows i ≡ None → slice_index_or bs i no_batch ≡ no_batch
batch_lacks [] [] i e there = refl
batch_lacks [] (b ∷ bs) i e there = absurd cc
batch_lacks (r ∷ rows) [] i e there = refl
batch_lacks (r ∷ rows) (b ∷ bs) zero e there = absurd (let none : Some r ≡ None = there in cc)
batch_lacks (r ∷ rows) (b ∷ bs) (suc i) e there = batch_lacks rows bs i (let tail : map batch_of rows ≡ map batch_record bs = cc in tail) there

-- nothing is released without a batch
pub no_release : (b : Bool) (n : ℕ) → is_state (cond b Withdrawn (batch_with [] n).state) Released ≡ false
no_release true n = refl
no_release false n = refl

-- ---- lists

-- what is put into an empty list was not wanted
pub unwanted : (found : List Pick) (b : Bool) (p : Pick) (rest : List Pick) → (found ++ cond b (p ∷ []) []) ++ rest ≡ [] → b ≡ false
unwanted found false p rest e = refl
unwanted [] true p rest e = absurd cc
unwanted (f ∷ found) true p rest e = absurd cc

split_at : {X : Type 0} (xs : List X) (i : ℕ) → i < length xs → (x : X) × (drop i xs ≡ x ∷ drop (i + 1) xs) × (slice_get xs i ≡ Some x)
split_at [] i low = absurd (omega (arith, low))
split_at (x ∷ xs) zero low = (x, refl, refl)
split_at (x ∷ xs) (suc i) low =
    let it = split_at xs i (omega (arith, low)) in
    (it.0, it.1 ∙ ap (λ m. it.0 ∷ drop m (x ∷ xs)) (let same : suc (i + 1) ≡ suc i + 1 = omega arith in same), it.2)

pub read_at : {X : Type 0} (xs : List X) (i : ℕ) (none : X) → i < length xs → slice_get xs i ≡ Some (get_or xs i none)
read_at [] i none low = absurd (omega (arith, low))
read_at (x ∷ xs) zero none low = refl
read_at (x ∷ xs) (suc i) none low = read_at xs i none (omega (arith, low))

pub none_at : {X : Type 0} (xs : List X) (i : ℕ) → length xs ≤ i → slice_get xs i ≡ None
none_at [] i past = refl
none_at (x ∷ xs) zero past = absurd (omega (arith, past))
none_at (x ∷ xs) (suc i) past = none_at xs i (omega (arith, past))

drop_tail : {X : Type 0} (xs : List X) (i : ℕ) (x : X) (rest : List X) → drop i xs ≡ x ∷ rest → drop (i + 1) xs ≡ rest
drop_tail [] zero x rest e = absurd cc
drop_tail [] (suc i) x rest e = absurd cc
drop_tail (y ∷ xs) zero x rest e = cc
drop_tail (y ∷ xs) (suc i) x rest e = ap (λ m. drop m (y ∷ xs)) (let same : suc i + 1 ≡ suc (i + 1) = omega arith in same) ∙ drop_tail xs i x rest e

pub mapped_more : (work : List BatchSentence) (found : List Pick) (i : ℕ) (none : BatchSentence) → i < length work → found ≡ map pick_of (take i work) → found ++ pick_of (get_or work i none) ∷ [] ≡ map pick_of (take (i + 1) work)
mapped_more work found i none low so =
    ap (λ l. l ++ pick_of (get_or work i none) ∷ []) so ∙ sym (map-append pick_of (take i work) (get_or work i none ∷ [])) ∙ ap (map pick_of) (sym (take_more work i none low))

-- ---- pulled sentences

begins_late : (m n : ℕ) (xs : List Sentence) → m < n → begins (pulled_from n xs) m ≡ false
begins_late m n [] low = refl
begins_late m n (x ∷ xs) low = by (begins_late m (n + 1) xs (omega (arith, low))) x.pulled
  where
    by : begins (pulled_from (n + 1) xs) m ≡ false → (b : Bool) → begins (cond b (n ∷ pulled_from (n + 1) xs) (pulled_from (n + 1) xs)) m ≡ false
    by later true = grind (arith, nat_tests, low)
    by later false = later

pub begins_pulled : (n : ℕ) (x : Sentence) (xs : List Sentence) → begins (pulled_from n (x ∷ xs)) n ≡ x.pulled
begins_pulled n x xs = by (begins_late n (n + 1) xs (omega arith)) x.pulled
  where
    by : begins (pulled_from (n + 1) xs) n ≡ false → (b : Bool) → begins (cond b (n ∷ pulled_from (n + 1) xs) (pulled_from (n + 1) xs)) n ≡ b
    by late true = grind (arith, nat_tests)
    by late false = late

next_pulled : (n : ℕ) (x : Sentence) (xs : List Sentence) (pulled : List ℕ) (at : ℕ) → drop at pulled ≡ pulled_from n (x ∷ xs) → drop (cond x.pulled (at + 1) at) pulled ≡ pulled_from (n + 1) xs
next_pulled n x xs pulled at e = by x.pulled e
  where
    by : (b : Bool) → drop at pulled ≡ cond b (n ∷ pulled_from (n + 1) xs) (pulled_from (n + 1) xs) → drop (cond b (at + 1) at) pulled ≡ pulled_from (n + 1) xs
    by true h = drop_tail pulled at n (pulled_from (n + 1) xs) h
    by false h = h

-- ---- one turn

module _ (bs : List Batch) (xs : List Sentence) (i : ℕ) (heads : List CurrentRev) (h : CurrentRev) (pulled : List ℕ) (found : List Pick) (at : ℕ) (low : i < length heads) (got : slice_get heads i ≡ Some h) (all : heads ≡ map head_of (map sentence_record xs))
    (so : found ++ picks_from (is_released bs) (i + 1) (drop i xs) ≡ picks_from (is_released bs) 1 xs) (to_come : drop at pulled ≡ pulled_from (i + 1) (drop i xs)) where
  pub here : (x : Sentence) × (drop i xs ≡ x ∷ drop (i + 1) xs) × (slice_get xs i ≡ Some x)
  here = split_at xs i (let len : length heads ≡ length xs = ap (λ (l : List CurrentRev). length l) all ∙ length-map (map sentence_record xs) head_of ∙ length-map xs sentence_record in omega (arith, low, len))

  head_is : h ≡ head_of (sentence_record here.0)
  head_is =
      let reported : slice_get heads i ≡ Some (head_of (sentence_record here.0)) =
      ap (λ l. slice_get l i) all ∙ slice_get-map head_of (map sentence_record xs) i ∙ ap (option_map head_of) (slice_get-map sentence_record xs i ∙ ap (option_map sentence_record) here.2) in
      let both : Some h ≡ Some (head_of (sentence_record here.0)) = sym got ∙ reported in
      cc

  pub pulled_is : begins (drop at pulled) (i + 1) ≡ here.0.pulled
  pulled_is = ap (λ l. begins l (i + 1)) (to_come ∙ ap (pulled_from (i + 1)) here.1) ∙ begins_pulled (i + 1) here.0 (drop (i + 1) xs)

  pub then_come : (after : ℕ) → after ≡ cond (begins (drop at pulled) (i + 1)) (at + 1) at → drop after pulled ≡ pulled_from (i + 1 + 1) (drop (i + 1) xs)
  then_come after is = ap (λ a. drop a pulled) (is ∙ ap (λ b. cond b (at + 1) at) pulled_is) ∙ next_pulled (i + 1) here.0 (drop (i + 1) xs) pulled at (to_come ∙ ap (pulled_from (i + 1)) here.1)

  pub then_so : (wanted : Bool) → wanted ≡ is_state (cond (begins (drop at pulled) (i + 1)) Withdrawn (batch_with bs h.batch).state) Released
      → (found ++ cond wanted (record { sent = i + 1; rev = h.rev } ∷ []) []) ++ picks_from (is_released bs) (i + 1 + 1) (drop (i + 1) xs) ≡ picks_from (is_released bs) 1 xs
  then_so wanted is = by (is_released bs here.0) known ∙ ap (λ l. found ++ picks_from (is_released bs) (i + 1) l) (sym here.1) ∙ so
    where
      known : wanted ≡ is_released bs here.0
      known = is ∙ ap (λ b. is_state (cond b Withdrawn (batch_with bs h.batch).state) Released) pulled_is ∙ ap (λ (k : CurrentRev). is_state (cond here.0.pulled Withdrawn (batch_with bs k.batch).state) Released) head_is

      by : (b : Bool) → wanted ≡ b → (found ++ cond wanted (record { sent = i + 1; rev = h.rev } ∷ []) []) ++ picks_from (is_released bs) (i + 1 + 1) (drop (i + 1) xs)
          ≡ found ++ cond b (record { sent = i + 1; rev = rev here.0 } ∷ picks_from (is_released bs) (i + 1 + 1) (drop (i + 1) xs)) (picks_from (is_released bs) (i + 1 + 1) (drop (i + 1) xs))
      by true e = ap (λ b. (found ++ cond b (record { sent = i + 1; rev = h.rev } ∷ []) []) ++ picks_from (is_released bs) (i + 1 + 1) (drop (i + 1) xs)) e
          ∙ ap (λ (k : CurrentRev). (found ++ record { sent = i + 1; rev = k.rev } ∷ []) ++ picks_from (is_released bs) (i + 1 + 1) (drop (i + 1) xs)) head_is
          ∙ append_assoc found (record { sent = i + 1; rev = rev here.0 } ∷ []) (picks_from (is_released bs) (i + 1 + 1) (drop (i + 1) xs))
      by false e = ap (λ b. (found ++ cond b (record { sent = i + 1; rev = h.rev } ∷ []) []) ++ picks_from (is_released bs) (i + 1 + 1) (drop (i + 1) xs)) e
          ∙ ap (λ l. l ++ picks_from (is_released bs) (i + 1 + 1) (drop (i + 1) xs)) (append-nil found)
