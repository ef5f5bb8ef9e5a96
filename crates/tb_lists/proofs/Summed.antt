-- What is counted of each batch is what stands for it among the sentences.
use Rattle.std.proofs.Common.{◌≡◌, ℕ, zero, suc, ◌+◌, ◌-◌, ◌<◌, ◌≤◌, List, [], ◌∷◌, ◌++◌, map, drop, length, get_or, set, replicate, Bool, true, false, cond, nat_eq, Some, slice_get, slice_index_or, refl, sym, ap, ap₂, subst, ◌∙◌, arith, append_assoc}
use Rattle.std.specs.List.{AllByRecursion}
use Rattle.std.proofs.lemmas.Bool.Decides.{nat_tests}
use Rattle.sqlite_trees.specs.Tree.{IsAscending}
use Rattle.tb_core.specs.Machine.{Batch, Sentence, change_at, weigh, when, at_work, one, words}
use Rattle.tb_core.specs.Rows.{pulled_from}
use Rattle.tb_core.proofs.Weights.{length-changed}
use Rattle.tb_tables.specs.Records as records
use Rattle.tb_tables.specs.Values.{sentence_of, batch_of}
use Rattle.tb_tables.specs.declared.rows.SentenceRow.{SentenceRow}
use Rattle.tb_tables.specs.declared.rows.BatchRow.{BatchRow}
use Rattle.tb_refine.specs.DeskTables.{sentence_record, batch_record}
use Rattle.tb_refine.specs.Listed.{is_listed}
use Rattle.tb_refine.proofs.Listing.{listed_pulled, pulled_ascends}
use Rattle.tb_lists.specs.declared.counting.Count.{Count}
use Rattle.tb_lists.specs.Batches.{BatchText, first_from, taken_out, batch_line, lines_from}
use Rattle.tb_lists.specs.Counted.{no_count, first_seen, counted, change_of, count_all, IsOfSoMany, count_on, AreCounts, line_with, lines_with}

-- ---- lists

pub drop_here : {X : Type 0} (xs : List X) (i : ℕ) (x : X) → i < length xs → x ≡ get_or xs i x → drop i xs ≡ x ∷ drop (i + 1) xs
drop_here [] i x low is = absurd (omega (arith, low))
drop_here (y ∷ xs) zero x low is = ap (λ z. z ∷ xs) (sym is)
drop_here (y ∷ xs) (suc i) x low is =
    drop_here xs i x (omega (arith, low)) is ∙ ap (λ m. x ∷ drop m (y ∷ xs)) (let same : suc (i + 1) ≡ suc i + 1 = omega arith in same)

pub drop_end : {X : Type 0} (xs : List X) (i : ℕ) → length xs ≤ i → drop i xs ≡ []
drop_end [] zero past = refl
drop_end [] (suc i) past = refl
drop_end (x ∷ xs) zero past = absurd (omega (arith, past))
drop_end (x ∷ xs) (suc i) past = drop_end xs i (omega (arith, past))

-- a count that is put is the list changed there
pub put_is : (f : Count → Count) (cs : List Count) (i : ℕ) (c : Count) → c ≡ f (slice_index_or cs i no_count) → set cs i c ≡ change_at f cs i
put_is f [] i c is = refl
put_is f (d ∷ cs) zero c is = ap (λ e. e ∷ cs) is
put_is f (d ∷ cs) (suc i) c is = ap (λ l. d ∷ l) (put_is f cs i c is)

-- ---- how many were counted

pub none_many : (n : ℕ) → IsOfSoMany n no_count
none_many n = record { sentences = omega arith; words = omega arith; pulled = omega arith; pulled_words = omega arith }

pub many_at : (n : ℕ) (cs : List Count) (i : ℕ) → AllByRecursion (IsOfSoMany n) cs → IsOfSoMany n (slice_index_or cs i no_count)
many_at n [] i h = none_many n
many_at n (c ∷ cs) zero h = h.0
many_at n (c ∷ cs) (suc i) h = many_at n cs i h.1

one_more : (n : ℕ) (c : Count) → IsOfSoMany n c → IsOfSoMany (n + 1) c
one_more n c h =
    let a = h.sentences in
    let b = h.words in
    let d = h.pulled in
    let e = h.pulled_words in
    record { sentences = omega (arith, a); words = omega (arith, b); pulled = omega (arith, d); pulled_words = omega (arith, e) }

pub many_more : (n : ℕ) (cs : List Count) → AllByRecursion (IsOfSoMany n) cs → AllByRecursion (IsOfSoMany (n + 1)) cs
many_more n [] h = tt
many_more n (c ∷ cs) h = (one_more n c h.0, many_more n cs h.1)

pub many_put : (n : ℕ) (cs : List Count) (i : ℕ) (c : Count) → AllByRecursion (IsOfSoMany n) cs → IsOfSoMany (n + 1) c → AllByRecursion (IsOfSoMany (n + 1)) (set cs i c)
many_put n [] i c h new = tt
many_put n (d ∷ cs) zero c h new = (new, many_more n cs h.1)
many_put n (d ∷ cs) (suc i) c h new = (one_more n d h.0, many_put n cs i c h.1 new)

pub many_none : (n : ℕ) → AllByRecursion (IsOfSoMany 0) (replicate n no_count)
many_none zero = tt
many_none (suc n) = (none_many 0, many_none n)

none_at : (n i : ℕ) → slice_index_or (replicate n no_count) i no_count ≡ no_count
none_at zero i = refl
none_at (suc n) zero = refl
none_at (suc n) (suc i) = none_at n i

length_none : (n : ℕ) → length (replicate n no_count) ≡ n
length_none zero = refl
length_none (suc n) = ap suc (length_none n)

-- ---- one sentence

same_count : (a b c d e f g h k l : ℕ) → a ≡ f → b ≡ g → c ≡ h → d ≡ k → e ≡ l
    → (let x : Count = record { first = a; sentences = b; words = c; pulled = d; pulled_words = e } in x) ≡ record { first = f; sentences = g; words = h; pulled = k; pulled_words = l }
same_count a b c d e f g h k l p q r s t = λ i. record { first = p i; sentences = q i; words = r i; pulled = s i; pulled_words = t i }

seen_once : (n rest first : ℕ) → 0 < n → first_seen rest (first_seen n first) ≡ first_seen n first
seen_once n rest zero low =
    let some : nat_eq n 0 ≡ false = grind (arith, nat_tests, low) in
    let none : nat_eq 0 0 ≡ true = grind (arith, nat_tests) in
    let is : first_seen n 0 ≡ n = ap (λ t. cond t n 0) none in
    ap (first_seen rest) is ∙ ap (λ t. cond t rest n) some ∙ sym is
seen_once n rest (suc k) low =
    let some : nat_eq (suc k) 0 ≡ false = grind (arith, nat_tests) in
    let is : first_seen n (suc k) ≡ suc k = ap (λ t. cond t n (suc k)) some in
    ap (first_seen rest) is ∙ ap (λ t. cond t rest (suc k)) some ∙ sym is

seen_none : (first : ℕ) → first_seen 0 first ≡ first
seen_none zero = let none : nat_eq 0 0 ≡ true = grind (arith, nat_tests) in ap (λ t. cond t 0 0) none
seen_none (suc k) = let some : nat_eq (suc k) 0 ≡ false = grind (arith, nat_tests) in ap (λ t. cond t 0 (suc k)) some

seen_now : (n : ℕ) → first_seen n 0 ≡ n
seen_now n = let none : nat_eq 0 0 ≡ true = grind (arith, nat_tests) in ap (λ t. cond t n 0) none

-- what one sentence adds to a batch, and the others after it
module _ (n first s w o v many_words later_first later_s later_w later_o later_v : ℕ) (low : 0 < n) where
  abbrev before : Count
  before = record { first = first; sentences = s; words = w; pulled = o; pulled_words = v }

  abbrev after : Count → Count
  after c = record { first = first_seen later_first c.first; sentences = c.sentences + later_s; words = c.words + later_w; pulled = c.pulled + later_o; pulled_words = c.pulled_words + later_v }

  one_on : (t p : Bool) → after (cond t (counted n many_words p before) before)
      ≡ record { first = first_seen (cond t n later_first) first; sentences = s + (cond p 0 (when t 1) + later_s); words = w + (cond p 0 (when t many_words) + later_w); pulled = o + (when p (when t 1) + later_o); pulled_words = v + (when p (when t many_words) + later_v) }
  one_on true true = same_count _ _ _ _ _ _ _ _ _ _ (seen_once n later_first first low) (omega arith) (omega arith) (omega arith) (omega arith)
  one_on true false = same_count _ _ _ _ _ _ _ _ _ _ (seen_once n later_first first low) (omega arith) (omega arith) (omega arith) (omega arith)
  one_on false true = same_count _ _ _ _ _ _ _ _ _ _ refl (omega arith) (omega arith) (omega arith) (omega arith)
  one_on false false = same_count _ _ _ _ _ _ _ _ _ _ refl (omega arith) (omega arith) (omega arith) (omega arith)

-- ---- one place

there : (f : Count → Count) (cs : List Count) (place i : ℕ) → i < length cs → slice_index_or (change_at f cs place) i no_count ≡ cond (nat_eq place i) (f (slice_index_or cs i no_count)) (slice_index_or cs i no_count)
there f [] place i low = absurd (omega (arith, low))
there f (c ∷ cs) zero zero low = let is : nat_eq 0 0 ≡ true = grind (arith, nat_tests) in sym (ap (λ t. cond t (f c) c) is)
there f (c ∷ cs) zero (suc i) low =
    let is : nat_eq 0 (suc i) ≡ false = grind (arith, nat_tests) in
    sym (ap (λ t. cond t (f (slice_index_or cs i no_count)) (slice_index_or cs i no_count)) is)
there f (c ∷ cs) (suc place) zero low = let is : nat_eq (suc place) 0 ≡ false = grind (arith, nat_tests) in sym (ap (λ t. cond t (f c) c) is)
there f (c ∷ cs) (suc place) (suc i) low =
    let is : nat_eq (suc place) (suc i) ≡ nat_eq place i = grind (arith, nat_tests) in
    there f cs place i (omega (arith, low)) ∙ sym (ap (λ t. cond t (f (slice_index_or cs i no_count)) (slice_index_or cs i no_count)) is)

changed_there : (f : Count → Count) (batch : ℕ) (cs : List Count) (i : ℕ) → i < length cs → slice_index_or (change_of f batch cs) i no_count ≡ cond (nat_eq batch (i + 1)) (f (slice_index_or cs i no_count)) (slice_index_or cs i no_count)
changed_there f zero cs i low =
    let is : nat_eq 0 (i + 1) ≡ false = grind (arith, nat_tests) in
    sym (ap (λ t. cond t (f (slice_index_or cs i no_count)) (slice_index_or cs i no_count)) is)
changed_there f (suc place) cs i low =
    let is : nat_eq (suc place) (i + 1) ≡ nat_eq place i = grind (arith, nat_tests) in
    there f cs place i low ∙ sym (ap (λ t. cond t (f (slice_index_or cs i no_count)) (slice_index_or cs i no_count)) is)

length_of : (f : Count → Count) (batch : ℕ) (cs : List Count) → length (change_of f batch cs) ≡ length cs
length_of f zero cs = refl
length_of f (suc place) cs = length-changed f cs place

-- a batch that has a number is at the place before it
pub below : (f : Count → Count) (batch : ℕ) (cs : List Count) → ¬ (batch ≡ 0) → change_at f cs (batch - 1) ≡ change_of f batch cs
below f zero cs some = absurd (some refl)
below f (suc place) cs some = let at : suc place - 1 ≡ place = omega arith in ap (change_at f cs) at

-- ---- all sentences

count_none : (batch n : ℕ) (c : Count) → count_on batch n [] c ≡ c
count_none batch n c = same_count _ _ _ _ _ _ _ _ _ _ (seen_none c.first) (omega arith) (omega arith) (omega arith) (omega arith)

pub counted_are : (pulled : List ℕ) (n : ℕ) (rows : List SentenceRow) (xs : List Sentence) → 0 < n → map sentence_of rows ≡ map sentence_record xs
    → ((i : ℕ) (x : Sentence) → slice_get xs i ≡ Some x → is_listed (n + i) pulled ≡ x.pulled)
    → (cs : List Count) (i : ℕ) → i < length cs → slice_index_or (count_all pulled n rows cs) i no_count ≡ count_on (i + 1) n xs (slice_index_or cs i no_count)
counted_are pulled n [] [] low same flags cs i within = sym (count_none (i + 1) n (slice_index_or cs i no_count))
counted_are pulled n [] (x ∷ xs) low same flags cs i within = absurd cc
counted_are pulled n (r ∷ rows) [] low same flags cs i within = absurd cc
counted_are pulled n (r ∷ rows) (x ∷ xs) low same flags cs i within =
    let head : sentence_of r ≡ sentence_record x = cc in
    let tail : map sentence_of rows ≡ map sentence_record xs = cc in
    let batch : r.batch ≡ x.batch = ap (λ (y : records.Sentence). y.batch) head in
    let its_words : r.words ≡ words x = ap (λ (y : records.Sentence). y.words) head in
    let at : n ≡ n + 0 = omega arith in
    let flag : is_listed n pulled ≡ x.pulled = ap (λ k. is_listed k pulled) at ∙ flags 0 x refl in
    let c = slice_index_or cs i no_count in
    let next = change_of (counted n r.words (is_listed n pulled)) r.batch cs in
    let rest = counted_are pulled (n + 1) rows xs (omega (arith, low)) tail
    (λ j y got. (let e : n + 1 + j ≡ n + suc j = omega arith in ap (λ k. is_listed k pulled) e ∙ flags (suc j) y got))
    next i (let size = length_of (counted n r.words (is_listed n pulled)) r.batch cs in omega (arith, within, size)) in
    let here : slice_index_or next i no_count ≡ cond (nat_eq x.batch (i + 1)) (counted n (words x) x.pulled c) c =
    changed_there (counted n r.words (is_listed n pulled)) r.batch cs i within
    ∙ ap (λ m. cond (nat_eq m (i + 1)) (counted n r.words (is_listed n pulled) c) c) batch
    ∙ ap (λ m. cond (nat_eq x.batch (i + 1)) (counted n m (is_listed n pulled) c) c) its_words
    ∙ ap (λ p. cond (nat_eq x.batch (i + 1)) (counted n (words x) p c) c) flag in
    rest ∙ ap (count_on (i + 1) (n + 1) xs) here
    ∙ one_on n c.first c.sentences c.words c.pulled c.pulled_words (words x) (first_from (i + 1) (n + 1) xs) (weigh (at_work (i + 1) one) xs) (weigh (at_work (i + 1) words) xs) (weigh (taken_out (i + 1) one) xs)
    (weigh (taken_out (i + 1) words) xs) low (nat_eq x.batch (i + 1)) x.pulled

pub are_counts : (batches : ℕ) (pulled : List ℕ) (rows : List SentenceRow) (xs : List Sentence) (cs : List Count) → map sentence_of rows ≡ map sentence_record xs → pulled ≡ pulled_from 1 xs
    → (IsAscending (λ a b. a < b) pulled → cs ≡ count_all pulled 1 rows (replicate batches no_count)) → AreCounts batches xs cs
are_counts batches pulled rows xs cs same pulled_is reported place within =
    let up : IsAscending (λ a b. a < b) pulled = subst (IsAscending (λ a b. a < b)) (sym pulled_is) (pulled_ascends 1 xs) in
    let flags : (i : ℕ) (x : Sentence) → slice_get xs i ≡ Some x → is_listed (1 + i) pulled ≡ x.pulled = λ i x got. ap (is_listed (1 + i)) pulled_is ∙ listed_pulled (1 + i) 1 xs i x refl got in
    let size = length_none batches in
    ap (λ l. slice_index_or l place no_count) (reported up)
    ∙ counted_are pulled 1 rows xs (omega arith) same flags (replicate batches no_count) place (omega (arith, within, size))
    ∙ ap (count_on (place + 1) 1 xs) (none_at batches place)

-- ---- the lines

same_line : (n : ℕ) (b : Batch) (f s w o q g t v p r : ℕ) → f ≡ g → s ≡ t → w ≡ v → o ≡ p → q ≡ r
    → (let x : BatchText = record { no = n; name = b.name; state = b.state; worker = b.worker; first = f; sentences = s; words = w; pulled = o; pulled_words = q } in x)
    ≡ record { no = n; name = b.name; state = b.state; worker = b.worker; first = g; sentences = t; words = v; pulled = p; pulled_words = r }
same_line n b f s w o q g t v p r d e h k l = λ i. record { no = n; name = b.name; state = b.state; worker = b.worker; first = d i; sentences = e i; words = h i; pulled = k i; pulled_words = l i }

pub lines_are : (cs : List Count) (xs : List Sentence) (m : ℕ) (bs : List Batch) → ((place : ℕ) → place < m + length bs → slice_index_or cs place no_count ≡ count_on (place + 1) 1 xs no_count)
    → lines_with cs (m + 1) bs ≡ lines_from xs (m + 1) bs
lines_are cs xs m [] h = refl
lines_are cs xs m (b ∷ bs) h =
    let at : m + 1 - 1 ≡ m = omega arith in
    let here = ap (λ k. slice_index_or cs k no_count) at ∙ h m (omega arith) in
    let line : line_with (m + 1) b (slice_index_or cs (m + 1 - 1) no_count) ≡ batch_line xs (m + 1) b = ap (line_with (m + 1) b) here ∙ same_line (m + 1) b _ _ _ _ _ _ _ _ _ _ (seen_now (first_from (m + 1) 1 xs)) (omega arith) (omega arith) (omega arith) (omega arith) in
    ap₂ (λ l ls. l ∷ ls) line (lines_are cs xs (m + 1) bs (λ place within. h place (omega (arith, within))))

pub batch_there : (rows : List BatchRow) (bs : List Batch) (i : ℕ) (row : BatchRow) → i < length rows → row ≡ get_or rows i row → map batch_of rows ≡ map batch_record bs → (b : Batch) × (drop i bs ≡ b ∷ drop (i + 1) bs) × (batch_of row ≡ batch_record b)
batch_there [] bs i row low is same = absurd (omega (arith, low))
batch_there (r ∷ rows) [] i row low is same = absurd cc
batch_there (r ∷ rows) (b ∷ bs) zero row low is same = (b, refl, ap batch_of is ∙ (let head : batch_of r ≡ batch_record b = cc in head))
batch_there (r ∷ rows) (b ∷ bs) (suc i) row low is same =
    let it = batch_there rows bs i row (omega (arith, low)) is (let tail : map batch_of rows ≡ map batch_record bs = cc in tail) in
    (it.0, it.1 ∙ ap (λ m. it.0 ∷ drop m (b ∷ bs)) (let e : suc (i + 1) ≡ suc i + 1 = omega arith in e), it.2)

-- one turn
pub line_more : (cs : List Count) (rows : List BatchRow) (i : ℕ) (row : BatchRow) (c : Count) (n : ℕ) (line : BatchText) (found new : List BatchText) (bs : List Batch) → i < length rows → row ≡ get_or rows i row → map batch_of rows ≡ map batch_record bs
    → n ≡ i + 1 → c ≡ slice_index_or cs i no_count → ((b : Batch) → batch_of row ≡ batch_record b → line ≡ line_with n b c) → new ≡ found ++ line ∷ []
    → found ++ lines_with cs (i + 1) (drop i bs) ≡ lines_with cs 1 bs → new ++ lines_with cs (i + 1 + 1) (drop (i + 1) bs) ≡ lines_with cs 1 bs
line_more cs rows i row c n line found new bs low is same number_is count_is line_is new_is was =
    let it = batch_there rows bs i row low is same in
    let at : i ≡ i + 1 - 1 = omega arith in
    let line_here : line ≡ line_with (i + 1) it.0 (slice_index_or cs (i + 1 - 1) no_count) =
    line_is it.0 it.2 ∙ ap (λ k. line_with k it.0 c) number_is ∙ ap (line_with (i + 1) it.0) (count_is ∙ ap (λ k. slice_index_or cs k no_count) at) in
    ap (λ l. l ++ lines_with cs (i + 1 + 1) (drop (i + 1) bs)) (new_is ∙ ap (λ x. found ++ x ∷ []) line_here)
    ∙ append_assoc found (line_with (i + 1) it.0 (slice_index_or cs (i + 1 - 1) no_count) ∷ []) (lines_with cs (i + 1 + 1) (drop (i + 1) bs))
    ∙ ap (λ l. found ++ lines_with cs (i + 1) l) (sym it.1) ∙ was
