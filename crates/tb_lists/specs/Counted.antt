-- Inner: no contract beyond this crate cites a definition of this module.
-- What is counted for each batch, sentence by sentence.
use Rattle.std.specs.Prelude.{◌≡◌, ℕ, zero, suc, ◌+◌, ◌-◌, ◌*◌, ◌^◌, ◌<◌, ◌≤◌, List, [], ◌∷◌, Bool, true, false}
use Rattle.std.specs.Prelude.{cond, nat_eq, slice_index_or}
use Rattle.tb_core.specs.Machine.{Batch, Sentence, change_at, weigh, at_work, one, words}
use Rattle.tb_tables.specs.declared.rows.SentenceRow.{SentenceRow}
use Rattle.tb_refine.specs.Listed.{is_listed}
use Rattle.tb_lists.specs.declared.counting.Count.{Count}
use Rattle.tb_lists.specs.Batches.{BatchText, first_from, taken_out}

abbrev pub no_count : Count
no_count = record { first = 0; sentences = 0; words = 0; pulled = 0; pulled_words = 0 }

-- the number of the first sentence that was seen
abbrev pub first_seen : ℕ → ℕ → ℕ
first_seen number first = cond (nat_eq first 0) number first

-- the count with one more sentence, which has this number and so many words
abbrev pub counted : ℕ → ℕ → Bool → Count → Count
counted number words true c = record {
  first = first_seen number c.first;
  sentences = c.sentences;
  words = c.words;
  pulled = c.pulled + 1;
  pulled_words = c.pulled_words + words;
}
counted number words false c = record {
  first = first_seen number c.first;
  sentences = c.sentences + 1;
  words = c.words + words;
  pulled = c.pulled;
  pulled_words = c.pulled_words;
}

-- the counts, with that of the batch with this number changed
abbrev pub change_of : (Count → Count) → ℕ → List Count → List Count
change_of f zero cs = cs
change_of f (suc place) cs = change_at f cs place

-- the counts after all rows, the first of which has the number n
abbrev pub count_all : List ℕ → ℕ → List SentenceRow → List Count → List Count
count_all pulled n [] cs = cs
count_all pulled n (r ∷ rs) cs =
    count_all pulled (n + 1) rs (change_of (counted n r.words (is_listed n pulled)) r.batch cs)

-- at most n sentences were counted
pub record IsOfSoMany (n : ℕ) (c : Count) : Type 0 where
  pub sentences : c.sentences ≤ n
  pub words : c.words ≤ n * 2 ^ 32
  pub pulled : c.pulled ≤ n
  pub pulled_words : c.pulled_words ≤ n * 2 ^ 32

-- The count of a batch after these sentences, the first of which has the number n, from this count on.
abbrev pub count_on : ℕ → ℕ → List Sentence → Count → Count
count_on batch n xs c = record {
  first = first_seen (first_from batch n xs) c.first;
  sentences = c.sentences + weigh (at_work batch one) xs;
  words = c.words + weigh (at_work batch words) xs;
  pulled = c.pulled + weigh (taken_out batch one) xs;
  pulled_words = c.pulled_words + weigh (taken_out batch words) xs;
}

-- the counts of so many batches, by number
abbrev pub AreCounts : ℕ → List Sentence → List Count → Type 0
AreCounts batches xs cs =
    (place : ℕ) → place < batches → slice_index_or cs place no_count ≡ count_on (place + 1) 1 xs no_count

-- a batch with its number and its count
abbrev pub line_with : ℕ → Batch → Count → BatchText
line_with n b c = record {
  no = n;
  name = b.name;
  state = b.state;
  worker = b.worker;
  first = c.first;
  sentences = c.sentences;
  words = c.words;
  pulled = c.pulled;
  pulled_words = c.pulled_words;
}

-- batches, the first of which has this number
abbrev pub lines_with : List Count → ℕ → List Batch → List BatchText
lines_with cs n [] = []
lines_with cs n (b ∷ bs) = line_with n b (slice_index_or cs (n - 1) no_count) ∷ lines_with cs (n + 1) bs
