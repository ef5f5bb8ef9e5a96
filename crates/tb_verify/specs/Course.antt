-- Between crates: no contract of a front door cites a definition of this module.
-- What the rows of one sentence say, and when they are those of a sentence.
use Rattle.std.specs.Prelude.{◌≡◌, ℕ, ◌+◌, ◌-◌, List, [], ◌∷◌, length, map, Bool, true, false, ◌&&◌, not, nat_eq}
use Rattle.std.specs.Prelude.{bytes_eq, Option, Some, None, slice_get}
use Rattle.std.specs.List.{list_all}
use Rattle.tb_conllu.specs.Text.{BlockText, text_of}
use Rattle.tb_conllu.specs.Words.{words_of}
use Rattle.tb_core.specs.Keeping.{IsFine}
use Rattle.tb_core.specs.Machine as machine
use Rattle.tb_core.specs.Machine.{sent_id_of, text_value_of, revisions}
use Rattle.tb_core.specs.Rows.{revision_rows}
use Rattle.tb_replay.specs.Summaries as replay
use Rattle.tb_refine.specs.DeskTables.{sentence_record, revision_record}
use Rattle.tb_tables.specs.Records.{Sentence, Revision}

-- the text of one sentence
abbrev pub own_text : BlockText → List ℕ
own_text b = text_of (b ∷ [])

-- The sentence with this number has this row and these revisions, and is pulled or not. Each revision keeps the rules,
-- with the row's `sent_id` and text, and differs from the one before.
pub record IsReadBack (number : ℕ) (reported : Sentence) (flag : Bool) (rows : List Revision) (x : machine.Sentence) : Type 0 where
  pub row : sentence_record x ≡ reported
  pub pulled : x.pulled ≡ flag
  pub revised : map revision_record (revision_rows number 1 (revisions x)) ≡ rows
  pub fine : IsFine x

-- ---- the tests

-- the revisions are of the sentence with this number, and are numbered from this number on
abbrev pub is_numbered : ℕ → ℕ → Revision → Bool
is_numbered n k r = nat_eq r.sent n && nat_eq r.rev k

abbrev pub are_numbered : ℕ → ℕ → List Revision → Bool
are_numbered n k [] = true
are_numbered n k (r ∷ rs) = is_numbered n k r && are_numbered n (k + 1) rs

-- no text is the same as the one before
abbrev pub are_new : List (List ℕ) → Bool
are_new [] = true
are_new (a ∷ []) = true
are_new (a ∷ b ∷ ts) = not (bytes_eq a b) && are_new (b ∷ ts)

abbrev pub is_titled : List ℕ → BlockText → Bool
is_titled name b = bytes_eq (sent_id_of b) name

abbrev pub is_spelled : List ℕ → BlockText → Bool
is_spelled value b = bytes_eq (text_value_of b) value

-- the last sentence has n words, and all have the same `text` as it
abbrev pub ends_as : ℕ → List BlockText → Option BlockText → Bool
ends_as n bs None = false
ends_as n bs (Some b) = nat_eq (words_of b) n && list_all (is_spelled (text_value_of b)) bs

-- the row agrees with the sentences that its revisions hold
abbrev pub is_reported : Sentence → List BlockText → Bool
is_reported s bs = list_all (is_titled s.sent_id) bs && (nat_eq (length bs) s.rev && ends_as s.words bs
    (slice_get bs (length bs - 1)))

abbrev pub text_in : Revision → List ℕ
text_in r = r.body

abbrev pub is_course : ℕ → Sentence → List Revision → List BlockText → Bool
is_course n s rs bs = are_numbered n 1 rs && (are_new (map text_in rs) && is_reported s bs)

-- for each revision its user and the words of its text
abbrev pub rows_reported : List Revision → List BlockText → List replay.RevisionRow
rows_reported [] bs = []
rows_reported (r ∷ rs) [] = []
rows_reported (r ∷ rs) (b ∷ bs) = record { who = r.who; words = words_of b } ∷ rows_reported rs bs
