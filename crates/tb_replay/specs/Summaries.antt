-- Between crates: no contract of a front door cites a definition of this module.
-- Sentences without their texts: for each revision its user and the number of its words.
use Rattle.std.specs.Prelude.{ℕ, List, Bool, map}
use Rattle.tb_conllu.specs.Words.{words_of}
use Rattle.tb_core.specs.Machine.{Revision, Sentence, revisions}

pub record RevisionRow : Type 0 where
  pub who : List ℕ
  pub words : ℕ

pub record SummaryRow : Type 0 where
  pub batch : ℕ
  pub pulled : Bool
  pub revisions : List RevisionRow

abbrev pub row_of : Revision → RevisionRow
row_of r = record { who = r.who; words = words_of r.body }

abbrev pub entry_of : Sentence → SummaryRow
entry_of x = record { batch = x.batch; pulled = x.pulled; revisions = map row_of (revisions x) }

abbrev pub entries_of : List Sentence → List SummaryRow
entries_of xs = map entry_of xs
