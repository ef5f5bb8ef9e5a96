-- Between crates: no contract of a front door cites a definition of this module.
-- What records say of the state that they store.
use Rattle.std.specs.Prelude.{◌≡◌, ◌+◌, ℕ, [], ◌∷◌, Some, slice_get, IsPermutation}
use Rattle.tb_conllu.specs.Text.{text_of}
use Rattle.tb_core.specs.Machine as machine
use Rattle.tb_core.specs.Machine.{Machine, revisions}
use Rattle.tb_tables.specs.Records.{Tables, Revision}

-- the same records, with revisions and pulled numbers in any order
pub record IsSame (d e : Tables) : Type 0 where
  pub batches : d.batches ≡ e.batches
  pub sentences : d.sentences ≡ e.sentences
  pub revisions : IsPermutation d.revisions e.revisions
  pub moves : d.moves ≡ e.moves
  pub totals : d.totals ≡ e.totals
  pub pulled : IsPermutation d.pulled e.pulled

-- the record of revision `rev` of sentence `sent`, both from 1
abbrev pub revision_shown_as : ℕ → ℕ → machine.Revision → Revision
revision_shown_as sent rev q = record { sent = sent; rev = rev; who = q.who; body = text_of (q.body ∷ []) }

-- the record of some revision of some sentence
pub record IsRevisionOf (s : Machine) (r : Revision) : Type 0 where
  pub place : ℕ
  pub sentence : machine.Sentence
  pub there : slice_get s.sentences place ≡ Some sentence
  pub index : ℕ
  pub revision : machine.Revision
  pub revised : slice_get (revisions sentence) index ≡ Some revision
  pub is : r ≡ revision_shown_as (place + 1) (index + 1) revision
