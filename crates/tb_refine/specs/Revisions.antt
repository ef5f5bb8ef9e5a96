-- The revisions of a sentence.
use Rattle.std.specs.Prelude.{◌≡◌, ℕ, ◌-◌, ◌<◌, Some, slice_get}
use Rattle.tb_core.specs.Machine.{Sentence, Revision, revisions}

-- the revision of a sentence with this number, from 1
pub record HasRevision (x : Sentence) (n : ℕ) (r : Revision) : Type 0 where
  pub counted : 0 < n
  pub there : slice_get (revisions x) (n - 1) ≡ Some r
