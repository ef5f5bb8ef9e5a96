-- Inner: no contract beyond this crate cites a definition of this module.
-- The depth of a word: the number of steps along the heads from it to the root. The heads fix it.
use Rattle.std.specs.Prelude.{◌≡◌, ℕ, ◌+◌, ◌<◌, ◌≢◌, List, length, slice_index}
use Rattle.tb_rules.specs.Tree.{walk}

-- From word k, d steps along the heads lead to 0, and fewer do not.
pub record IsDepth (heads : List ℕ) (k d : ℕ) : Type 0 where
  pub arrives : walk heads d k ≡ 0
  pub no_sooner : (n : ℕ) → n < d → walk heads n k ≢ 0

-- A table of depths: that of word k + 1 at place k, or 0 where it is not known yet.
pub record AreDepths (heads depths : List ℕ) : Type 0 where
  pub as_many : length depths ≡ length heads
  pub exact : (k : ℕ) → k < length depths → slice_index depths k ≢ 0
      → IsDepth heads (k + 1) (slice_index depths k)
