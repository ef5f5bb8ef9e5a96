-- Between crates: no contract of a front door cites a definition of this module.
-- What one pass over all bytes shows of each of their lines.
use Rattle.std.specs.Prelude.{◌≡◌, ℕ, List, IsTrue, false}
use Rattle.std.specs.List.{list_any}
use Rattle.std.specs.Str.{IsUtf8}
use Rattle.tb_conllu.specs.Plain.{is_stray, is_beyond_latin}
use Rattle.tb_conllu.specs.Shape.{is_control}
use Rattle.tb_conllu.specs.declared.linetext.Tested.{Tested}

-- it holds of these bytes, which may hold line feeds
pub record HoldsOf (t : Tested) (bs : List ℕ) : Type 0 where
  pub quiet : IsTrue t.quiet → list_any is_stray bs ≡ false
  pub utf8 : IsTrue t.utf8 → IsUtf8 bs
  pub latin : IsTrue t.latin → list_any is_beyond_latin bs ≡ false

-- it holds of this line
pub record HoldsOfLine (t : Tested) (raw : List ℕ) : Type 0 where
  pub quiet : IsTrue t.quiet → list_any is_control raw ≡ false
  pub utf8 : IsTrue t.utf8 → IsUtf8 raw
  pub latin : IsTrue t.latin → list_any is_beyond_latin raw ≡ false
