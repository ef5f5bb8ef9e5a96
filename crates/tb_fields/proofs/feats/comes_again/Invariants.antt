use Rattle.std.proofs.Common.{◌≡◌, length}
use denote.Text.{Utf8}
use denote.Shadow.{shadow}
use Rattle.std.specs.List.{list_any, slice_split}
use Rattle.std.specs.Str.{bytes_eq}
use Rattle.tb_fields.specs.Feats.{is_comma}
use Rattle.tb_fields.proofs.feats.comes_again.Given as goal

abbrev pub invariant-loop-next : goal.invariant-loop-next
invariant-loop-next l = shadow (Utf8 l.left) × (list_any (bytes_eq l.fn.value) (slice_split is_comma l.left) ≡ list_any (bytes_eq l.fn.value) (slice_split is_comma l.fn.text))

abbrev pub decreases-loop-next : goal.decreases-loop-next
decreases-loop-next l = length l.left
