use Rattle.std.proofs.Common.{◌≡◌, length}
use denote.Text.{Utf8}
use denote.Shadow.{shadow}
use Rattle.std.specs.List.{list_any, slice_split}
use Rattle.std.specs.Str.{bytes_eq}
use Rattle.tb_fields.specs.Feats.{is_bar}
use Rattle.tb_rules.proofs.spelling.has_item.Given as goal

abbrev pub invariant-loop-item : goal.invariant-loop-item
invariant-loop-item l = shadow (Utf8 l.left) × (list_any (bytes_eq l.fn.wanted) (slice_split is_bar l.left) ≡ list_any (bytes_eq l.fn.wanted) (slice_split is_bar l.fn.misc))

abbrev pub decreases-loop-item : goal.decreases-loop-item
decreases-loop-item l = length l.left
