use Rattle.std.proofs.Common.{◌≡◌, length, map}
use denote.Text.{Utf8}
use denote.Shadow.{shadow}
use Rattle.std.specs.List.{list_any, slice_split}
use Rattle.std.specs.Str.{bytes_eq}
use Rattle.tb_fields.specs.Feats.{is_bar, feature_name}
use Rattle.tb_fields.proofs.feats.has_name.Given as goal

abbrev pub invariant-loop-item : goal.invariant-loop-item
invariant-loop-item l = shadow (Utf8 l.left) × (list_any (bytes_eq l.fn.name) (map feature_name (slice_split is_bar l.left)) ≡ list_any (bytes_eq l.fn.name) (map feature_name (slice_split is_bar l.fn.text)))

abbrev pub decreases-loop-item : goal.decreases-loop-item
decreases-loop-item l = length l.left
