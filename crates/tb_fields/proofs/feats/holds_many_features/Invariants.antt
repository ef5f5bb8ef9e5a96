use Rattle.std.proofs.Common.{◌≡◌, length, false}
use denote.Text.{Utf8}
use denote.Shadow.{shadow}
use Rattle.std.specs.List.{before_first, slice_split}
use Rattle.tb_fields.specs.Feats.{is_bar, are_features}
use Rattle.tb_fields.specs.Begun.{begins_as_feature}
use Rattle.tb_fields.specs.Seen.{has_come}
use Rattle.tb_fields.proofs.Twice.{are_new_features}
use Rattle.tb_fields.proofs.feats.holds_many_features.Given as goal

abbrev pub invariant-loop-item : goal.invariant-loop-item
invariant-loop-item l = shadow (Utf8 l.left) × (are_new_features (has_come l.seen) (slice_split is_bar l.left) ≡ are_features (slice_split is_bar l.fn.text)) × (begins_as_feature (before_first is_bar l.fn.text) ≡ false → l.left ≡ l.fn.text)

abbrev pub decreases-loop-item : goal.decreases-loop-item
decreases-loop-item l = length l.left
