use Rattle.std.proofs.Common.{◌≡◌, length, false}
use denote.Text.{Utf8}
use denote.Shadow.{shadow}
use Rattle.std.specs.List.{before_first, slice_split}
use Rattle.tb_fields.specs.Feats.{is_comma, is_label, are_values}
use Rattle.tb_fields.specs.Seen.{has_come}
use Rattle.tb_fields.proofs.Twice.{are_new_values}
use Rattle.tb_fields.proofs.feats.holds_many_values.Given as goal

abbrev pub invariant-loop-value : goal.invariant-loop-value
invariant-loop-value l = shadow (Utf8 l.left) × (are_new_values (has_come l.seen) (slice_split is_comma l.left) ≡ are_values (slice_split is_comma l.fn.text)) × (is_label (before_first is_comma l.fn.text) ≡ false → l.left ≡ l.fn.text)

abbrev pub decreases-loop-value : goal.decreases-loop-value
decreases-loop-value l = length l.left
