use Rattle.std.proofs.Common.{◌≡◌, [], true, length}
use denote.Text.{Utf8}
use denote.Shadow.{shadow}
use Rattle.std.specs.List.{slice_split}
use Rattle.tb_fields.specs.Feats.{is_bar}
use Rattle.tb_fields.specs.Rising.{are_rising}
use Rattle.tb_fields.proofs.rising.holds_rising_features.Given as goal

abbrev pub invariant-loop-item : goal.invariant-loop-item
invariant-loop-item l = shadow (Utf8 l.left) × shadow (Utf8 l.last) × (are_rising l.last (slice_split is_bar l.left) ≡ true → are_rising [] (slice_split is_bar l.fn.text) ≡ true)

abbrev pub decreases-loop-item : goal.decreases-loop-item
decreases-loop-item l = length l.left
