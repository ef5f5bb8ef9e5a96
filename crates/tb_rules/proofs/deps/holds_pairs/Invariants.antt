use Rattle.std.proofs.Common.{◌≡◌, length}
use denote.Text.{Utf8}
use denote.Shadow.{shadow}
use Rattle.std.specs.List.{slice_split}
use Rattle.tb_fields.specs.Feats.{is_bar}
use Rattle.tb_rules.specs.Places.{are_placed_pairs}
use Rattle.tb_rules.proofs.deps.holds_pairs.Given as goal

abbrev pub invariant-loop-pair : goal.invariant-loop-pair
invariant-loop-pair g l = shadow (Utf8 l.left) × (are_placed_pairs l.heads.rows.now (slice_split is_bar l.left) ≡ are_placed_pairs l.heads.rows.now (slice_split is_bar l.fn.text))

abbrev pub decreases-loop-pair : goal.decreases-loop-pair
decreases-loop-pair g l = length l.left
