use Rattle.std.proofs.Common.{◌≡◌, false, length, take, true}
use Rattle.std.specs.List.{list_all, list_any, slice_split}
use Rattle.tb_fields.specs.Feats.{is_bar, is_comma, is_label}
use Rattle.tb_words.proofs.features.are_labels.Given as goal

abbrev pub invariant-loop-value : goal.invariant-loop-value
invariant-loop-value l =
    list_any is_bar l.values ≡ false → list_all is_label (take (length l.yielded) (slice_split is_comma l.values)) ≡ true
