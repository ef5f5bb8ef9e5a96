use Rattle.std.proofs.Common.{◌≡◌, false, length, take}
use Rattle.std.specs.List.{list_any}
use Rattle.tb_words.specs.FeatureFaults.{features_of, shares_name}
use Rattle.tb_words.proofs.features.is_named_before.Given as goal

abbrev pub invariant-loop-earlier : goal.invariant-loop-earlier
invariant-loop-earlier l =
    list_any (shares_name l.item) (take (length l.yielded) (take l.before (features_of l.feats))) ≡ false
