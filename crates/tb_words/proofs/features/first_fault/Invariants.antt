use denote.Shadow.{shadow}
use denote.Text.{Utf8}
use Rattle.std.proofs.Common.{◌≡◌, ◌-◌, ◌≤◌, length}
use Rattle.tb_words.specs.FeatureFaults.{AreRight, feature_at}
use Rattle.tb_words.proofs.features.first_fault.Given as goal

abbrev pub invariant-loop-before : goal.invariant-loop-before
invariant-loop-before l =
    shadow (Utf8 l.last) × AreRight l.feats (length l.yielded)
    × (1 ≤ length l.yielded → l.last ≡ feature_at l.feats (length l.yielded - 1))
