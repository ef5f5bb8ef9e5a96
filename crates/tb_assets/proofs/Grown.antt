-- A page that grows by one text after the other.
use Rattle.std.proofs.Common.{◌≡◌, ◌∙◌, ℕ, List, ◌++◌, append_assoc, ap₂}

-- What has grown by some text grows by one more.
pub one_more : (old before now : List ℕ) (grown piece more : List ℕ) → before ≡ old ++ grown → now ≡ before ++ piece → piece ≡ more
    → now ≡ old ++ (grown ++ more)
one_more old before now grown piece more first next same = next ∙ ap₂ (λ a b. a ++ b) first same ∙ append_assoc old grown more
