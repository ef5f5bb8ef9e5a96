-- The words that `split_whitespace` gives.
use Rattle.std.proofs.Common.{ℕ, List, [], ◌∷◌, Bor, None, map, subst, sym}
use Rattle.std.specs.Char.{is_not_whitespace}
use Rattle.std.specs.Iterator.{Yields}
use Rattle.std.specs.Str.{NoCharPasses}
use Rattle.std.specs.Str.Iter.{split_whitespace_rest, split_whitespace_steps}
use Rattle.tb_words.specs.LineFaults.{AreWords}

pub words_drained : (xs : List (Bor (List ℕ))) (s t u : _) → Yields split_whitespace_steps s xs t
    → split_whitespace_steps t None u → AreWords (split_whitespace_rest s) (map (λ (x : Bor (List ℕ)). x.now) xs)
words_drained [] s t u yields none =
    subst (λ j. NoCharPasses is_not_whitespace (split_whitespace_rest j)) (sym yields) none.1
words_drained (x ∷ xs) s t u (j, step, more) none =
    (step.0, split_whitespace_rest j, step.1, step.2, step.3, step.4, step.5, words_drained xs j t u more none)
