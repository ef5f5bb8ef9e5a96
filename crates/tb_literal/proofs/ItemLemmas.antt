-- The first piece of a list, as `split_once` gives it.
use Rattle.std.proofs.Common.{◌≡◌, ◌≢◌, ◌<◌, ℕ, List, [], ◌∷◌, length, get_or, Option, None, Some, false, ◌∙◌, ap, refl, Bor, arith, MatchOption, All}
use Rattle.std.proofs.lemmas.Str.Pattern.{IsSplitOnceResult, split_parts}
use Rattle.std.proofs.lemmas.List.{get_or_default}
use Rattle.std.proofs.lemmas.List.Splits.{slice_split_none, slice_split_at}
use Rattle.std.proofs.lemmas.Bool.Decides.{nat_tests}
use Rattle.tb_literal.specs.Items.{is_bar, pieces}

no_bar : (xs : List ℕ) → ((i : ℕ) → i < length xs → get_or xs i 0 ≢ 0x7C) → All (λ x. is_bar x ≡ false) xs
no_bar xs h = λ k d lt. let ne : get_or xs k d ≢ 0x7C = rw (get_or_default xs k d 0 lt) (h k lt) in grind (arith, nat_tests)

pub cut_of : (rest : List ℕ) (r : Option (Bor (List ℕ) × Bor (List ℕ))) → IsSplitOnceResult 0x7C rest r →
    MatchOption r (pieces rest ≡ rest ∷ []) (λ x. pieces rest ≡ x.0.now ∷ pieces x.1.now)
cut_of rest None h = slice_split_none is_bar rest (no_bar rest (split_parts 0x7C rest None h (omega arith)))
cut_of rest (Some x) h =
    let parts = split_parts 0x7C rest (Some x) h (omega arith) in
    ap pieces parts.0 ∙ slice_split_at is_bar x.0.now 0x7C x.1.now (no_bar x.0.now parts.1) refl
