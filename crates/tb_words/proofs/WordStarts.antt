-- The place after the last byte of a kind of what is before a place.
use Rattle.std.proofs.Common.{◌≡◌, ◌∙◌, ◌+◌, ◌-◌, ◌^◌, ◌<◌, ◌≤◌, ℕ, List, Option, Some, None, MatchOption, ap, arith, get_or, inl, inr, length, length-take-le, min, refl, slice_index, sym, take}
use Rattle.std.proofs.lemmas.List.{get_or-take}
use Rattle.std.proofs.lemmas.Str.Pattern.{rfind_char}
use Rattle.std.specs.Str.{IsCharBoundary}
use Rattle.std.specs.Str.Pattern.{RFindsChar}
use Rattle.tb_words.specs.Spelled.{IsAfterLast}

abbrev pub Found : (byte : ℕ) → List ℕ → Option ℕ → Type 0
Found byte front place =
    MatchOption place (RFindsChar byte front None) (λ i. (j : ℕ) × RFindsChar byte front (Some (i, j)) × (i ≤ j)
    × IsCharBoundary front i × IsCharBoundary front j)

pub after_none : (byte : ℕ) (text front : List ℕ) (at : ℕ) (place : Option ℕ) → byte < 128 → at ≤ length text → front ≡ take at text
    → place ≡ None → Found byte front place → IsAfterLast byte text at 0
after_none byte text front at place small within is none found =
    let far = rw none at (rfind_char byte front place found small) in (
      omega arith,
      inl refl,
      λ k start less.
          let short : length front ≡ at = ap (λ (t : List ℕ). length t) is ∙ length-take-le at text within in
          let here : get_or front k 0 ≡ slice_index text k = ap (λ (t : List ℕ). get_or t k 0) is ∙ get_or-take at text k 0 less in
          λ e. far k (omega (arith, short, less)) (here ∙ e),
    )

pub after_one : (byte : ℕ) (text front : List ℕ) (at : ℕ) (place : Option ℕ) (before start : ℕ) → byte < 128 → at ≤ length text
    → front ≡ take at text → place ≡ Some before → Found byte front place → start ≡ min (before + 1) (2 ^ 64 - 1) → at < 2 ^ 64
    → IsAfterLast byte text at start
after_one byte text front at place before start small within is some found start_is fits =
    let near = rw some at (rfind_char byte front place found small) in
    let short : length front ≡ at = ap (λ (t : List ℕ). length t) is ∙ length-take-le at text within in
    let next : start ≡ before + 1 = omega (arith, near.0, short, within, start_is, fits) in
    let same : start - 1 ≡ before = omega (arith, next) in
    let there : (k : ℕ) → k < at → get_or front k 0 ≡ slice_index text k = λ k less. ap (λ (t : List ℕ). get_or t k 0) is ∙ get_or-take at text k 0 less in (
      omega (arith, next, near.0, short),
      inr (ap (λ (k : ℕ). slice_index text k) same ∙ (sym (there before (omega (arith, near.0, short))) ∙ near.1)),
      λ k from less e. near.2 k (omega (arith, from, next)) (omega (arith, short, less)) (there k less ∙ e),
    )
