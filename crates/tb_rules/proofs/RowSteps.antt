use Rattle.std.proofs.Common.{◌≡◌, ℕ, ◌+◌, ◌<◌, List, length, take, get_or, true, false, refl, sym, ◌∙◌, ap, below_more}
use Rattle.std.proofs.lemmas.List.{get_or_default}
use Rattle.tb_conllu.specs.Text.{RowText}
use Rattle.tb_rules.specs.Rows.{RowTest, FirstRowsPass, IsFirstFault}

-- the row at a place, whatever the default
at_place : (rs : List RowText) (i : ℕ) (r d : RowText) → i < length rs → r ≡ get_or rs i r → get_or rs i d ≡ r
at_place rs i r d l e = get_or_default rs i d r l ∙ sym e

-- one more row passes
pub one_more_passes : (test : RowTest) (rs : List RowText) (i : ℕ) (r : RowText) → i < length rs → r ≡ get_or rs i r → FirstRowsPass test rs i → test (take i rs) r ≡ true → FirstRowsPass test rs (i + 1)
one_more_passes test rs i r l e before here k d =
    below_more (λ j. test (take j rs) (get_or rs j d) ≡ true) i (λ j h. before j d h) (ap (test (take i rs)) (at_place rs i r d l e) ∙ here) k

-- the row after those that pass fails
pub first_fails : (test : RowTest) (rs : List RowText) (i : ℕ) (r : RowText) → i < length rs → r ≡ get_or rs i r → FirstRowsPass test rs i → test (take i rs) r ≡ false → IsFirstFault test rs (i + 1)
first_fails test rs i r l e before here = record {
  place = i;
  counted = refl;
  within = l;
  fails = λ d. ap (test (take i rs)) (at_place rs i r d l e) ∙ here;
  before = before;
}
