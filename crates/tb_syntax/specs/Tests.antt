-- Token expressions as plain data: tests of one word, with each `!`. A literal may be anything: its number in the text
-- of a query, or its text.
use Rattle.std.specs.Prelude.{ℕ, zero, suc, List, [], ◌∷◌, ◌++◌}
use Rattle.tb_syntax.specs.declared.lexeme.Attr.{Attr}

mutual
  pub data Test (L : Type 0) : Type 0 where
    -- any word
    every : Test L
    -- the literal fits the whole value of a column
    whole : Attr → L → Test L
    -- the literal fits some item of the features
    feature : L → Test L
    -- the test does not hold
    negated : Test L → Test L
    -- all of the tests hold
    both : Tests L → Test L
    -- one of the tests holds
    either : Tests L → Test L

  pub data Tests (L : Type 0) : Type 0 where
    no_test : Tests L
    and_test : Test L → Tests L → Tests L

abbrev pub tests : {L : Type 0} → List (Test L) → Tests L
tests [] = no_test
tests (t ∷ ts) = and_test t (tests ts)

-- negated this many times
abbrev pub denied_times : {L : Type 0} → ℕ → Test L → Test L
denied_times zero t = t
denied_times (suc n) t = denied_times n (negated t)

-- the literals of a test, in the order of the text
abbrev mutual
  pub literals : {L : Type 0} → Test L → List L
  literals every = []
  literals (whole a l) = l ∷ []
  literals (feature l) = l ∷ []
  literals (negated t) = literals t
  literals (both ts) = all_literals ts
  literals (either ts) = all_literals ts

  pub all_literals : {L : Type 0} → Tests L → List L
  all_literals no_test = []
  all_literals (and_test t ts) = literals t ++ all_literals ts

-- the literals of one test after another
abbrev pub literals_of : {L : Type 0} → List (Test L) → List L
literals_of [] = []
literals_of (t ∷ ts) = literals t ++ literals_of ts

-- a test in which f of each literal replaces the literal
abbrev mutual
  pub with_each : {L M : Type 0} → (L → M) → Test L → Test M
  with_each f every = every
  with_each f (whole a l) = whole a (f l)
  with_each f (feature l) = feature (f l)
  with_each f (negated t) = negated (with_each f t)
  with_each f (both ts) = both (all_with_each f ts)
  with_each f (either ts) = either (all_with_each f ts)

  pub all_with_each : {L M : Type 0} → (L → M) → Tests L → Tests M
  all_with_each f no_test = no_test
  all_with_each f (and_test t ts) = and_test (with_each f t) (all_with_each f ts)
