-- Between crates: no contract of a front door cites a definition of this module.
-- Bytes that are in the text of each sentence in which a query has a hit: the needles of a prefilter (regex-automata).
use Rattle.std.specs.Prelude.{◌≡◌, ℕ, zero, suc, List, [], ◌∷◌, ◌++◌, Bool, true, false, nat_eq}
use Rattle.std.specs.Prelude.{if◌then◌else◌, Some, slice_get, ⊤}
use Rattle.std.specs.List.{AllByRecursion, All}
use Rattle.std.specs.Global.{Global}
use Rattle.std.specs.declared.vec.Vec.{Vec}
use Rattle.tb_conllu.specs.Shape.{IsRowShaped}
use Rattle.tb_conllu.specs.Text.{RowText, BlockText, row_line, text_of}
use Rattle.tb_match.specs.Trees.{Tree, tok, cat, alt, rep, Forest, no_more, and_more}
use Rattle.tb_literal.specs.Literals.{PlainLit}
pub use Rattle.tb_literal.specs.Literals.{IsPlainText}
use Rattle.tb_syntax.specs.Tests.{Test, every, whole, feature, negated, both, either, Tests, no_test, and_test}
use Rattle.tb_query.specs.Meaning.{holds}
use Rattle.tb_query.specs.Search.{Asked, Finds}

-- the bytes are in the text, one after the other
pub record IsSubstring (needle text : List ℕ) : Type 0 where
  pub before : List ℕ
  pub after : List ℕ
  pub cut : text ≡ before ++ needle ++ after

-- each match of the pattern has a word of which the expression holds; of a choice, no expression is told
abbrev mutual
  pub needs : Tree → ℕ → Bool
  needs (tok e) n = nat_eq e n
  needs (cat parts) n = some_needs parts n
  needs (alt parts) n = false
  needs (rep t zero b) n = false
  needs (rep t (suc a) b) n = needs t n

  pub some_needs : Forest → ℕ → Bool
  some_needs no_more n = false
  some_needs (and_more t rest) n = if needs t n then true else some_needs rest n

-- the bytes are in the line of each row of which the test holds
pub record Requires (t : Test PlainLit) (needle : List ℕ) : Type 0 where
  pub there : (r : RowText) → IsRowShaped r → holds t r ≡ true → IsSubstring needle (row_line r)

-- the bytes are in the text of each sentence in which the query finds something
pub record IsNeeded (q : Asked) (needle : List ℕ) : Type 0 where
  pub there : (b : BlockText) → AllByRecursion IsRowShaped b.rows → (i j : ℕ) → Finds q b i j
      → IsSubstring needle (text_of (b ∷ []))

-- no plain literal has to be in a row of which the test holds; `!` and choices are not looked into
abbrev mutual
  pub RequiresNothing : Test PlainLit → Type 0
  RequiresNothing every = ⊤
  RequiresNothing (whole a l) = IsPlainText l → ⊥
  RequiresNothing (feature l) = IsPlainText l → ⊥
  RequiresNothing (negated t) = ⊤
  RequiresNothing (both ts) = AllRequireNothing ts
  RequiresNothing (either ts) = ⊤

  pub AllRequireNothing : Tests PlainLit → Type 0
  AllRequireNothing no_test = ⊤
  AllRequireNothing (and_test t ts) = RequiresNothing t × AllRequireNothing ts

-- no expression that each match needs has to have a plain literal in its row
abbrev pub NeedsNothing : Asked → Type 0
NeedsNothing q = (n : ℕ) (t : Test PlainLit) → needs q.pat n ≡ true → slice_get q.tests n ≡ Some t
    → RequiresNothing t

-- where the first test holds of a row, so does the second
abbrev pub Entails : Test PlainLit → Test PlainLit → Type 0
Entails t u = (r : RowText) → holds t r ≡ true → holds u r ≡ true

-- what the test requires is needed by each hit of the query
abbrev pub IsPartOf : Test PlainLit → Asked → Type 0
IsPartOf t q = (n : List ℕ) → Requires t n → IsNeeded q n

-- each of these needles is in the text of each sentence with a hit
abbrev pub AreNeeded : Asked → List (Vec ℕ Global) → Type 0
AreNeeded q ns = All (λ (n : Vec ℕ Global). IsNeeded q n.items) ns

-- more needles than before, each of which a test requires: they are needed by each query of which the test is a part
abbrev pub Gathers : Test PlainLit → (old new : List (Vec ℕ Global)) → Type 0
Gathers u old new = (q : Asked) (t : Test PlainLit) → Entails t u → IsPartOf t q → AreNeeded q old
    → AreNeeded q new
