-- Inner: no contract beyond this crate cites a definition of this module.
-- What is parsed from lexemes that begin with a part of a query: the meaning of the part, and the lexemes after it.
use Rattle.std.specs.Prelude.{◌≡◌, ℕ, ◌+◌, ◌≤◌, List, [], ◌∷◌, ◌++◌, length, false, Option}
use Rattle.std.specs.Prelude.{Some, None}
use Rattle.tb_match.specs.Trees.{Tree}
use Rattle.tb_syntax.specs.declared.expr.Literal.{Literal}
use Rattle.tb_syntax.specs.declared.lexeme.Flag.{Flag}
use Rattle.tb_syntax.specs.declared.lexeme.Lexeme.{Lexeme}
use Rattle.tb_syntax.specs.declared.lexeme.Lexeme.TheVariants.{LeftBrace, Quote, Stray}
use Rattle.tb_syntax.specs.Follow.{begins_flag, begins_rep, EndsConj, EndsTest, EndsItem, EndsCat, EndsAlt}
use Rattle.tb_syntax.specs.Grammar.{flag_text, Test', Conj, Unit', test_text, conj_text, unit_text, Repeat, quest, star}
use Rattle.tb_syntax.specs.Grammar.{plus, exactly, at_least, between, rep_text, Alt, Cat, Item, Atom, parens, alt_text}
use Rattle.tb_syntax.specs.Grammar.{cat_text, item_text, atom_text, Query, query_text}
use Rattle.tb_syntax.specs.Pattern.{both_of, either_of, test_parts, conj_parts, unit_test, cat_of, alt_of, alt_count}
use Rattle.tb_syntax.specs.Pattern.{cat_count, item_count, atom_count, alt_parts, cat_parts, item_tree, atom_tree}
use Rattle.tb_syntax.specs.Pattern.{alt_tests, cat_tests, item_tests, atom_tests, query_tree, query_tests}
use Rattle.tb_syntax.specs.Tests.{Test}
use Rattle.tb_syntax.specs.Limits.{query_count}

-- the first lexeme, and the lexemes after it
abbrev pub head : List Lexeme → Lexeme
head [] = Stray
head (l ∷ ls) = l

abbrev pub tail : List Lexeme → List Lexeme
tail [] = []
tail (l ∷ ls) = ls

pub record ReadsFlag (ls : List Lexeme) (flag : Flag) (rest : List Lexeme) : Type 0 where
  pub at : (f : Flag) (end : List Lexeme) → begins_flag end ≡ false → flag_text f ++ end ≡ ls → (flag ≡ f)
      × (rest ≡ end)

pub record ReadsLiteral (ls : List Lexeme) (literal : Literal) (rest : List Lexeme) : Type 0 where
  pub at : (k : ℕ) (f : Flag) (end : List Lexeme) → begins_flag end ≡ false → Quote k ∷ (flag_text f ++ end)
      ≡ ls → (literal.number ≡ k) × (literal.flag ≡ f) × (rest ≡ end)

pub record ReadsUnit (ls : List Lexeme) (t : Test Literal) (rest : List Lexeme) : Type 0 where
  pub at : (u : Unit') (end : List Lexeme) → begins_flag end ≡ false → unit_text u ++ end ≡ ls
      → (t ≡ unit_test u) × (rest ≡ end)

-- the parts of a conjunction, after those that were parsed before
pub record ReadsUnits (ls : List Lexeme) (old new : List (Test Literal)) (rest : List Lexeme) : Type 0 where
  pub at : (c : Conj) (end : List Lexeme) → EndsConj end → conj_text c ++ end ≡ ls
      → (new ≡ old ++ conj_parts c) × (rest ≡ end)

pub record ReadsConj (ls : List Lexeme) (t : Test Literal) (rest : List Lexeme) : Type 0 where
  pub at : (c : Conj) (end : List Lexeme) → EndsConj end → conj_text c ++ end ≡ ls
      → (t ≡ both_of (conj_parts c)) × (rest ≡ end)

-- the parts of a disjunction, after those that were parsed before
pub record ReadsConjs (ls : List Lexeme) (old new : List (Test Literal)) (rest : List Lexeme) : Type 0 where
  pub at : (t : Test') (end : List Lexeme) → EndsTest end → test_text t ++ end ≡ ls
      → (new ≡ old ++ test_parts t) × (rest ≡ end)

pub record ReadsTest (ls : List Lexeme) (t : Test Literal) (rest : List Lexeme) : Type 0 where
  pub at : (u : Test') (end : List Lexeme) → EndsTest end → test_text u ++ end ≡ ls
      → (t ≡ either_of (test_parts u)) × (rest ≡ end)

-- the least and the greatest number of a repetition
abbrev pub bounds : Repeat → ℕ × Option ℕ
bounds quest = (0, Some 1)
bounds star = (0, None)
bounds plus = (1, None)
bounds (exactly n) = (n, Some n)
bounds (at_least n) = (n, None)
bounds (between n m) = (n, Some m)

-- the numbers of a repetition, after its brace
pub record ReadsNumbers (ls : List Lexeme) (found : ℕ × Option ℕ) (rest : List Lexeme) : Type 0 where
  pub at : (r : Repeat) (end : List Lexeme) → rep_text r ++ end ≡ LeftBrace ∷ ls → (found ≡ bounds r)
      × (rest ≡ end)

-- the repetition at the beginning, if there is one
pub record ReadsRepeat (ls : List Lexeme) (found : Option (ℕ × Option ℕ)) (rest : List Lexeme) : Type 0 where
  pub some : (r : Repeat) (end : List Lexeme) → rep_text r ++ end ≡ ls → (found ≡ Some (bounds r))
      × (rest ≡ end)
  pub none : begins_rep ls ≡ false → (found ≡ None) × (rest ≡ ls)

-- the only token expression of an atom that is no parenthesis
pub record ReadsExpr (ls : List Lexeme) (t : Test Literal) (rest : List Lexeme) : Type 0 where
  pub at : (a : Atom) (end : List Lexeme) → begins_flag end ≡ false → atom_text a ++ end ≡ ls
      → ((b : Alt) → a ≡ parens b → ⊥) →
      (atom_tests a ≡ t ∷ []) × (rest ≡ end)

-- From here on, `old` are the token expressions that were parsed before, and `new` are these and what was parsed. Their
-- numbers have 16 bits.
pub record ReadsAtom (ls : List Lexeme) (old new : List (Test Literal)) (t : Tree) (rest : List Lexeme) : Type 0 where
  pub at : (a : Atom) (end : List Lexeme) → begins_flag end ≡ false → atom_text a ++ end ≡ ls
      → length old + atom_count a ≤ 65536 →
      (t ≡ atom_tree (length old) a) × (new ≡ old ++ atom_tests a) × (rest ≡ end)

pub record ReadsItem (ls : List Lexeme) (old new : List (Test Literal)) (t : Tree) (rest : List Lexeme) : Type 0 where
  pub at : (i : Item) (end : List Lexeme) → EndsItem end → item_text i ++ end ≡ ls
      → length old + item_count i ≤ 65536 →
      (t ≡ item_tree (length old) i) × (new ≡ old ++ item_tests i) × (rest ≡ end)

-- the parts of a sequence, after those that were parsed before
pub record ReadsItems (ls : List Lexeme) (old new : List
    (Test Literal)) (before after : List Tree) (rest : List Lexeme) : Type 0 where
  pub at : (c : Cat) (end : List Lexeme) → EndsCat end → cat_text c ++ end ≡ ls
      → length old + cat_count c ≤ 65536 →
      (after ≡ before ++ cat_parts (length old) c) × (new ≡ old ++ cat_tests c) × (rest ≡ end)

pub record ReadsCat (ls : List Lexeme) (old new : List (Test Literal)) (t : Tree) (rest : List Lexeme) : Type 0 where
  pub at : (c : Cat) (end : List Lexeme) → EndsCat end → cat_text c ++ end ≡ ls
      → length old + cat_count c ≤ 65536 →
      (t ≡ cat_of (cat_parts (length old) c)) × (new ≡ old ++ cat_tests c) × (rest ≡ end)

-- the parts of a choice, after those that were parsed before
pub record ReadsCats (ls : List Lexeme) (old new : List
    (Test Literal)) (before after : List Tree) (rest : List Lexeme) : Type 0 where
  pub at : (a : Alt) (end : List Lexeme) → EndsAlt end → alt_text a ++ end ≡ ls
      → length old + alt_count a ≤ 65536 →
      (after ≡ before ++ alt_parts (length old) a) × (new ≡ old ++ alt_tests a) × (rest ≡ end)

pub record ReadsAlt (ls : List Lexeme) (old new : List (Test Literal)) (t : Tree) (rest : List Lexeme) : Type 0 where
  pub at : (a : Alt) (end : List Lexeme) → EndsAlt end → alt_text a ++ end ≡ ls
      → length old + alt_count a ≤ 65536 →
      (t ≡ alt_of (alt_parts (length old) a)) × (new ≡ old ++ alt_tests a) × (rest ≡ end)

pub record ReadsQuery (ls : List Lexeme) (t : Tree) (es : List (Test Literal)) : Type 0 where
  pub at : (q : Query) → query_text q ≡ ls → query_count q ≤ 65536 → (t ≡ query_tree q)
      × (es ≡ query_tests q)
