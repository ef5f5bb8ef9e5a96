-- The meaning of a query as plain data: its pattern over token expressions, and these expressions.
use Rattle.std.specs.Prelude.{◌≡◌, ℕ, ◌+◌, List, [], ◌∷◌, ◌++◌, Option, None, Some}
use Rattle.tb_match.specs.Trees.{Tree, tok, cat, alt, rep, forest}
use Rattle.tb_syntax.specs.declared.expr.Literal.{Literal}
use Rattle.tb_syntax.specs.declared.lexeme.Attr.TheVariants.{Form}
use Rattle.tb_syntax.specs.declared.lexeme.Flag.{Flag}
use Rattle.tb_syntax.specs.declared.lexeme.Lexeme.{Lexeme}
use Rattle.tb_syntax.specs.Grammar.{Sign, same, other, Test', one_conj, or_test, Conj, one_unit, and_conj, Unit'}
use Rattle.tb_syntax.specs.Grammar.{denied, grouped, compares, contains, Repeat, quest, star, plus, exactly, at_least}
use Rattle.tb_syntax.specs.Grammar.{between, Alt, one_cat, or_alt, Cat, one_item, and_cat, Item, once, repeated, Atom}
use Rattle.tb_syntax.specs.Grammar.{any, brackets, bare, parens, Query, query, query_text}
use Rattle.tb_syntax.specs.Tests.{Test, every, whole, feature, negated, both, either, tests}

-- a literal, by its number in the text and its flag
abbrev pub literal_of : ℕ → Flag → Literal
literal_of k f = record { number = k; flag = f }

-- a conjunction or a disjunction of one part is that part
abbrev pub both_of : {L : Type 0} → List (Test L) → Test L
both_of (t ∷ []) = t
both_of ts = both (tests ts)

abbrev pub either_of : {L : Type 0} → List (Test L) → Test L
either_of (t ∷ []) = t
either_of ts = either (tests ts)

abbrev pub signed : Sign → Test Literal → Test Literal
signed same t = t
signed other t = negated t

abbrev mutual
  pub test_parts : Test' → List (Test Literal)
  test_parts (one_conj c) = both_of (conj_parts c) ∷ []
  test_parts (or_test c t) = both_of (conj_parts c) ∷ test_parts t

  pub conj_parts : Conj → List (Test Literal)
  conj_parts (one_unit u) = unit_test u ∷ []
  conj_parts (and_conj u c) = unit_test u ∷ conj_parts c

  pub unit_test : Unit' → Test Literal
  unit_test (denied u) = negated (unit_test u)
  unit_test (grouped t) = either_of (test_parts t)
  unit_test (compares a s k f) = signed s (whole a (literal_of k f))
  unit_test (contains k f) = feature (literal_of k f)

-- a sequence or a choice of one part is that part
abbrev pub cat_of : List Tree → Tree
cat_of (t ∷ []) = t
cat_of ts = cat (forest ts)

abbrev pub alt_of : List Tree → Tree
alt_of (t ∷ []) = t
alt_of ts = alt (forest ts)

abbrev pub repeated_tree : Repeat → Tree → Tree
repeated_tree quest t = rep t 0 (Some 1)
repeated_tree star t = rep t 0 None
repeated_tree plus t = rep t 1 None
repeated_tree (exactly n) t = rep t n (Some n)
repeated_tree (at_least n) t = rep t n None
repeated_tree (between n m) t = rep t n (Some m)

-- the tree, repeated where there are a least and a greatest number
abbrev pub repeated_within : Option (ℕ × Option ℕ) → Tree → Tree
repeated_within None t = t
repeated_within (Some times) t = rep t times.0 times.1

-- how many token expressions there are
abbrev mutual
  pub alt_count : Alt → ℕ
  alt_count (one_cat c) = cat_count c
  alt_count (or_alt c a) = cat_count c + alt_count a

  pub cat_count : Cat → ℕ
  cat_count (one_item i) = item_count i
  cat_count (and_cat i c) = item_count i + cat_count c

  pub item_count : Item → ℕ
  item_count (once a) = atom_count a
  item_count (repeated a r) = atom_count a

  pub atom_count : Atom → ℕ
  atom_count any = 1
  atom_count (brackets t) = 1
  atom_count (bare k f) = 1
  atom_count (parens a) = alt_count a

-- the pattern, where e token expressions come before it
abbrev mutual
  pub alt_parts : ℕ → Alt → List Tree
  alt_parts e (one_cat c) = cat_of (cat_parts e c) ∷ []
  alt_parts e (or_alt c a) = cat_of (cat_parts e c) ∷ alt_parts (e + cat_count c) a

  pub cat_parts : ℕ → Cat → List Tree
  cat_parts e (one_item i) = item_tree e i ∷ []
  cat_parts e (and_cat i c) = item_tree e i ∷ cat_parts (e + item_count i) c

  pub item_tree : ℕ → Item → Tree
  item_tree e (once a) = atom_tree e a
  item_tree e (repeated a r) = repeated_tree r (atom_tree e a)

  pub atom_tree : ℕ → Atom → Tree
  atom_tree e any = tok e
  atom_tree e (brackets t) = tok e
  atom_tree e (bare k f) = tok e
  atom_tree e (parens a) = alt_of (alt_parts e a)

-- the token expressions, in the order of the text
abbrev mutual
  pub alt_tests : Alt → List (Test Literal)
  alt_tests (one_cat c) = cat_tests c
  alt_tests (or_alt c a) = cat_tests c ++ alt_tests a

  pub cat_tests : Cat → List (Test Literal)
  cat_tests (one_item i) = item_tests i
  cat_tests (and_cat i c) = item_tests i ++ cat_tests c

  pub item_tests : Item → List (Test Literal)
  item_tests (once a) = atom_tests a
  item_tests (repeated a r) = atom_tests a

  pub atom_tests : Atom → List (Test Literal)
  atom_tests any = every ∷ []
  atom_tests (brackets t) = either_of (test_parts t) ∷ []
  atom_tests (bare k f) = whole Form (literal_of k f) ∷ []
  atom_tests (parens a) = alt_tests a

abbrev pub query_tree : Query → Tree
query_tree (query a e) = alt_of (alt_parts 0 a)

abbrev pub query_tests : Query → List (Test Literal)
query_tests (query a e) = alt_tests a

-- the lexemes read as this pattern over these token expressions
abbrev pub Reads : List Lexeme → Tree → List (Test Literal) → Type 0
Reads ls t es = (q : Query) × (query_text q ≡ ls) × (query_tree q ≡ t) × (query_tests q ≡ es)
