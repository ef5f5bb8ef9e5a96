-- The grammar of queries: each derivation of a text, and its lexemes.
-- The language is a part of CQP's (The CQP Query Language Manual, section 3: token expressions, regular expressions
-- over them, `within s`).
use Rattle.std.specs.Prelude.{◌≡◌, ℕ, List, [], ◌∷◌, ◌++◌}
use Rattle.tb_syntax.specs.declared.lexeme.Attr.{Attr}
use Rattle.tb_syntax.specs.declared.lexeme.Attr.TheVariants.{Feats}
use Rattle.tb_syntax.specs.declared.lexeme.Flag.{Flag}
use Rattle.tb_syntax.specs.declared.lexeme.Flag.TheVariants as flag
use Rattle.tb_syntax.specs.declared.lexeme.Lexeme.{Lexeme}
use Rattle.tb_syntax.specs.declared.lexeme.Lexeme.TheVariants.{LeftParen, RightParen, LeftBracket, RightBracket}
use Rattle.tb_syntax.specs.declared.lexeme.Lexeme.TheVariants.{LeftBrace, RightBrace, Comma, Quest, Star, Plus, Bar}
use Rattle.tb_syntax.specs.declared.lexeme.Lexeme.TheVariants.{And, Not, Equals, Differs, Semicolon, PercentC, PercentL}
use Rattle.tb_syntax.specs.declared.lexeme.Lexeme.TheVariants.{Name, Contains, Within, Sentence, Number, Quote}

-- flag = [ "%c" | "%l" ]
abbrev pub flag_text : Flag → List Lexeme
flag_text flag.Plain = []
flag_text flag.NoCase = PercentC ∷ []
flag_text flag.Literal = PercentL ∷ []

-- sign = "=" | "!="
pub data Sign : Type 0 where
  same : Sign
  other : Sign

abbrev pub sign_lexeme : Sign → Lexeme
sign_lexeme same = Equals
sign_lexeme other = Differs

mutual
  -- test = conj { "|" conj }
  pub data Test' : Type 0 where
    one_conj : Conj → Test'
    or_test : Conj → Test' → Test'

  -- conj = unit { "&" unit }
  pub data Conj : Type 0 where
    one_unit : Unit' → Conj
    and_conj : Unit' → Conj → Conj

  -- unit = "!" unit | "(" test ")" | attr sign literal flag | "feats" "contains" literal flag
  pub data Unit' : Type 0 where
    denied : Unit' → Unit'
    grouped : Test' → Unit'
    compares : Attr → Sign → ℕ → Flag → Unit'
    contains : ℕ → Flag → Unit'

abbrev mutual
  pub test_text : Test' → List Lexeme
  test_text (one_conj c) = conj_text c
  test_text (or_test c t) = conj_text c ++ Bar ∷ test_text t

  pub conj_text : Conj → List Lexeme
  conj_text (one_unit u) = unit_text u
  conj_text (and_conj u c) = unit_text u ++ And ∷ conj_text c

  pub unit_text : Unit' → List Lexeme
  unit_text (denied u) = Not ∷ unit_text u
  unit_text (grouped t) = LeftParen ∷ (test_text t ++ RightParen ∷ [])
  unit_text (compares a s k f) = Name a ∷ sign_lexeme s ∷ Quote k ∷ flag_text f
  unit_text (contains k f) = Name Feats ∷ Contains ∷ Quote k ∷ flag_text f

-- rep = "?" | "*" | "+" | "{" num "}" | "{" num "," "}" | "{" num "," num "}"
pub data Repeat : Type 0 where
  quest : Repeat
  star : Repeat
  plus : Repeat
  exactly : ℕ → Repeat
  at_least : ℕ → Repeat
  between : ℕ → ℕ → Repeat

abbrev pub rep_text : Repeat → List Lexeme
rep_text quest = Quest ∷ []
rep_text star = Star ∷ []
rep_text plus = Plus ∷ []
rep_text (exactly n) = LeftBrace ∷ Number n ∷ RightBrace ∷ []
rep_text (at_least n) = LeftBrace ∷ Number n ∷ Comma ∷ RightBrace ∷ []
rep_text (between n m) = LeftBrace ∷ Number n ∷ Comma ∷ Number m ∷ RightBrace ∷ []

mutual
  -- alt = cat { "|" cat }
  pub data Alt : Type 0 where
    one_cat : Cat → Alt
    or_alt : Cat → Alt → Alt

  -- cat = item { item }
  pub data Cat : Type 0 where
    one_item : Item → Cat
    and_cat : Item → Cat → Cat

  -- item = atom [ rep ]
  pub data Item : Type 0 where
    once : Atom → Item
    repeated : Atom → Repeat → Item

  -- atom = "[" "]" | "[" test "]" | literal flag | "(" alt ")"
  pub data Atom : Type 0 where
    any : Atom
    brackets : Test' → Atom
    bare : ℕ → Flag → Atom
    parens : Alt → Atom

abbrev mutual
  pub alt_text : Alt → List Lexeme
  alt_text (one_cat c) = cat_text c
  alt_text (or_alt c a) = cat_text c ++ Bar ∷ alt_text a

  pub cat_text : Cat → List Lexeme
  cat_text (one_item i) = item_text i
  cat_text (and_cat i c) = item_text i ++ cat_text c

  pub item_text : Item → List Lexeme
  item_text (once a) = atom_text a
  item_text (repeated a r) = atom_text a ++ rep_text r

  pub atom_text : Atom → List Lexeme
  atom_text any = LeftBracket ∷ RightBracket ∷ []
  atom_text (brackets t) = LeftBracket ∷ (test_text t ++ RightBracket ∷ [])
  atom_text (bare k f) = Quote k ∷ flag_text f
  atom_text (parens a) = LeftParen ∷ (alt_text a ++ RightParen ∷ [])

-- ending = [ "within" "s" ] [ ";" ]
pub data Ending : Type 0 where
  nothing : Ending
  stop : Ending
  scope : Ending
  scope_stop : Ending

abbrev pub ending_text : Ending → List Lexeme
ending_text nothing = []
ending_text stop = Semicolon ∷ []
ending_text scope = Within ∷ Sentence ∷ []
ending_text scope_stop = Within ∷ Sentence ∷ Semicolon ∷ []

-- query = alt ending
pub data Query : Type 0 where
  query : Alt → Ending → Query

abbrev pub query_text : Query → List Lexeme
query_text (query a e) = alt_text a ++ ending_text e

-- the lexemes are a query
abbrev pub IsQuery : List Lexeme → Type 0
IsQuery ls = (q : Query) × (query_text q ≡ ls)

-- some query begins with the lexemes
abbrev pub IsBeginning : List Lexeme → Type 0
IsBeginning ls = (rest : List Lexeme) × IsQuery (ls ++ rest)
