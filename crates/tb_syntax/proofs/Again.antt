-- Each query is accepted: the scan goes over what a derivation spells, to the place after it.
use Rattle.std.proofs.Common.{◌≡◌, ℕ, suc, ◌+◌, List, [], ◌∷◌, ◌++◌, true, refl, ap, ◌∙◌, append_assoc, add-one}
use Rattle.tb_syntax.specs.declared.lexeme.Attr.{Attr}
use Rattle.tb_syntax.specs.declared.lexeme.Attr.TheVariants.{Form, Lemma, Upos, Xpos, Feats, Deprel}
use Rattle.tb_syntax.specs.declared.lexeme.Flag.{Flag}
use Rattle.tb_syntax.specs.declared.lexeme.Flag.TheVariants as flag
use Rattle.tb_syntax.specs.declared.lexeme.Lexeme.{Lexeme}
use Rattle.tb_syntax.specs.declared.lexeme.Lexeme.TheVariants.{LeftParen, RightParen, LeftBracket, RightBracket, Bar, And, Not, Name, Contains, Quote}
use Rattle.tb_syntax.specs.declared.scanning.Mode.{Mode}
use Rattle.tb_syntax.specs.declared.scanning.Mode.TheVariants.{Wants, Quoted, Has, Repeated, Opened, Asks, Tested, Whole}
use Rattle.tb_syntax.specs.Grammar.{flag_text, Sign, same, other, sign_lexeme, Test', one_conj, or_test, Conj, one_unit, and_conj, Unit', denied, grouped, compares, contains, test_text, conj_text, unit_text, Repeat, quest, star, plus, exactly, at_least, between, rep_text, Alt, one_cat, or_alt, Cat, one_item, and_cat, Item, once, repeated, Atom, any, brackets, bare, parens, alt_text, cat_text, item_text, atom_text, Ending, nothing, stop, scope, scope_stop, ending_text, Query, query, query_text}
use Rattle.tb_syntax.specs.Machine.{run, ends, accepts, place, inside, start}

-- within the brackets

-- a unit may begin there
data Units : Mode → Type 0 where
  opened : Units Opened
  asks : Units Asks

-- what stands before is a unit
data Unit-ends : Mode → Type 0 where
  tested : Unit-ends Tested
  whole : Unit-ends Whole

abbrev flag_mode : Mode → Mode → Flag → Mode
flag_mode m w flag.Plain = m
flag_mode m w flag.NoCase = w
flag_mode m w flag.Literal = w

abbrev unit_mode : Unit' → Mode
unit_mode (denied u) = unit_mode u
unit_mode (grouped t) = Whole
unit_mode (compares a s k f) = flag_mode Tested Whole f
unit_mode (contains k f) = flag_mode Tested Whole f

abbrev conj_mode : Conj → Mode
conj_mode (one_unit u) = unit_mode u
conj_mode (and_conj u c) = conj_mode c

abbrev test_mode : Test' → Mode
test_mode (one_conj c) = conj_mode c
test_mode (or_test c t) = test_mode t

flag_ends : (f : Flag) → Unit-ends (flag_mode Tested Whole f)
flag_ends flag.Plain = Unit-ends.tested
flag_ends flag.NoCase = Unit-ends.whole
flag_ends flag.Literal = Unit-ends.whole

unit_ends : (u : Unit') → Unit-ends (unit_mode u)
unit_ends (denied u) = unit_ends u
unit_ends (grouped t) = Unit-ends.whole
unit_ends (compares a s k f) = flag_ends f
unit_ends (contains k f) = flag_ends f

conj_ends : (c : Conj) → Unit-ends (conj_mode c)
conj_ends (one_unit u) = unit_ends u
conj_ends (and_conj u c) = conj_ends c

test_ends : (t : Test') → Unit-ends (test_mode t)
test_ends (one_conj c) = conj_ends c
test_ends (or_test c t) = test_ends t

in_flag : (n k : ℕ) (f : Flag) (rest : List Lexeme) → run (inside Tested n k) (flag_text f ++ rest) ≡ run (inside (flag_mode Tested Whole f) n k) rest
in_flag n k flag.Plain rest = refl
in_flag n k flag.NoCase rest = refl
in_flag n k flag.Literal rest = refl

in_compares : {m : Mode} (n k j : ℕ) (a : Attr) (s : Sign) (rest : List Lexeme) → Units m →
    run (inside m n k) (Name a ∷ sign_lexeme s ∷ Quote j ∷ rest) ≡ run (inside Tested n k) rest
in_compares n k j Form same rest Units.opened = refl
in_compares n k j Lemma same rest Units.opened = refl
in_compares n k j Upos same rest Units.opened = refl
in_compares n k j Xpos same rest Units.opened = refl
in_compares n k j Feats same rest Units.opened = refl
in_compares n k j Deprel same rest Units.opened = refl
in_compares n k j Form other rest Units.opened = refl
in_compares n k j Lemma other rest Units.opened = refl
in_compares n k j Upos other rest Units.opened = refl
in_compares n k j Xpos other rest Units.opened = refl
in_compares n k j Feats other rest Units.opened = refl
in_compares n k j Deprel other rest Units.opened = refl
in_compares n k j Form same rest Units.asks = refl
in_compares n k j Lemma same rest Units.asks = refl
in_compares n k j Upos same rest Units.asks = refl
in_compares n k j Xpos same rest Units.asks = refl
in_compares n k j Feats same rest Units.asks = refl
in_compares n k j Deprel same rest Units.asks = refl
in_compares n k j Form other rest Units.asks = refl
in_compares n k j Lemma other rest Units.asks = refl
in_compares n k j Upos other rest Units.asks = refl
in_compares n k j Xpos other rest Units.asks = refl
in_compares n k j Feats other rest Units.asks = refl
in_compares n k j Deprel other rest Units.asks = refl

in_contains : {m : Mode} (n k j : ℕ) (rest : List Lexeme) → Units m →
    run (inside m n k) (Name Feats ∷ Contains ∷ Quote j ∷ rest) ≡ run (inside Tested n k) rest
in_contains n k j rest Units.opened = refl
in_contains n k j rest Units.asks = refl

in_not : {m : Mode} (n k : ℕ) (rest : List Lexeme) → Units m → run (inside m n k) (Not ∷ rest) ≡ run (inside Asks n k) rest
in_not n k rest Units.opened = refl
in_not n k rest Units.asks = refl

in_open : {m : Mode} (n k : ℕ) (rest : List Lexeme) → Units m → run (inside m n k) (LeftParen ∷ rest) ≡ run (inside Asks n (k + 1)) rest
in_open n k rest Units.opened = refl
in_open n k rest Units.asks = refl

in_close : {m : Mode} (n k : ℕ) (rest : List Lexeme) → Unit-ends m → run (inside m n (suc k)) (RightParen ∷ rest) ≡ run (inside Whole n k) rest
in_close n k rest Unit-ends.tested = refl
in_close n k rest Unit-ends.whole = refl

in_bar : {m : Mode} (n k : ℕ) (rest : List Lexeme) → Unit-ends m → run (inside m n k) (Bar ∷ rest) ≡ run (inside Asks n k) rest
in_bar n k rest Unit-ends.tested = refl
in_bar n k rest Unit-ends.whole = refl

in_and : {m : Mode} (n k : ℕ) (rest : List Lexeme) → Unit-ends m → run (inside m n k) (And ∷ rest) ≡ run (inside Asks n k) rest
in_and n k rest Unit-ends.tested = refl
in_and n k rest Unit-ends.whole = refl

mutual
  over_test : (t : Test') {m : Mode} → Units m → (n k : ℕ) (rest : List Lexeme) →
      run (inside m n k) (test_text t ++ rest) ≡ run (inside (test_mode t) n k) rest
  over_test (one_conj c) s n k rest = over_conj c s n k rest
  over_test (or_test c t) s n k rest =
      rw append_assoc (over_conj c s n k (Bar ∷ (test_text t ++ rest)) ∙ in_bar n k (test_text t ++ rest) (conj_ends c) ∙ over_test t Units.asks n k rest)

  over_conj : (c : Conj) {m : Mode} → Units m → (n k : ℕ) (rest : List Lexeme) →
      run (inside m n k) (conj_text c ++ rest) ≡ run (inside (conj_mode c) n k) rest
  over_conj (one_unit u) s n k rest = over_unit u s n k rest
  over_conj (and_conj u c) s n k rest =
      rw append_assoc (over_unit u s n k (And ∷ (conj_text c ++ rest)) ∙ in_and n k (conj_text c ++ rest) (unit_ends u) ∙ over_conj c Units.asks n k rest)

  over_unit : (u : Unit') {m : Mode} → Units m → (n k : ℕ) (rest : List Lexeme) →
      run (inside m n k) (unit_text u ++ rest) ≡ run (inside (unit_mode u) n k) rest
  over_unit (denied u) s n k rest = in_not n k (unit_text u ++ rest) s ∙ over_unit u Units.asks n k rest
  over_unit (grouped t) s n k rest =
      in_open n k ((test_text t ++ RightParen ∷ []) ++ rest) s
      ∙ (rw append_assoc (over_test t Units.asks n (k + 1) (RightParen ∷ rest)
      ∙ (rw add-one (in_close n k rest (test_ends t)))))
  over_unit (compares a g j f) s n k rest = in_compares n k j a g (flag_text f ++ rest) s ∙ in_flag n k f rest
  over_unit (contains j f) s n k rest = in_contains n k j (flag_text f ++ rest) s ∙ in_flag n k f rest

-- outside the brackets

-- an atom may begin there
data Starts : Mode → Type 0 where
  wants : Starts Wants
  quoted : Starts Quoted
  has : Starts Has
  after_rep : Starts Repeated

-- what stands before is an item
data Stands : Mode → Type 0 where
  quoted : Stands Quoted
  has : Stands Has
  after_rep : Stands Repeated

-- what stands before is an atom
data Bare : Mode → Type 0 where
  quoted : Bare Quoted
  has : Bare Has

starts : {m : Mode} → Stands m → Starts m
starts Stands.quoted = Starts.quoted
starts Stands.has = Starts.has
starts Stands.after_rep = Starts.after_rep

stands : {m : Mode} → Bare m → Stands m
stands Bare.quoted = Stands.quoted
stands Bare.has = Stands.has

abbrev atom_mode : Atom → Mode
atom_mode any = Has
atom_mode (brackets t) = Has
atom_mode (bare k f) = flag_mode Quoted Has f
atom_mode (parens a) = Has

abbrev item_mode : Item → Mode
item_mode (once a) = atom_mode a
item_mode (repeated a r) = Repeated

abbrev cat_mode : Cat → Mode
cat_mode (one_item i) = item_mode i
cat_mode (and_cat i c) = cat_mode c

abbrev alt_mode : Alt → Mode
alt_mode (one_cat c) = cat_mode c
alt_mode (or_alt c a) = alt_mode a

quote_bare : (f : Flag) → Bare (flag_mode Quoted Has f)
quote_bare flag.Plain = Bare.quoted
quote_bare flag.NoCase = Bare.has
quote_bare flag.Literal = Bare.has

atom_bare : (a : Atom) → Bare (atom_mode a)
atom_bare any = Bare.has
atom_bare (brackets t) = Bare.has
atom_bare (bare k f) = quote_bare f
atom_bare (parens a) = Bare.has

item_stands : (i : Item) → Stands (item_mode i)
item_stands (once a) = stands (atom_bare a)
item_stands (repeated a r) = Stands.after_rep

cat_stands : (c : Cat) → Stands (cat_mode c)
cat_stands (one_item i) = item_stands i
cat_stands (and_cat i c) = cat_stands c

alt_stands : (a : Alt) → Stands (alt_mode a)
alt_stands (one_cat c) = cat_stands c
alt_stands (or_alt c a) = alt_stands a

at_bar : {m : Mode} (n : ℕ) (rest : List Lexeme) → Stands m → run (place m n) (Bar ∷ rest) ≡ run (place Wants n) rest
at_bar n rest Stands.quoted = refl
at_bar n rest Stands.has = refl
at_bar n rest Stands.after_rep = refl

at_close : {m : Mode} (n : ℕ) (rest : List Lexeme) → Stands m → run (place m (suc n)) (RightParen ∷ rest) ≡ run (place Has n) rest
at_close n rest Stands.quoted = refl
at_close n rest Stands.has = refl
at_close n rest Stands.after_rep = refl

at_open : {m : Mode} (n : ℕ) (rest : List Lexeme) → Starts m → run (place m n) (LeftParen ∷ rest) ≡ run (place Wants (n + 1)) rest
at_open n rest Starts.wants = refl
at_open n rest Starts.quoted = refl
at_open n rest Starts.has = refl
at_open n rest Starts.after_rep = refl

at_bracket : {m : Mode} (n : ℕ) (rest : List Lexeme) → Starts m → run (place m n) (LeftBracket ∷ rest) ≡ run (place Opened n) rest
at_bracket n rest Starts.wants = refl
at_bracket n rest Starts.quoted = refl
at_bracket n rest Starts.has = refl
at_bracket n rest Starts.after_rep = refl

at_quote : {m : Mode} (n k : ℕ) (rest : List Lexeme) → Starts m → run (place m n) (Quote k ∷ rest) ≡ run (place Quoted n) rest
at_quote n k rest Starts.wants = refl
at_quote n k rest Starts.quoted = refl
at_quote n k rest Starts.has = refl
at_quote n k rest Starts.after_rep = refl

at_flag : (n : ℕ) (f : Flag) (rest : List Lexeme) → run (place Quoted n) (flag_text f ++ rest) ≡ run (place (flag_mode Quoted Has f) n) rest
at_flag n flag.Plain rest = refl
at_flag n flag.NoCase rest = refl
at_flag n flag.Literal rest = refl

at_shut : {m : Mode} (n : ℕ) (rest : List Lexeme) → Unit-ends m → run (place m n) (RightBracket ∷ rest) ≡ run (place Has n) rest
at_shut n rest Unit-ends.tested = refl
at_shut n rest Unit-ends.whole = refl

at_rep : {m : Mode} (n : ℕ) (r : Repeat) (rest : List Lexeme) → Bare m → run (place m n) (rep_text r ++ rest) ≡ run (place Repeated n) rest
at_rep n quest rest Bare.quoted = refl
at_rep n star rest Bare.quoted = refl
at_rep n plus rest Bare.quoted = refl
at_rep n (exactly a) rest Bare.quoted = refl
at_rep n (at_least a) rest Bare.quoted = refl
at_rep n (between a b) rest Bare.quoted = refl
at_rep n quest rest Bare.has = refl
at_rep n star rest Bare.has = refl
at_rep n plus rest Bare.has = refl
at_rep n (exactly a) rest Bare.has = refl
at_rep n (at_least a) rest Bare.has = refl
at_rep n (between a b) rest Bare.has = refl

mutual
  over_alt : (a : Alt) {m : Mode} → Starts m → (n : ℕ) (rest : List Lexeme) →
      run (place m n) (alt_text a ++ rest) ≡ run (place (alt_mode a) n) rest
  over_alt (one_cat c) s n rest = over_cat c s n rest
  over_alt (or_alt c a) s n rest =
      rw append_assoc (over_cat c s n (Bar ∷ (alt_text a ++ rest)) ∙ at_bar n (alt_text a ++ rest) (cat_stands c) ∙ over_alt a Starts.wants n rest)

  over_cat : (c : Cat) {m : Mode} → Starts m → (n : ℕ) (rest : List Lexeme) →
      run (place m n) (cat_text c ++ rest) ≡ run (place (cat_mode c) n) rest
  over_cat (one_item i) s n rest = over_item i s n rest
  over_cat (and_cat i c) s n rest =
      rw append_assoc (over_item i s n (cat_text c ++ rest) ∙ over_cat c (starts (item_stands i)) n rest)

  over_item : (i : Item) {m : Mode} → Starts m → (n : ℕ) (rest : List Lexeme) →
      run (place m n) (item_text i ++ rest) ≡ run (place (item_mode i) n) rest
  over_item (once a) s n rest = over_atom a s n rest
  over_item (repeated a r) s n rest =
      rw append_assoc (over_atom a s n (rep_text r ++ rest) ∙ at_rep n r rest (atom_bare a))

  over_atom : (a : Atom) {m : Mode} → Starts m → (n : ℕ) (rest : List Lexeme) →
      run (place m n) (atom_text a ++ rest) ≡ run (place (atom_mode a) n) rest
  over_atom any s n rest = at_bracket n (RightBracket ∷ rest) s
  over_atom (brackets t) s n rest =
      at_bracket n ((test_text t ++ RightBracket ∷ []) ++ rest) s
      ∙ (rw append_assoc (over_test t Units.opened n 0 (RightBracket ∷ rest) ∙ at_shut n rest (test_ends t)))
  over_atom (bare k f) s n rest = at_quote n k (flag_text f ++ rest) s ∙ at_flag n f rest
  over_atom (parens a) s n rest =
      at_open n ((alt_text a ++ RightParen ∷ []) ++ rest) s
      ∙ (rw append_assoc (over_alt a Starts.wants (n + 1) (RightParen ∷ rest)
      ∙ (rw add-one (at_close n rest (alt_stands a)))))

at_ending : {m : Mode} (e : Ending) → Stands m → accepts (place m 0) (ending_text e) ≡ true
at_ending nothing Stands.quoted = refl
at_ending stop Stands.quoted = refl
at_ending scope Stands.quoted = refl
at_ending scope_stop Stands.quoted = refl
at_ending nothing Stands.has = refl
at_ending stop Stands.has = refl
at_ending scope Stands.has = refl
at_ending scope_stop Stands.has = refl
at_ending nothing Stands.after_rep = refl
at_ending stop Stands.after_rep = refl
at_ending scope Stands.after_rep = refl
at_ending scope_stop Stands.after_rep = refl

-- each query is accepted
pub accepted : (q : Query) → accepts start (query_text q) ≡ true
accepted (query a e) = ap ends (over_alt a Starts.wants 0 (ending_text e)) ∙ at_ending e (alt_stands a)
