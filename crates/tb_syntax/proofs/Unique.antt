-- A text has one derivation: no derivation begins another, where what follows does not go on with it.
use Rattle.std.proofs.Common.{◌≡◌, List, [], ◌∷◌, ◌++◌, Bool, true, false, refl, sym, ap, ◌∙◌, append_assoc}
use Rattle.std.proofs.lemmas.Bool.{false≢true}
use Rattle.tb_syntax.specs.declared.lexeme.Flag.{Flag}
use Rattle.tb_syntax.specs.declared.lexeme.Flag.TheVariants as flag
use Rattle.tb_syntax.specs.declared.lexeme.Lexeme.{Lexeme}
use Rattle.tb_syntax.specs.declared.lexeme.Lexeme.TheVariants.{LeftParen, RightParen, LeftBracket, RightBracket, Bar, And, Quote}
use Rattle.tb_syntax.specs.Follow.{begins_flag, begins_and, begins_bar, begins_unit, begins_atom, begins_rep, EndsConj, EndsTest, EndsItem, EndsCat, EndsAlt}
use Rattle.tb_syntax.specs.Grammar.{flag_text, Sign, same, other, sign_lexeme, Test', one_conj, or_test, Conj, one_unit, and_conj, Unit', denied, grouped, compares, contains, test_text, conj_text, unit_text, Repeat, quest, star, plus, exactly, at_least, between, rep_text, Alt, one_cat, or_alt, Cat, one_item, and_cat, Item, once, repeated, Atom, any, brackets, bare, parens, alt_text, cat_text, item_text, atom_text, Ending, nothing, stop, scope, scope_stop, ending_text, Query, query, query_text}

clash : (f : List Lexeme → Bool) (x y : List Lexeme) → f x ≡ false → f y ≡ true → x ≡ y → ⊥
clash f x y p q e = false≢true (sym p ∙ ap f e ∙ q)

-- flags, signs, repetitions
one_flag : (f g : Flag) (x y : List Lexeme) → begins_flag x ≡ false → begins_flag y ≡ false → flag_text f ++ x ≡ flag_text g ++ y → (f ≡ g) × (x ≡ y)
one_flag flag.Plain flag.Plain x y p q e = (refl, e)
one_flag flag.NoCase flag.NoCase x y p q e = (refl, cc (e))
one_flag flag.Literal flag.Literal x y p q e = (refl, cc (e))
one_flag flag.Plain flag.NoCase x y p q e = absurd (clash begins_flag _ _ p refl e)
one_flag flag.Plain flag.Literal x y p q e = absurd (clash begins_flag _ _ p refl e)
one_flag flag.NoCase flag.Plain x y p q e = absurd (clash begins_flag _ _ q refl (sym e))
one_flag flag.Literal flag.Plain x y p q e = absurd (clash begins_flag _ _ q refl (sym e))
one_flag flag.NoCase flag.Literal x y p q e = cc (e)
one_flag flag.Literal flag.NoCase x y p q e = cc (e)

one_sign : (s t : Sign) → sign_lexeme s ≡ sign_lexeme t → s ≡ t
one_sign same same e = refl
one_sign other other e = refl
one_sign same other e = cc (e)
one_sign other same e = cc (e)

one_rep : (r s : Repeat) (x y : List Lexeme) → rep_text r ++ x ≡ rep_text s ++ y → (r ≡ s) × (x ≡ y)
one_rep quest quest x y e = (refl, cc (e))
one_rep star star x y e = (refl, cc (e))
one_rep plus plus x y e = (refl, cc (e))
one_rep (exactly a) (exactly b) x y e = let f : a ≡ b = cc (e) in (ap exactly f, cc (e))
one_rep (at_least a) (at_least b) x y e = let f : a ≡ b = cc (e) in (ap at_least f, cc (e))
one_rep (between a b) (between c d) x y e = let f : a ≡ c = cc (e) in let g : b ≡ d = cc (e) in (cc (f, g), cc (e))
one_rep _ _ x y e = cc (e)

-- tests
pub ends_conj : {x : List Lexeme} → EndsTest x → EndsConj x
ends_conj h = record { no_flag = h.no_flag; no_and = h.no_and }

pub before_bar : {x : List Lexeme} → EndsConj (Bar ∷ x)
before_bar = record { no_flag = refl; no_and = refl }

unit_begins : (u : Unit') (x : List Lexeme) → begins_unit (unit_text u ++ x) ≡ true
unit_begins (denied u) x = refl
unit_begins (grouped t) x = refl
unit_begins (compares a s k f) x = refl
unit_begins (contains k f) x = refl

pub conj_begins : (c : Conj) (x : List Lexeme) → begins_unit (conj_text c ++ x) ≡ true
conj_begins (one_unit u) x = unit_begins u x
conj_begins (and_conj u c) x = rw append_assoc (unit_begins u (And ∷ (conj_text c ++ x)))

pub test_begins : (t : Test') (x : List Lexeme) → begins_unit (test_text t ++ x) ≡ true
test_begins (one_conj c) x = conj_begins c x
test_begins (or_test c t) x = rw append_assoc (conj_begins c (Bar ∷ (test_text t ++ x)))

mutual
  same_test : (a b : Test') (x y : List Lexeme) → EndsTest x → EndsTest y → test_text a ++ x ≡ test_text b ++ y → (a ≡ b) × (x ≡ y)
  same_test (one_conj c) (one_conj d) x y p q e = let u = same_conj c d x y (ends_conj p) (ends_conj q) e in (ap one_conj u.0, u.1)
  same_test (one_conj c) (or_test d b) x y p q e =
      let u = same_conj c d x (Bar ∷ (test_text b ++ y)) (ends_conj p) before_bar (e ∙ append_assoc (conj_text d) (Bar ∷ test_text b) y) in
      absurd (clash begins_bar _ _ p.no_bar refl u.1)
  same_test (or_test c a) (one_conj d) x y p q e =
      let u = same_conj c d (Bar ∷ (test_text a ++ x)) y before_bar (ends_conj q) (sym (append_assoc (conj_text c) (Bar ∷ test_text a) x) ∙ e) in
      absurd (clash begins_bar _ _ q.no_bar refl (sym u.1))
  same_test (or_test c a) (or_test d b) x y p q e =
      let u = same_conj c d (Bar ∷ (test_text a ++ x)) (Bar ∷ (test_text b ++ y)) before_bar before_bar
      (sym (append_assoc (conj_text c) (Bar ∷ test_text a) x) ∙ e ∙ append_assoc (conj_text d) (Bar ∷ test_text b) y) in
      let rest : test_text a ++ x ≡ test_text b ++ y = cc (u.1) in
      let v = same_test a b x y p q rest in
      (cc (u.0, v.0), v.1)

  same_conj : (c d : Conj) (x y : List Lexeme) → EndsConj x → EndsConj y → conj_text c ++ x ≡ conj_text d ++ y → (c ≡ d) × (x ≡ y)
  same_conj (one_unit u) (one_unit v) x y p q e = let w = same_unit u v x y p.no_flag q.no_flag e in (ap one_unit w.0, w.1)
  same_conj (one_unit u) (and_conj v d) x y p q e =
      let w = same_unit u v x (And ∷ (conj_text d ++ y)) p.no_flag refl (e ∙ append_assoc (unit_text v) (And ∷ conj_text d) y) in
      absurd (clash begins_and _ _ p.no_and refl w.1)
  same_conj (and_conj u c) (one_unit v) x y p q e =
      let w = same_unit u v (And ∷ (conj_text c ++ x)) y refl q.no_flag (sym (append_assoc (unit_text u) (And ∷ conj_text c) x) ∙ e) in
      absurd (clash begins_and _ _ q.no_and refl (sym w.1))
  same_conj (and_conj u c) (and_conj v d) x y p q e =
      let w = same_unit u v (And ∷ (conj_text c ++ x)) (And ∷ (conj_text d ++ y)) refl refl
      (sym (append_assoc (unit_text u) (And ∷ conj_text c) x) ∙ e ∙ append_assoc (unit_text v) (And ∷ conj_text d) y) in
      let rest : conj_text c ++ x ≡ conj_text d ++ y = cc (w.1) in
      let z = same_conj c d x y p q rest in
      (cc (w.0, z.0), z.1)

  same_unit : (u v : Unit') (x y : List Lexeme) → begins_flag x ≡ false → begins_flag y ≡ false → unit_text u ++ x ≡ unit_text v ++ y → (u ≡ v) × (x ≡ y)
  same_unit (denied u) (denied v) x y p q e =
      let w = same_unit u v x y p q (cc (e)) in (ap denied w.0, w.1)
  same_unit (grouped a) (grouped b) x y p q e =
      let inner : (test_text a ++ RightParen ∷ []) ++ x ≡ (test_text b ++ RightParen ∷ []) ++ y = cc (e) in
      let w = same_test a b (RightParen ∷ x) (RightParen ∷ y) (record { no_flag = refl; no_and = refl; no_bar = refl }) (record { no_flag = refl; no_and = refl; no_bar = refl })
      (sym (append_assoc (test_text a) (RightParen ∷ []) x) ∙ inner ∙ append_assoc (test_text b) (RightParen ∷ []) y) in
      (ap grouped w.0, cc (w.1))
  same_unit (compares a s j f) (compares b t k g) x y p q e =
      let names : a ≡ b = cc (e) in
      let signs : sign_lexeme s ≡ sign_lexeme t = cc (e) in
      let numbers : j ≡ k = cc (e) in
      let w = one_flag f g x y p q (cc (e)) in
      let sign = one_sign s t signs in
      let how = w.0 in
      (cc (names, sign, numbers, how), w.1)
  same_unit (contains j f) (contains k g) x y p q e =
      let numbers : j ≡ k = cc (e) in
      let w = one_flag f g x y p q (cc (e)) in
      let how = w.0 in
      (cc (numbers, how), w.1)
  same_unit (compares a same j f) (contains k g) x y p q e = cc (e)
  same_unit (compares a other j f) (contains k g) x y p q e = cc (e)
  same_unit (contains k g) (compares a same j f) x y p q e = cc (e)
  same_unit (contains k g) (compares a other j f) x y p q e = cc (e)
  same_unit _ _ x y p q e = cc (e)

-- patterns
pub ends_item : {x : List Lexeme} → EndsCat x → EndsItem x
ends_item h = record { no_flag = h.no_flag; no_rep = h.no_rep }

pub ends_cat : {x : List Lexeme} → EndsAlt x → EndsCat x
ends_cat h = record { no_flag = h.no_flag; no_rep = h.no_rep; no_atom = h.no_atom }

pub cat_bar : {x : List Lexeme} → EndsCat (Bar ∷ x)
cat_bar = record { no_flag = refl; no_rep = refl; no_atom = refl }

pub rep_begins : (r : Repeat) (y : List Lexeme) → begins_rep (rep_text r ++ y) ≡ true
rep_begins quest y = refl
rep_begins star y = refl
rep_begins plus y = refl
rep_begins (exactly a) y = refl
rep_begins (at_least a) y = refl
rep_begins (between a b) y = refl

pub rep_no_flag : (r : Repeat) (y : List Lexeme) → begins_flag (rep_text r ++ y) ≡ false
rep_no_flag quest y = refl
rep_no_flag star y = refl
rep_no_flag plus y = refl
rep_no_flag (exactly a) y = refl
rep_no_flag (at_least a) y = refl
rep_no_flag (between a b) y = refl

atom_begins : (a : Atom) (x : List Lexeme) → begins_atom (atom_text a ++ x) ≡ true
atom_begins any x = refl
atom_begins (brackets t) x = refl
atom_begins (bare k f) x = refl
atom_begins (parens a) x = refl

pub item_begins : (i : Item) (x : List Lexeme) → begins_atom (item_text i ++ x) ≡ true
item_begins (once a) x = atom_begins a x
item_begins (repeated a r) x = rw append_assoc (atom_begins a (rep_text r ++ x))

pub cat_begins : (c : Cat) (x : List Lexeme) → begins_atom (cat_text c ++ x) ≡ true
cat_begins (one_item i) x = item_begins i x
cat_begins (and_cat i c) x = rw append_assoc (item_begins i (cat_text c ++ x))

before_atom : (ls : List Lexeme) → begins_atom ls ≡ true → EndsItem ls
before_atom [] h = absurd (false≢true h)
before_atom (LeftParen ∷ ls) h = record { no_flag = refl; no_rep = refl }
before_atom (LeftBracket ∷ ls) h = record { no_flag = refl; no_rep = refl }
before_atom (Quote k ∷ ls) h = record { no_flag = refl; no_rep = refl }
before_atom (_ ∷ ls) h = absurd (false≢true h)

pub before_cat : (c : Cat) (x : List Lexeme) → EndsItem (cat_text c ++ x)
before_cat c x = before_atom (cat_text c ++ x) (cat_begins c x)

mutual
  same_alt : (a b : Alt) (x y : List Lexeme) → EndsAlt x → EndsAlt y → alt_text a ++ x ≡ alt_text b ++ y → (a ≡ b) × (x ≡ y)
  same_alt (one_cat c) (one_cat d) x y p q e = let u = same_cat c d x y (ends_cat p) (ends_cat q) e in (ap one_cat u.0, u.1)
  same_alt (one_cat c) (or_alt d b) x y p q e =
      let u = same_cat c d x (Bar ∷ (alt_text b ++ y)) (ends_cat p) cat_bar (e ∙ append_assoc (cat_text d) (Bar ∷ alt_text b) y) in
      absurd (clash begins_bar _ _ p.no_bar refl u.1)
  same_alt (or_alt c a) (one_cat d) x y p q e =
      let u = same_cat c d (Bar ∷ (alt_text a ++ x)) y cat_bar (ends_cat q) (sym (append_assoc (cat_text c) (Bar ∷ alt_text a) x) ∙ e) in
      absurd (clash begins_bar _ _ q.no_bar refl (sym u.1))
  same_alt (or_alt c a) (or_alt d b) x y p q e =
      let u = same_cat c d (Bar ∷ (alt_text a ++ x)) (Bar ∷ (alt_text b ++ y)) cat_bar cat_bar
      (sym (append_assoc (cat_text c) (Bar ∷ alt_text a) x) ∙ e ∙ append_assoc (cat_text d) (Bar ∷ alt_text b) y) in
      let rest : alt_text a ++ x ≡ alt_text b ++ y = cc (u.1) in
      let v = same_alt a b x y p q rest in
      (cc (u.0, v.0), v.1)

  same_cat : (c d : Cat) (x y : List Lexeme) → EndsCat x → EndsCat y → cat_text c ++ x ≡ cat_text d ++ y → (c ≡ d) × (x ≡ y)
  same_cat (one_item i) (one_item j) x y p q e = let u = same_item i j x y (ends_item p) (ends_item q) e in (ap one_item u.0, u.1)
  same_cat (one_item i) (and_cat j d) x y p q e =
      let u = same_item i j x (cat_text d ++ y) (ends_item p) (before_cat d y) (e ∙ append_assoc (item_text j) (cat_text d) y) in
      absurd (clash begins_atom _ _ p.no_atom (cat_begins d y) u.1)
  same_cat (and_cat i c) (one_item j) x y p q e =
      let u = same_item i j (cat_text c ++ x) y (before_cat c x) (ends_item q) (sym (append_assoc (item_text i) (cat_text c) x) ∙ e) in
      absurd (clash begins_atom _ _ q.no_atom (cat_begins c x) (sym u.1))
  same_cat (and_cat i c) (and_cat j d) x y p q e =
      let u = same_item i j (cat_text c ++ x) (cat_text d ++ y) (before_cat c x) (before_cat d y)
      (sym (append_assoc (item_text i) (cat_text c) x) ∙ e ∙ append_assoc (item_text j) (cat_text d) y) in
      let v = same_cat c d x y p q u.1 in
      (cc (u.0, v.0), v.1)

  same_item : (i j : Item) (x y : List Lexeme) → EndsItem x → EndsItem y → item_text i ++ x ≡ item_text j ++ y → (i ≡ j) × (x ≡ y)
  same_item (once a) (once b) x y p q e = let u = same_atom a b x y p.no_flag q.no_flag e in (ap once u.0, u.1)
  same_item (once a) (repeated b s) x y p q e =
      let u = same_atom a b x (rep_text s ++ y) p.no_flag (rep_no_flag s y) (e ∙ append_assoc (atom_text b) (rep_text s) y) in
      absurd (clash begins_rep _ _ p.no_rep (rep_begins s y) u.1)
  same_item (repeated a r) (once b) x y p q e =
      let u = same_atom a b (rep_text r ++ x) y (rep_no_flag r x) q.no_flag (sym (append_assoc (atom_text a) (rep_text r) x) ∙ e) in
      absurd (clash begins_rep _ _ q.no_rep (rep_begins r x) (sym u.1))
  same_item (repeated a r) (repeated b s) x y p q e =
      let u = same_atom a b (rep_text r ++ x) (rep_text s ++ y) (rep_no_flag r x) (rep_no_flag s y)
      (sym (append_assoc (atom_text a) (rep_text r) x) ∙ e ∙ append_assoc (atom_text b) (rep_text s) y) in
      let w = one_rep r s x y u.1 in
      (cc (u.0, w.0), w.1)

  same_atom : (a b : Atom) (x y : List Lexeme) → begins_flag x ≡ false → begins_flag y ≡ false → atom_text a ++ x ≡ atom_text b ++ y → (a ≡ b) × (x ≡ y)
  same_atom any any x y p q e = (refl, cc (e))
  same_atom any (brackets t) x y p q e =
      let inner : RightBracket ∷ x ≡ (test_text t ++ RightBracket ∷ []) ++ y = cc (e) in
      absurd (clash begins_unit _ _ refl (test_begins t (RightBracket ∷ y)) (inner ∙ append_assoc (test_text t) (RightBracket ∷ []) y))
  same_atom (brackets t) any x y p q e =
      let inner : (test_text t ++ RightBracket ∷ []) ++ x ≡ RightBracket ∷ y = cc (e) in
      absurd (clash begins_unit _ _ refl (test_begins t (RightBracket ∷ x)) (sym inner ∙ append_assoc (test_text t) (RightBracket ∷ []) x))
  same_atom (brackets a) (brackets b) x y p q e =
      let inner : (test_text a ++ RightBracket ∷ []) ++ x ≡ (test_text b ++ RightBracket ∷ []) ++ y = cc (e) in
      let w = same_test a b (RightBracket ∷ x) (RightBracket ∷ y) (record { no_flag = refl; no_and = refl; no_bar = refl }) (record { no_flag = refl; no_and = refl; no_bar = refl })
      (sym (append_assoc (test_text a) (RightBracket ∷ []) x) ∙ inner ∙ append_assoc (test_text b) (RightBracket ∷ []) y) in
      (ap brackets w.0, cc (w.1))
  same_atom (bare j f) (bare k g) x y p q e =
      let numbers : j ≡ k = cc (e) in
      let w = one_flag f g x y p q (cc (e)) in
      let how = w.0 in
      (cc (numbers, how), w.1)
  same_atom (parens a) (parens b) x y p q e =
      let inner : (alt_text a ++ RightParen ∷ []) ++ x ≡ (alt_text b ++ RightParen ∷ []) ++ y = cc (e) in
      let u = same_alt a b (RightParen ∷ x) (RightParen ∷ y) (record { no_flag = refl; no_rep = refl; no_atom = refl; no_bar = refl }) (record { no_flag = refl; no_rep = refl; no_atom = refl; no_bar = refl })
      (sym (append_assoc (alt_text a) (RightParen ∷ []) x) ∙ inner ∙ append_assoc (alt_text b) (RightParen ∷ []) y) in
      (ap parens u.0, cc (u.1))
  same_atom _ _ x y p q e = cc (e)

-- what ends a query
pub ends_alt : (e : Ending) → EndsAlt (ending_text e)
ends_alt nothing = record { no_flag = refl; no_rep = refl; no_atom = refl; no_bar = refl }
ends_alt stop = record { no_flag = refl; no_rep = refl; no_atom = refl; no_bar = refl }
ends_alt scope = record { no_flag = refl; no_rep = refl; no_atom = refl; no_bar = refl }
ends_alt scope_stop = record { no_flag = refl; no_rep = refl; no_atom = refl; no_bar = refl }

same_ending : (e f : Ending) → ending_text e ≡ ending_text f → e ≡ f
same_ending nothing nothing h = refl
same_ending stop stop h = refl
same_ending scope scope h = refl
same_ending scope_stop scope_stop h = refl
same_ending _ _ h = cc (h)

-- a text has one derivation
pub one_derivation : (p q : Query) → query_text p ≡ query_text q → p ≡ q
one_derivation (query a e) (query b f) h =
    let u = same_alt a b (ending_text e) (ending_text f) (ends_alt e) (ends_alt f) h in
    let v = same_ending e f u.1 in
    cc (u.0, v)
