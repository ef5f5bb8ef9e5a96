-- Going over what a derivation spells, the room for parentheses is enough just where the derivation nests no deeper.
use Rattle.std.proofs.Common.{◌≡◌, ℕ, suc, zero, ◌+◌, ◌<◌, ◌≤◌, List, [], ◌∷◌, ◌++◌, length, drop, get_or, Bool, true, false, if◌then◌else◌, Option, Some, None, option_and_then, is_some, refl, sym, ap, ◌∙◌, append_assoc, arith, add-one, drop-cons}
use Rattle.std.proofs.lemmas.List.{drop_all}
use Rattle.tb_syntax.specs.declared.lexeme.Flag.{Flag}
use Rattle.tb_syntax.specs.declared.lexeme.Flag.TheVariants as flag
use Rattle.tb_syntax.specs.declared.lexeme.Lexeme.{Lexeme}
use Rattle.tb_syntax.specs.declared.lexeme.Lexeme.TheVariants.{RightParen, RightBracket, Bar, And}
use Rattle.tb_syntax.specs.Grammar.{flag_text, same, other, Test', one_conj, or_test, Conj, one_unit, and_conj, Unit', denied, grouped, compares, contains, test_text, conj_text, unit_text, Repeat, quest, star, plus, exactly, at_least, between, rep_text, Alt, one_cat, or_alt, Cat, one_item, and_cat, Item, once, repeated, Atom, any, brackets, bare, parens, alt_text, cat_text, item_text, atom_text, Ending, nothing, stop, scope, scope_stop, ending_text, Query, query, query_text}
use Rattle.tb_syntax.specs.Limits.{test_nests, conj_nests, unit_nests, alt_nests, cat_nests, item_nests, atom_nests, query_nests, room_after}

abbrev pub walk : ℕ → List Lexeme → Option ℕ
walk r [] = Some r
walk r (l ∷ ls) = option_and_then (λ s. walk s ls) (room_after r l)

abbrev when : Bool → Option ℕ → Option ℕ
when b o = if b then o else None

both : (x y : Bool) (o w : Option ℕ) → w ≡ when y o → when x w ≡ when (if x then y else false) o
both true y o w h = h
both false y o w h = refl

over_flag : (r : ℕ) (f : Flag) (rest : List Lexeme) → walk r (flag_text f ++ rest) ≡ walk r rest
over_flag zero flag.Plain rest = refl
over_flag zero flag.NoCase rest = refl
over_flag zero flag.Literal rest = refl
over_flag (suc r) flag.Plain rest = refl
over_flag (suc r) flag.NoCase rest = refl
over_flag (suc r) flag.Literal rest = refl

over_rep : (r : ℕ) (p : Repeat) (rest : List Lexeme) → walk r (rep_text p ++ rest) ≡ walk r rest
over_rep zero quest rest = refl
over_rep zero star rest = refl
over_rep zero plus rest = refl
over_rep zero (exactly a) rest = refl
over_rep zero (at_least a) rest = refl
over_rep zero (between a b) rest = refl
over_rep (suc r) quest rest = refl
over_rep (suc r) star rest = refl
over_rep (suc r) plus rest = refl
over_rep (suc r) (exactly a) rest = refl
over_rep (suc r) (at_least a) rest = refl
over_rep (suc r) (between a b) rest = refl

over_bar : (r : ℕ) (rest : List Lexeme) → walk r (Bar ∷ rest) ≡ walk r rest
over_bar zero rest = refl
over_bar (suc r) rest = refl

over_and : (r : ℕ) (rest : List Lexeme) → walk r (And ∷ rest) ≡ walk r rest
over_and zero rest = refl
over_and (suc r) rest = refl

over_shut : (r : ℕ) (rest : List Lexeme) → walk r (RightBracket ∷ rest) ≡ walk r rest
over_shut zero rest = refl
over_shut (suc r) rest = refl

over_close : (r : ℕ) (rest : List Lexeme) → walk r (RightParen ∷ rest) ≡ walk (suc r) rest
over_close zero rest = let e : zero + 1 ≡ suc zero = omega arith in ap (λ n. walk n rest) e
over_close (suc r) rest = let e : suc r + 1 ≡ suc (suc r) = omega arith in ap (λ n. walk n rest) e

mutual
  over_test : (t : Test') (r : ℕ) (rest : List Lexeme) → walk r (test_text t ++ rest) ≡ when (test_nests r t) (walk r rest)
  over_test (one_conj c) r rest = over_conj c r rest
  over_test (or_test c t) r rest =
      rw append_assoc (over_conj c r (Bar ∷ (test_text t ++ rest))
      ∙ both (conj_nests r c) (test_nests r t) (walk r rest) _ (over_bar r (test_text t ++ rest) ∙ over_test t r rest))

  over_conj : (c : Conj) (r : ℕ) (rest : List Lexeme) → walk r (conj_text c ++ rest) ≡ when (conj_nests r c) (walk r rest)
  over_conj (one_unit u) r rest = over_unit u r rest
  over_conj (and_conj u c) r rest =
      rw append_assoc (over_unit u r (And ∷ (conj_text c ++ rest))
      ∙ both (unit_nests r u) (conj_nests r c) (walk r rest) _ (over_and r (conj_text c ++ rest) ∙ over_conj c r rest))

  over_unit : (u : Unit') (r : ℕ) (rest : List Lexeme) → walk r (unit_text u ++ rest) ≡ when (unit_nests r u) (walk r rest)
  over_unit (denied u) zero rest = over_unit u zero rest
  over_unit (denied u) (suc r) rest = over_unit u (suc r) rest
  over_unit (grouped t) zero rest = refl
  over_unit (grouped t) (suc r) rest =
      ap (walk r) (append_assoc (test_text t) (RightParen ∷ []) rest) ∙ over_test t r (RightParen ∷ rest) ∙ ap (when (test_nests r t)) (over_close r rest)
  over_unit (compares a same k f) zero rest = over_flag zero f rest
  over_unit (compares a same k f) (suc r) rest = over_flag (suc r) f rest
  over_unit (compares a other k f) zero rest = over_flag zero f rest
  over_unit (compares a other k f) (suc r) rest = over_flag (suc r) f rest
  over_unit (contains k f) zero rest = over_flag zero f rest
  over_unit (contains k f) (suc r) rest = over_flag (suc r) f rest

mutual
  over_alt : (a : Alt) (r : ℕ) (rest : List Lexeme) → walk r (alt_text a ++ rest) ≡ when (alt_nests r a) (walk r rest)
  over_alt (one_cat c) r rest = over_cat c r rest
  over_alt (or_alt c a) r rest =
      rw append_assoc (over_cat c r (Bar ∷ (alt_text a ++ rest))
      ∙ both (cat_nests r c) (alt_nests r a) (walk r rest) _ (over_bar r (alt_text a ++ rest) ∙ over_alt a r rest))

  over_cat : (c : Cat) (r : ℕ) (rest : List Lexeme) → walk r (cat_text c ++ rest) ≡ when (cat_nests r c) (walk r rest)
  over_cat (one_item i) r rest = over_item i r rest
  over_cat (and_cat i c) r rest =
      rw append_assoc (over_item i r (cat_text c ++ rest)
      ∙ both (item_nests r i) (cat_nests r c) (walk r rest) _ (over_cat c r rest))

  over_item : (i : Item) (r : ℕ) (rest : List Lexeme) → walk r (item_text i ++ rest) ≡ when (item_nests r i) (walk r rest)
  over_item (once a) r rest = over_atom a r rest
  over_item (repeated a p) r rest =
      rw append_assoc (over_atom a r (rep_text p ++ rest) ∙ ap (when (atom_nests r a)) (over_rep r p rest))

  over_atom : (a : Atom) (r : ℕ) (rest : List Lexeme) → walk r (atom_text a ++ rest) ≡ when (atom_nests r a) (walk r rest)
  over_atom any zero rest = refl
  over_atom any (suc r) rest = refl
  over_atom (brackets t) zero rest =
      ap (walk zero) (append_assoc (test_text t) (RightBracket ∷ []) rest) ∙ over_test t zero (RightBracket ∷ rest) ∙ ap (when (test_nests zero t)) (over_shut zero rest)
  over_atom (brackets t) (suc r) rest =
      ap (walk (suc r)) (append_assoc (test_text t) (RightBracket ∷ []) rest) ∙ over_test t (suc r) (RightBracket ∷ rest) ∙ ap (when (test_nests (suc r) t)) (over_shut (suc r) rest)
  over_atom (bare k f) zero rest = over_flag zero f rest
  over_atom (bare k f) (suc r) rest = over_flag (suc r) f rest
  over_atom (parens a) zero rest = refl
  over_atom (parens a) (suc r) rest =
      ap (walk r) (append_assoc (alt_text a) (RightParen ∷ []) rest) ∙ over_alt a r (RightParen ∷ rest) ∙ ap (when (alt_nests r a)) (over_close r rest)

over_ending : (r : ℕ) (e : Ending) → walk r (ending_text e) ≡ Some r
over_ending zero nothing = refl
over_ending zero stop = refl
over_ending zero scope = refl
over_ending zero scope_stop = refl
over_ending (suc r) nothing = refl
over_ending (suc r) stop = refl
over_ending (suc r) scope = refl
over_ending (suc r) scope_stop = refl

ends : (b : Bool) (r : ℕ) → is_some (when b (Some r)) ≡ b
ends true r = refl
ends false r = refl

-- the room is enough just where the query nests no deeper
pub nests : (r : ℕ) (q : Query) → is_some (walk r (query_text q)) ≡ query_nests r q
nests r (query a e) = ap is_some (over_alt a r (ending_text e) ∙ ap (when (alt_nests r a)) (over_ending r e)) ∙ ends (alt_nests r a) r

one_step : (r : ℕ) (l : Lexeme) (ls : List Lexeme) (o : Option ℕ) → room_after r l ≡ o → walk r (l ∷ ls) ≡ option_and_then (λ s. walk s ls) o
one_step r l ls o e = ap (option_and_then (λ s. walk s ls)) e

-- the walk, from turn to turn
pub goes_on : (ls : List Lexeme) (m i r : ℕ) (o : Option ℕ) (d : Lexeme) → i < length ls → walk m ls ≡ walk r (drop i ls) →
    room_after r (get_or ls i d) ≡ o → walk m ls ≡ option_and_then (λ s. walk s (drop (i + 1) ls)) o
goes_on ls m i r o d lt e s = e ∙ rw (add-one, drop-cons ls i d lt) (one_step r (get_or ls i d) (drop (suc i) ls) o s)

pub answer : (ls : List Lexeme) (m : ℕ) (o : Option ℕ) → walk m ls ≡ o → (q : Query) → query_text q ≡ ls → is_some o ≡ query_nests m q
answer ls m o e q h = sym (ap is_some e) ∙ sym (ap (λ x. is_some (walk m x)) h) ∙ nests m q

pub at_end : (ls : List Lexeme) (m i r : ℕ) → length ls ≤ i → walk m ls ≡ walk r (drop i ls) → walk m ls ≡ Some r
at_end ls m i r le e = e ∙ ap (walk r) (drop_all i ls le)
