-- Going over what a derivation spells, the numbers are within the limits just where those of the derivation are.
use Rattle.std.proofs.Common.{◌≡◌, ℕ, suc, ◌+◌, ◌<◌, ◌≤◌, List, [], ◌∷◌, ◌++◌, length, drop, get_or, Bool, true, false, ◌&&◌, nat_le, if◌then◌else◌, Option, Some, None, option_and_then, is_some, refl, sym, ap, ◌∙◌, append_assoc, add-one, drop-cons}
use Rattle.std.proofs.lemmas.Bool.{false≢true}
use Rattle.std.proofs.lemmas.List.{drop_all}
use Rattle.tb_syntax.specs.declared.lexeme.Flag.{Flag}
use Rattle.tb_syntax.specs.declared.lexeme.Flag.TheVariants as flag
use Rattle.tb_syntax.specs.declared.lexeme.Lexeme.{Lexeme}
use Rattle.tb_syntax.specs.declared.lexeme.Lexeme.TheVariants.{LeftParen, RightParen, RightBracket, RightBrace, Comma, Bar, And, Not, Equals, Differs, PercentC, PercentL, Name, Contains, Quote, Number}
use Rattle.tb_syntax.specs.declared.limits.Bounds.{Bounds}
use Rattle.tb_syntax.specs.declared.limits.Bounds.TheVariants.{Apart, Least}
use Rattle.tb_syntax.specs.Grammar.{flag_text, Repeat, quest, star, plus, exactly, at_least, between, rep_text, Alt, one_cat, or_alt, Cat, one_item, and_cat, Item, once, repeated, Atom, any, brackets, bare, parens, test_text, alt_text, cat_text, item_text, atom_text, Ending, nothing, stop, scope, scope_stop, ending_text, Query, query, query_text}
use Rattle.tb_syntax.specs.Limits.{repeat_fits, alt_repeats, cat_repeats, item_repeats, atom_repeats, query_repeats, bounds_after}
use Rattle.tb_syntax.proofs.OverTests.{in_test, skips_test}

abbrev pub through : ℕ → Bounds → List Lexeme → Option Bounds
through m b [] = Some b
through m b (l ∷ ls) = option_and_then (λ c. through m c ls) (bounds_after m b l)

abbrev when : Bool → Option Bounds → Option Bounds
when b o = if b then o else None

both : (x y : Bool) (o w : Option Bounds) → w ≡ when y o → when x w ≡ when (if x then y else false) o
both true y o w h = h
both false y o w h = refl

tested : (m : ℕ) (x : Bool) (b : Bounds) (rest : List Lexeme) → option_and_then (λ c. through m c rest) (if x then Some b else None) ≡ when x (through m b rest)
tested m true b rest = refl
tested m false b rest = refl

-- what is tested once the first number has passed
first_tested : (m a : ℕ) (x y : Bool) (ls : List Lexeme) (o : Option Bounds) → through m (Least a) ls ≡ when y o →
    option_and_then (λ c. through m c ls) (if x then Some (Least a) else None) ≡ when (x && y) o
first_tested m a true y ls o h = h
first_tested m a false y ls o h = refl

skips : (m : ℕ) (l : Lexeme) (ls : List Lexeme) → in_test l ≡ true → through m Apart (l ∷ ls) ≡ through m Apart ls
skips m LeftParen ls h = refl
skips m RightParen ls h = refl
skips m Bar ls h = refl
skips m And ls h = refl
skips m Not ls h = refl
skips m Equals ls h = refl
skips m Differs ls h = refl
skips m PercentC ls h = refl
skips m PercentL ls h = refl
skips m (Name a) ls h = refl
skips m Contains ls h = refl
skips m (Quote k) ls h = refl
skips m _ ls h = absurd (false≢true h)

over_flag : (m : ℕ) (f : Flag) (rest : List Lexeme) → through m Apart (flag_text f ++ rest) ≡ through m Apart rest
over_flag m flag.Plain rest = refl
over_flag m flag.NoCase rest = refl
over_flag m flag.Literal rest = refl

over_rep : (m : ℕ) (p : Repeat) (rest : List Lexeme) → through m Apart (rep_text p ++ rest) ≡ when (repeat_fits m p) (through m Apart rest)
over_rep m quest rest = refl
over_rep m star rest = refl
over_rep m plus rest = refl
over_rep m (exactly a) rest = first_tested m a (nat_le a m) (nat_le 1 a) (RightBrace ∷ rest) (through m Apart rest) (tested m (nat_le 1 a) Apart rest)
over_rep m (at_least a) rest = tested m (nat_le a m) (Least a) (Comma ∷ RightBrace ∷ rest)
over_rep m (between a b) rest =
    first_tested m a (nat_le a m) (nat_le a b && nat_le 1 b && nat_le b m) (Comma ∷ Number b ∷ RightBrace ∷ rest) (through m Apart rest)
    (tested m (nat_le a b && nat_le 1 b && nat_le b m) Apart (RightBrace ∷ rest))

mutual
  over_alt : (m : ℕ) (a : Alt) (rest : List Lexeme) → through m Apart (alt_text a ++ rest) ≡ when (alt_repeats m a) (through m Apart rest)
  over_alt m (one_cat c) rest = over_cat m c rest
  over_alt m (or_alt c a) rest =
      rw append_assoc (over_cat m c (Bar ∷ (alt_text a ++ rest)) ∙ both (cat_repeats m c) (alt_repeats m a) (through m Apart rest) _ (over_alt m a rest))

  over_cat : (m : ℕ) (c : Cat) (rest : List Lexeme) → through m Apart (cat_text c ++ rest) ≡ when (cat_repeats m c) (through m Apart rest)
  over_cat m (one_item i) rest = over_item m i rest
  over_cat m (and_cat i c) rest =
      rw append_assoc (over_item m i (cat_text c ++ rest) ∙ both (item_repeats m i) (cat_repeats m c) (through m Apart rest) _ (over_cat m c rest))

  over_item : (m : ℕ) (i : Item) (rest : List Lexeme) → through m Apart (item_text i ++ rest) ≡ when (item_repeats m i) (through m Apart rest)
  over_item m (once a) rest = over_atom m a rest
  over_item m (repeated a p) rest =
      rw append_assoc (over_atom m a (rep_text p ++ rest) ∙ both (atom_repeats m a) (repeat_fits m p) (through m Apart rest) _ (over_rep m p rest))

  over_atom : (m : ℕ) (a : Atom) (rest : List Lexeme) → through m Apart (atom_text a ++ rest) ≡ when (atom_repeats m a) (through m Apart rest)
  over_atom m any rest = refl
  over_atom m (brackets t) rest =
      ap (through m Apart) (append_assoc (test_text t) (RightBracket ∷ []) rest) ∙ skips_test (through m Apart) (skips m) t (RightBracket ∷ rest)
  over_atom m (bare k f) rest = over_flag m f rest
  over_atom m (parens a) rest = ap (through m Apart) (append_assoc (alt_text a) (RightParen ∷ []) rest) ∙ over_alt m a (RightParen ∷ rest)

over_ending : (m : ℕ) (e : Ending) → through m Apart (ending_text e) ≡ Some Apart
over_ending m nothing = refl
over_ending m stop = refl
over_ending m scope = refl
over_ending m scope_stop = refl

ends : (b : Bool) → is_some (when b (Some Apart)) ≡ b
ends true = refl
ends false = refl

repeats : (m : ℕ) (q : Query) → is_some (through m Apart (query_text q)) ≡ query_repeats m q
repeats m (query a e) = ap is_some (over_alt m a (ending_text e) ∙ ap (when (alt_repeats m a)) (over_ending m e)) ∙ ends (alt_repeats m a)

one_step : (m : ℕ) (b : Bounds) (l : Lexeme) (ls : List Lexeme) (o : Option Bounds) → bounds_after m b l ≡ o → through m b (l ∷ ls) ≡ option_and_then (λ c. through m c ls) o
one_step m b l ls o e = ap (option_and_then (λ c. through m c ls)) e

-- the numbers, from turn to turn
pub goes_on : (ls : List Lexeme) (m i : ℕ) (b : Bounds) (o : Option Bounds) (d : Lexeme) → i < length ls → through m Apart ls ≡ through m b (drop i ls) →
    bounds_after m b (get_or ls i d) ≡ o → through m Apart ls ≡ option_and_then (λ c. through m c (drop (i + 1) ls)) o
goes_on ls m i b o d lt e s = e ∙ rw (add-one, drop-cons ls i d lt) (one_step m b (get_or ls i d) (drop (suc i) ls) o s)

pub answer : (ls : List Lexeme) (m : ℕ) (o : Option Bounds) → through m Apart ls ≡ o → (q : Query) → query_text q ≡ ls → is_some o ≡ query_repeats m q
answer ls m o e q h = sym (ap is_some e) ∙ sym (ap (λ x. is_some (through m Apart x)) h) ∙ repeats m q

pub at_end : (ls : List Lexeme) (m i : ℕ) (b : Bounds) → length ls ≤ i → through m Apart ls ≡ through m b (drop i ls) → through m Apart ls ≡ Some b
at_end ls m i b le e = e ∙ ap (through m b) (drop_all i ls le)
