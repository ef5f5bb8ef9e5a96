-- What is accepted is a query: a derivation is read off a scan that ended well.
use Rattle.std.proofs.Common.{◌≡◌, ℕ, suc, zero, ◌+◌, ◌*◌, ◌≤◌, ◌<◌, List, [], ◌∷◌, ◌++◌, length, true, Option, Some, None, refl, sym, ap, ◌∙◌, append_assoc, append-nil, length-append, arith, add-one}
use Rattle.std.proofs.lemmas.Bool.{false≢true}
use Rattle.tb_syntax.specs.declared.lexeme.Flag.{Flag}
use Rattle.tb_syntax.specs.declared.lexeme.Flag.TheVariants as flag
use Rattle.tb_syntax.specs.declared.lexeme.Lexeme.{Lexeme}
use Rattle.tb_syntax.specs.declared.lexeme.Lexeme.TheVariants.{LeftParen, RightParen, LeftBracket, RightBracket, LeftBrace, RightBrace, Comma, Quest, Star, Plus, Bar, Semicolon, PercentC, PercentL, Within, Sentence, Number, Quote}
use Rattle.tb_syntax.specs.declared.scanning.Mode.TheVariants.{Wants, Quoted, Has, Repeated, Braced, Lowest, Ranged, Highest, Opened, Scoped, Bounded, Stopped}
use Rattle.tb_syntax.specs.Grammar.{flag_text, Repeat, quest, star, plus, exactly, at_least, between, rep_text, Alt, one_cat, or_alt, one_item, and_cat, Item, once, repeated, Atom, any, brackets, bare, parens, alt_text, cat_text, item_text, atom_text, Ending, nothing, stop, scope, scope_stop, ending_text, query, IsQuery, test_text}
use Rattle.tb_syntax.specs.Machine.{accepts, place, start}
use Rattle.tb_syntax.proofs.WithinBrackets.{TakesBrackets, takes_brackets}

-- what may follow an item within an alternative
data After : Type 0 where
  no_more : After
  item : Item → After → After
  bar : Alt → After

abbrev after_text : After → List Lexeme
after_text no_more = []
after_text (item i k) = item_text i ++ after_text k
after_text (bar a) = Bar ∷ alt_text a

abbrev with_item : Item → Alt → Alt
with_item i (one_cat c) = one_cat (and_cat i c)
with_item i (or_alt c a) = or_alt (and_cat i c) a

with_item-text : (i : Item) (a : Alt) → alt_text (with_item i a) ≡ item_text i ++ alt_text a
with_item-text i (one_cat c) = refl
with_item-text i (or_alt c a) = append_assoc (item_text i) (cat_text c) (Bar ∷ alt_text a)

abbrev attach : Item → After → Alt
attach i no_more = one_cat (one_item i)
attach i (item j k) = with_item i (attach j k)
attach i (bar a) = or_alt (one_item i) a

attach-text : (i : Item) (k : After) → alt_text (attach i k) ≡ item_text i ++ after_text k
attach-text i no_more = sym (append-nil (item_text i))
attach-text i (item j k) = with_item-text i (attach j k) ∙ ap (λ t. item_text i ++ t) (attach-text j k)
attach-text i (bar a) = refl

abbrev item_of : Atom → Option Repeat → Item
item_of a None = once a
item_of a (Some r) = repeated a r

abbrev rep_part : Option Repeat → List Lexeme
rep_part None = []
rep_part (Some r) = rep_text r

item_of-text : (a : Atom) (r : Option Repeat) → item_text (item_of a r) ≡ atom_text a ++ rep_part r
item_of-text a None = sym (append-nil (atom_text a))
item_of-text a (Some r) = refl

-- what is left closes n parentheses
abbrev Closes : ℕ → List Lexeme → Type 0
Closes zero tail = (e : Ending) × (tail ≡ ending_text e)
Closes (suc n) tail = (rest : List Lexeme) × (tail ≡ RightParen ∷ rest) × (accepts (place Has n) rest ≡ true)

record TakesAlt (n : ℕ) (ls : List Lexeme) : Type 0 where
  alt : Alt
  tail : List Lexeme
  text : ls ≡ alt_text alt ++ tail
  closes : Closes n tail

record TakesAfter (n : ℕ) (ls : List Lexeme) : Type 0 where
  after : After
  tail : List Lexeme
  text : ls ≡ after_text after ++ tail
  closes : Closes n tail

record TakesHas (n : ℕ) (ls : List Lexeme) : Type 0 where
  rep : Option Repeat
  after : After
  tail : List Lexeme
  text : ls ≡ rep_part rep ++ (after_text after ++ tail)
  closes : Closes n tail

record TakesAtom (n : ℕ) (ls : List Lexeme) : Type 0 where
  atom : Atom
  rest : List Lexeme
  text : ls ≡ atom_text atom ++ rest
  shorter : length rest < length ls
  goes : accepts (place Has n) rest ≡ true

record TakesRep (n : ℕ) (ls : List Lexeme) : Type 0 where
  rep : Repeat
  rest : List Lexeme
  text : ls ≡ rep_text rep ++ rest
  shorter : length rest < length ls
  goes : accepts (place Repeated n) rest ≡ true

-- an atom, what follows it, and the lexemes of both
joined : (a : Atom) (r : Option Repeat) (k : After) (ls rest tail : List Lexeme) → ls ≡ atom_text a ++ rest → rest ≡ rep_part r ++ (after_text k ++ tail) →
    ls ≡ item_text (item_of a r) ++ (after_text k ++ tail)
joined a r k ls rest tail e f =
    e ∙ ap (λ t. atom_text a ++ t) f ∙ sym (append_assoc (atom_text a) (rep_part r) (after_text k ++ tail))
    ∙ ap (λ t. t ++ (after_text k ++ tail)) (sym (item_of-text a r))

alt_of : (n : ℕ) (ls : List Lexeme) (t : TakesAtom n ls) → TakesHas n t.rest → TakesAlt n ls
alt_of n ls t u = record {
  alt = attach (item_of t.atom u.rep) u.after;
  tail = u.tail;
  text = joined t.atom u.rep u.after ls t.rest u.tail t.text u.text ∙ sym (append_assoc (item_text (item_of t.atom u.rep)) (after_text u.after) u.tail)
      ∙ ap (λ x. x ++ u.tail) (sym (attach-text (item_of t.atom u.rep) u.after));
  closes = u.closes;
}

after_of : (n : ℕ) (ls : List Lexeme) (t : TakesAtom n ls) → TakesHas n t.rest → TakesAfter n ls
after_of n ls t u = record {
  after = item (item_of t.atom u.rep) u.after;
  tail = u.tail;
  text = joined t.atom u.rep u.after ls t.rest u.tail t.text u.text ∙ sym (append_assoc (item_text (item_of t.atom u.rep)) (after_text u.after) u.tail);
  closes = u.closes;
}

has_of : (n : ℕ) (ls : List Lexeme) → TakesAfter n ls → TakesHas n ls
has_of n ls t = record { rep = None; after = t.after; tail = t.tail; text = t.text; closes = t.closes }

has_rep : (n : ℕ) (ls : List Lexeme) (r : TakesRep n ls) → TakesAfter n r.rest → TakesHas n ls
has_rep n ls r t = record { rep = Some r.rep; after = t.after; tail = t.tail; text = r.text ∙ ap (λ x. rep_text r.rep ++ x) t.text; closes = t.closes }

after_bar : (n : ℕ) (ls : List Lexeme) → TakesAlt n ls → TakesAfter n (Bar ∷ ls)
after_bar n ls t = record { after = bar t.alt; tail = t.tail; text = ap (λ x. Bar ∷ x) t.text; closes = t.closes }

-- a repetition by numbers
in_highest : (n : ℕ) (ls : List Lexeme) → accepts (place Highest n) ls ≡ true →
    (rest : List Lexeme) × (ls ≡ RightBrace ∷ rest) × (accepts (place Repeated n) rest ≡ true)
in_highest n [] h = absurd (false≢true h)
in_highest n (RightBrace ∷ ls) h = (ls, refl, h)
in_highest n (_ ∷ ls) h = absurd (false≢true h)

in_ranged : (n a : ℕ) (ls : List Lexeme) → accepts (place Ranged n) ls ≡ true → TakesRep n (LeftBrace ∷ Number a ∷ Comma ∷ ls)
in_ranged n a [] h = absurd (false≢true h)
in_ranged n a (RightBrace ∷ ls) h = record { rep = at_least a; rest = ls; text = refl; shorter = omega arith; goes = h }
in_ranged n a (Number b ∷ ls) h =
    let t = in_highest n ls h in
    record {
      rep = between a b;
      rest = t.0;
      text = ap (λ x. LeftBrace ∷ Number a ∷ Comma ∷ Number b ∷ x) t.1;
      shorter = omega (arith, ap length t.1);
      goes = t.2;
    }
in_ranged n a (_ ∷ ls) h = absurd (false≢true h)

in_lowest : (n a : ℕ) (ls : List Lexeme) → accepts (place Lowest n) ls ≡ true → TakesRep n (LeftBrace ∷ Number a ∷ ls)
in_lowest n a [] h = absurd (false≢true h)
in_lowest n a (RightBrace ∷ ls) h = record { rep = exactly a; rest = ls; text = refl; shorter = omega arith; goes = h }
in_lowest n a (Comma ∷ ls) h = in_ranged n a ls h
in_lowest n a (_ ∷ ls) h = absurd (false≢true h)

in_braced : (n : ℕ) (ls : List Lexeme) → accepts (place Braced n) ls ≡ true → TakesRep n (LeftBrace ∷ ls)
in_braced n [] h = absurd (false≢true h)
in_braced n (Number a ∷ ls) h = in_lowest n a ls h
in_braced n (_ ∷ ls) h = absurd (false≢true h)

-- a literal and its flag
quote_of : (n k : ℕ) (f : Flag) (rest : List Lexeme) → accepts (place Has n) rest ≡ true → TakesAtom n (Quote k ∷ (flag_text f ++ rest))
quote_of n k flag.Plain rest h = record { atom = bare k flag.Plain; rest = rest; text = refl; shorter = omega arith; goes = h }
quote_of n k flag.NoCase rest h = record { atom = bare k flag.NoCase; rest = rest; text = refl; shorter = omega arith; goes = h }
quote_of n k flag.Literal rest h = record { atom = bare k flag.Literal; rest = rest; text = refl; shorter = omega arith; goes = h }

in_quoted : (n k : ℕ) (ls : List Lexeme) → accepts (place Quoted n) ls ≡ true → TakesAtom n (Quote k ∷ ls)
in_quoted zero k [] h = quote_of zero k flag.Plain [] refl
in_quoted (suc n) k [] h = absurd (false≢true h)
in_quoted n k (PercentC ∷ ls) h = quote_of n k flag.NoCase ls h
in_quoted n k (PercentL ∷ ls) h = quote_of n k flag.Literal ls h
in_quoted n k (l ∷ ls) h = quote_of n k flag.Plain (l ∷ ls) h

brackets_of : (n : ℕ) (ls : List Lexeme) → TakesBrackets n ls → TakesAtom n (LeftBracket ∷ ls)
brackets_of n ls t = record {
  atom = brackets t.test;
  rest = t.rest;
  text = ap (λ x. LeftBracket ∷ x) (t.text ∙ sym (append_assoc (test_text t.test) (RightBracket ∷ []) t.rest));
  shorter = omega (arith, simp length-append at (ap length t.text));
  goes = t.goes;
}

in_opened : (n : ℕ) (ls : List Lexeme) → accepts (place Opened n) ls ≡ true → TakesAtom n (LeftBracket ∷ ls)
in_opened n (RightBracket ∷ ls) h = record { atom = any; rest = ls; text = refl; shorter = omega arith; goes = h }
in_opened n [] h = absurd (false≢true h)
in_opened n (l ∷ ls) h = brackets_of n (l ∷ ls) (takes_brackets n (l ∷ ls) h)

parens_of : (n : ℕ) (ls : List Lexeme) → TakesAlt (suc n) ls → TakesAtom n (LeftParen ∷ ls)
parens_of n ls t =
    let c = t.closes in
    record {
      atom = parens t.alt;
      rest = c.0;
      text = ap (λ x. LeftParen ∷ x) (t.text ∙ ap (λ x. alt_text t.alt ++ x) c.1 ∙ sym (append_assoc (alt_text t.alt) (RightParen ∷ []) c.0));
      shorter = omega (arith, simp length-append at (ap length t.text), ap length c.1);
      goes = c.2;
    }

-- the ending
in_stopped : (ls : List Lexeme) → accepts (place Stopped 0) ls ≡ true → ls ≡ []
in_stopped [] h = refl
in_stopped (_ ∷ ls) h = absurd (false≢true h)

in_bounded : (ls : List Lexeme) → accepts (place Bounded 0) ls ≡ true → Closes 0 (Within ∷ Sentence ∷ ls)
in_bounded [] h = (scope, refl)
in_bounded (Semicolon ∷ ls) h = (scope_stop, ap (λ x. Within ∷ Sentence ∷ Semicolon ∷ x) (in_stopped ls h))
in_bounded (_ ∷ ls) h = absurd (false≢true h)

in_scoped : (ls : List Lexeme) → accepts (place Scoped 0) ls ≡ true → Closes 0 (Within ∷ ls)
in_scoped [] h = absurd (false≢true h)
in_scoped (Sentence ∷ ls) h = in_bounded ls h
in_scoped (_ ∷ ls) h = absurd (false≢true h)

after_ending : (ls : List Lexeme) → Closes 0 ls → TakesAfter 0 ls
after_ending ls c = record { after = no_more; tail = ls; text = refl; closes = c }

after_end : (n : ℕ) → accepts (place Repeated n) [] ≡ true → TakesAfter n []
after_end zero h = after_ending [] (nothing, refl)
after_end (suc n) h = absurd (false≢true h)

at_end : (n : ℕ) → accepts (place Has n) [] ≡ true → accepts (place Repeated n) [] ≡ true
at_end zero h = refl
at_end (suc n) h = absurd (false≢true h)

has_mark : (n : ℕ) (r : Repeat) (l : Lexeme) (ls : List Lexeme) → l ∷ [] ≡ rep_text r → TakesAfter n ls → TakesHas n (l ∷ ls)
has_mark n r l ls e t = record {
  rep = Some r;
  after = t.after;
  tail = t.tail;
  text = ap (λ x. l ∷ x) t.text ∙ ap (λ x. x ++ (after_text t.after ++ t.tail)) e;
  closes = t.closes;
}

mutual
  takes_alt : (f n : ℕ) (ls : List Lexeme) → 3 * length ls + 1 ≤ f → accepts (place Wants n) ls ≡ true → TakesAlt n ls
  takes_alt zero n ls le h = absurd (omega arith)
  takes_alt (suc f) n ls le h =
      let t = takes_atom f n ls (omega arith) h in
      let short = t.shorter in
      alt_of n ls t (takes_has f n t.rest (omega arith) t.goes)

  takes_has : (f n : ℕ) (ls : List Lexeme) → 3 * length ls + 2 ≤ f → accepts (place Has n) ls ≡ true → TakesHas n ls
  takes_has zero n ls le h = absurd (omega arith)
  takes_has (suc f) n [] le h = has_of n [] (takes_after f n [] (omega arith) (at_end n h))
  takes_has (suc f) n (Star ∷ ls) le h = has_mark n star Star ls refl (takes_after f n ls (omega arith) h)
  takes_has (suc f) n (Quest ∷ ls) le h = has_mark n quest Quest ls refl (takes_after f n ls (omega arith) h)
  takes_has (suc f) n (Plus ∷ ls) le h = has_mark n plus Plus ls refl (takes_after f n ls (omega arith) h)
  takes_has (suc f) n (LeftBrace ∷ ls) le h =
      let r = in_braced n ls h in
      let short = r.shorter in
      has_rep n (LeftBrace ∷ ls) r (takes_after f n r.rest (omega arith) r.goes)
  takes_has (suc f) n (l ∷ ls) le h = has_of n (l ∷ ls) (takes_after f n (l ∷ ls) (omega arith) h)

  takes_after : (f n : ℕ) (ls : List Lexeme) → 3 * length ls + 1 ≤ f → accepts (place Repeated n) ls ≡ true → TakesAfter n ls
  takes_after zero n ls le h = absurd (omega arith)
  takes_after (suc f) n [] le h = after_end n h
  takes_after (suc f) zero (RightParen ∷ ls) le h = absurd (false≢true h)
  takes_after (suc f) (suc n) (RightParen ∷ ls) le h = record { after = no_more; tail = RightParen ∷ ls; text = refl; closes = (ls, refl, h) }
  takes_after (suc f) zero (Within ∷ ls) le h = after_ending (Within ∷ ls) (in_scoped ls h)
  takes_after (suc f) (suc n) (Within ∷ ls) le h = absurd (false≢true h)
  takes_after (suc f) zero (Semicolon ∷ ls) le h = after_ending (Semicolon ∷ ls) (stop, ap (λ x. Semicolon ∷ x) (in_stopped ls h))
  takes_after (suc f) (suc n) (Semicolon ∷ ls) le h = absurd (false≢true h)
  takes_after (suc f) n (Bar ∷ ls) le h = after_bar n ls (takes_alt f n ls (omega arith) h)
  takes_after (suc f) n (Quote k ∷ ls) le h =
      let t = takes_atom f n (Quote k ∷ ls) (omega arith) h in
      let short = t.shorter in
      after_of n (Quote k ∷ ls) t (takes_has f n t.rest (omega arith) t.goes)
  takes_after (suc f) n (LeftBracket ∷ ls) le h =
      let t = takes_atom f n (LeftBracket ∷ ls) (omega arith) h in
      let short = t.shorter in
      after_of n (LeftBracket ∷ ls) t (takes_has f n t.rest (omega arith) t.goes)
  takes_after (suc f) n (LeftParen ∷ ls) le h =
      let t = takes_atom f n (LeftParen ∷ ls) (omega arith) h in
      let short = t.shorter in
      after_of n (LeftParen ∷ ls) t (takes_has f n t.rest (omega arith) t.goes)
  takes_after (suc f) n (_ ∷ ls) le h = absurd (false≢true h)

  takes_atom : (f n : ℕ) (ls : List Lexeme) → 3 * length ls ≤ f → accepts (place Wants n) ls ≡ true → TakesAtom n ls
  takes_atom f n [] le h = absurd (false≢true h)
  takes_atom zero n (l ∷ ls) le h = absurd (omega arith)
  takes_atom (suc f) n (Quote k ∷ ls) le h = in_quoted n k ls h
  takes_atom (suc f) n (LeftBracket ∷ ls) le h = in_opened n ls h
  takes_atom (suc f) n (LeftParen ∷ ls) le h = parens_of n ls (takes_alt f (suc n) ls (omega arith) (rw add-one at h))
  takes_atom (suc f) n (_ ∷ ls) le h = absurd (false≢true h)

-- what is accepted is a query
pub query_of_accepted : (ls : List Lexeme) → accepts start ls ≡ true → IsQuery ls
query_of_accepted ls h =
    let t = takes_alt (3 * length ls + 1) 0 ls (omega arith) h in
    let c = t.closes in
    (query t.alt c.0, sym (t.text ∙ ap (λ x. alt_text t.alt ++ x) c.1))
