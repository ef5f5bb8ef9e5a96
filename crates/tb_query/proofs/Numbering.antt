-- The literals of a text are numbered from 0 in the order of the text.
use Rattle.std.proofs.Common.{◌≡◌, ℕ, ◌+◌, min, List, [], ◌∷◌, ◌++◌, map, codes, Bool, true, false, ◌&&◌, nat_eq, if◌then◌else◌, Option, Some, None, option_map, refl, sym, ap, subst, ◌∙◌, append-nil, append_assoc, inl, inr}
use Rattle.std.proofs.lemmas.Bool.{false≢true}
use Rattle.std.proofs.lemmas.List.{map-append}
use Rattle.std.specs.Str.{bytes_eq}
use Rattle.tb_syntax.specs.declared.expr.Literal.{Literal}
use Rattle.tb_syntax.specs.declared.lexeme.Attr.{Attr}
use Rattle.tb_syntax.specs.declared.lexeme.Flag.{Flag}
use Rattle.tb_syntax.specs.declared.lexeme.Flag.TheVariants as flag
use Rattle.tb_syntax.specs.declared.lexeme.Lexeme.{Lexeme}
use Rattle.tb_syntax.specs.declared.lexeme.Lexeme.TheVariants.{LeftParen, RightParen, LeftBracket, RightBracket, LeftBrace, RightBrace, Comma, Quest, Star, Plus, Bar, And, Not, Equals, Differs, Semicolon, PercentC, PercentL, Name, Contains, Within, Sentence, Number, Quote}
use Rattle.tb_syntax.specs.declared.lexing.Span.{Span}
use Rattle.tb_syntax.specs.Grammar.{flag_text, same, other, Test', one_conj, or_test, Conj, one_unit, and_conj, Unit', denied, grouped, compares, contains, test_text, conj_text, unit_text, Repeat, quest, star, plus, exactly, at_least, between, rep_text, Alt, one_cat, or_alt, Cat, one_item, and_cat, Item, once, repeated, Atom, any, brackets, bare, parens, alt_text, cat_text, item_text, atom_text, Ending, nothing, stop, scope, scope_stop, ending_text, Query, query, query_text}
use Rattle.tb_syntax.specs.Lexing.{Lexes, literals_after}
use Rattle.tb_syntax.specs.Pattern.{both_of, either_of, test_parts, conj_parts, unit_test, alt_tests, cat_tests, item_tests, atom_tests, query_tests}
use Rattle.tb_syntax.specs.Spelling.{column, word, number, decimal_from, double_mark, single_mark, Starts, of_letters, of_digits, of_two_marks, of_one_mark, of_quotes}
use Rattle.tb_syntax.specs.Tests.{Test, literals, literals_of}
use Rattle.tb_query.proofs.Attachments.{parts_literals}

-- the numbers go up by one from this one on
abbrev pub IsFrom : ℕ → List ℕ → Type 0
IsFrom n [] = Unit {0}
IsFrom n (k ∷ ks) = (k ≡ n) × IsFrom (n + 1) ks

-- the numbers of the literals among lexemes
abbrev pub quote_of : Lexeme → List ℕ
quote_of (Quote k) = k ∷ []
quote_of _ = []

abbrev pub quotes : List Lexeme → List ℕ
quotes [] = []
quotes (l ∷ ls) = quote_of l ++ quotes ls

-- only quotes begin a literal

abbrev no_literal : Option Lexeme → Bool
no_literal (Some (Quote k)) = false
no_literal _ = true

chain : (b : Bool) (x y : Option Lexeme) → no_literal x ≡ true → no_literal y ≡ true → no_literal (if b then x else y) ≡ true
chain true x y p q = p
chain false x y p q = q

named : (o : Option Attr) → no_literal (option_map Name o) ≡ true
named None = refl
named (Some a) = refl

no_word : (s : List ℕ) → no_literal (word s) ≡ true
no_word s =
    chain (bytes_eq s (codes "contains")) (Some Contains) _ refl
    (chain (bytes_eq s (codes "within")) (Some Within) _ refl (chain (bytes_eq s (codes "s")) (Some Sentence) _ refl (named (column s))))

no_number : (s : List ℕ) → no_literal (number s) ≡ true
no_number [] = refl
no_number (c ∷ []) = refl
no_number (c ∷ d ∷ cs) = chain (nat_eq c 48) None (Some (Number (min 255 (decimal_from 0 (c ∷ d ∷ cs))))) refl refl

no_double : (a b : ℕ) → no_literal (double_mark a b) ≡ true
no_double a b =
    chain (nat_eq a 0x25 && nat_eq b 0x63) (Some PercentC) _ refl
    (chain (nat_eq a 0x25 && nat_eq b 0x6C) (Some PercentL) _ refl (chain (nat_eq a 0x21 && nat_eq b 0x3D) (Some Differs) None refl refl))

no_single : (a : ℕ) → no_literal (single_mark a) ≡ true
no_single a =
    chain (nat_eq a 0x28) (Some LeftParen) _ refl (chain (nat_eq a 0x29) (Some RightParen) _ refl (chain (nat_eq a 0x5B) (Some LeftBracket) _ refl (chain (nat_eq a 0x5D) (Some RightBracket) _ refl (chain (nat_eq a 0x7B) (Some LeftBrace) _ refl (chain (nat_eq a 0x7D) (Some RightBrace) _ refl (chain (nat_eq a 0x2C) (Some Comma) _ refl (chain (nat_eq a 0x3F) (Some Quest) _ refl (chain (nat_eq a 0x2A) (Some Star) _ refl (chain (nat_eq a 0x2B) (Some Plus) _ refl (chain (nat_eq a 0x7C) (Some Bar) _ refl (chain (nat_eq a 0x26) (Some And) _ refl (chain (nat_eq a 0x21) (Some Not) _ refl (chain (nat_eq a 0x3D) (Some Equals) _ refl (chain (nat_eq a 0x3B) (Some Semicolon) _ refl refl))))))))))))))

never : {A : Type 0} (o : Option Lexeme) (j : ℕ) → no_literal o ≡ true → o ≡ Some (Quote j) → A
never o j n e = absurd (false≢true (sym (ap no_literal e) ∙ n))

starts_at : (k j : ℕ) (text : List ℕ) (l : Lexeme) (rest : List ℕ) → Starts k text l rest → l ≡ Quote j → j ≡ k
starts_at k j text l rest (of_letters s r e) q = never (word s) j (no_word s) (e ∙ ap Some q)
starts_at k j text l rest (of_digits s r e) q = never (number s) j (no_number s) (e ∙ ap Some q)
starts_at k j text l rest (of_two_marks a b t e) q = never (double_mark a b) j (no_double a b) (e ∙ ap Some q)
starts_at k j text l rest (of_one_mark a t e n) q = never (single_mark a) j (no_single a) (e ∙ ap Some q)
starts_at k j text l rest (of_quotes c s h t b e) q = cc (e, q)

one_lexeme : (k : ℕ) (l : Lexeme) (ns : List ℕ) → ((j : ℕ) → l ≡ Quote j → j ≡ k) → IsFrom (literals_after k l) ns → IsFrom k (quote_of l ++ ns)
one_lexeme k (Quote j) ns h m = (h j refl, m)
one_lexeme k _ ns h m = m

pub lexed_from : (at k : ℕ) (text : List ℕ) (ls : List Lexeme) (ss : List Span) → Lexes at k text ls ss → IsFrom k (quotes ls)
lexed_from at k text [] ss h = tt
lexed_from at k text (l ∷ ls) [] h = absurd h
lexed_from at k text (l ∷ ls) (s ∷ ss) (gap, tail, p, white, black, start, inl (rest, starts, end, more)) =
    one_lexeme k l (quotes ls) (λ j e. starts_at k j tail l rest starts e) (lexed_from s.end (literals_after k l) rest ls ss more)
lexed_from at k text (l ∷ ls) (s ∷ ss) (gap, tail, p, white, black, start, inr (none, stray, end, lo, so)) =
    subst (λ x. IsFrom k (quote_of x ++ quotes ls)) (sym stray) (subst (λ x. IsFrom k (quotes x)) (sym lo) tt)

-- the grammar keeps the order

abbrev pub numbers : List Literal → List ℕ
numbers ls = map (λ (l : Literal). l.number) ls

abbrev pub numbers_of : List (Test Literal) → List ℕ
numbers_of ts = numbers (literals_of ts)

quotes_append : (xs ys : List Lexeme) → quotes (xs ++ ys) ≡ quotes xs ++ quotes ys
quotes_append [] ys = refl
quotes_append (x ∷ xs) ys = ap (λ z. quote_of x ++ z) (quotes_append xs ys) ∙ sym (append_assoc (quote_of x) (quotes xs) (quotes ys))

literals_append : (xs ys : List (Test Literal)) → literals_of (xs ++ ys) ≡ literals_of xs ++ literals_of ys
literals_append [] ys = refl
literals_append (x ∷ xs) ys = ap (λ z. literals x ++ z) (literals_append xs ys) ∙ sym (append_assoc (literals x) (literals_of xs) (literals_of ys))

numbers_append : (xs ys : List (Test Literal)) → numbers_of (xs ++ ys) ≡ numbers_of xs ++ numbers_of ys
numbers_append xs ys = ap numbers (literals_append xs ys) ∙ map-append (λ (l : Literal). l.number) (literals_of xs) (literals_of ys)

numbers_more : (x : Test Literal) (ys : List (Test Literal)) → numbers_of (x ∷ ys) ≡ numbers (literals x) ++ numbers_of ys
numbers_more x ys = map-append (λ (l : Literal). l.number) (literals x) (literals_of ys)

one_number : (x : Test Literal) → numbers_of (x ∷ []) ≡ numbers (literals x)
one_number x = ap numbers (append-nil (literals x))

both_numbers : (ts : List (Test Literal)) → numbers (literals (both_of ts)) ≡ numbers_of ts
both_numbers [] = refl
both_numbers (t ∷ []) = sym (one_number t)
both_numbers (t ∷ u ∷ ts) = ap numbers (parts_literals (t ∷ u ∷ ts))

either_numbers : (ts : List (Test Literal)) → numbers (literals (either_of ts)) ≡ numbers_of ts
either_numbers [] = refl
either_numbers (t ∷ []) = sym (one_number t)
either_numbers (t ∷ u ∷ ts) = ap numbers (parts_literals (t ∷ u ∷ ts))

of_flag : (f : Flag) → quotes (flag_text f) ≡ []
of_flag flag.Plain = refl
of_flag flag.NoCase = refl
of_flag flag.Literal = refl

of_repeat : (r : Repeat) → quotes (rep_text r) ≡ []
of_repeat quest = refl
of_repeat star = refl
of_repeat plus = refl
of_repeat (exactly n) = refl
of_repeat (at_least n) = refl
of_repeat (between n m) = refl

of_ending : (e : Ending) → quotes (ending_text e) ≡ []
of_ending nothing = refl
of_ending stop = refl
of_ending scope = refl
of_ending scope_stop = refl

-- lexemes after which none is a literal
then_none : (xs ys : List Lexeme) → quotes ys ≡ [] → quotes (xs ++ ys) ≡ quotes xs
then_none xs ys e = quotes_append xs ys ∙ ap (λ z. quotes xs ++ z) e ∙ append-nil (quotes xs)

joined : (xs ys : List Lexeme) (ms ns : List ℕ) → quotes xs ≡ ms → quotes ys ≡ ns → quotes (xs ++ ys) ≡ ms ++ ns
joined xs ys ms ns p q = quotes_append xs ys ∙ ap (λ z. z ++ quotes ys) p ∙ ap (λ z. ms ++ z) q

mutual
  of_test : (t : Test') → quotes (test_text t) ≡ numbers_of (test_parts t)
  of_test (one_conj c) = of_conj c ∙ sym (both_numbers (conj_parts c)) ∙ sym (one_number (both_of (conj_parts c)))
  of_test (or_test c t) =
      joined (conj_text c) (Bar ∷ test_text t) _ _ (of_conj c ∙ sym (both_numbers (conj_parts c))) (of_test t)
      ∙ sym (numbers_more (both_of (conj_parts c)) (test_parts t))

  of_conj : (c : Conj) → quotes (conj_text c) ≡ numbers_of (conj_parts c)
  of_conj (one_unit u) = of_unit u ∙ sym (one_number (unit_test u))
  of_conj (and_conj u c) = joined (unit_text u) (And ∷ conj_text c) _ _ (of_unit u) (of_conj c) ∙ sym (numbers_more (unit_test u) (conj_parts c))

  of_unit : (u : Unit') → quotes (unit_text u) ≡ numbers (literals (unit_test u))
  of_unit (denied u) = of_unit u
  of_unit (grouped t) = then_none (test_text t) (RightParen ∷ []) refl ∙ of_test t ∙ sym (either_numbers (test_parts t))
  of_unit (compares a same k f) = ap (λ z. k ∷ z) (of_flag f)
  of_unit (compares a other k f) = ap (λ z. k ∷ z) (of_flag f)
  of_unit (contains k f) = ap (λ z. k ∷ z) (of_flag f)

mutual
  of_alt : (a : Alt) → quotes (alt_text a) ≡ numbers_of (alt_tests a)
  of_alt (one_cat c) = of_cat c
  of_alt (or_alt c a) = joined (cat_text c) (Bar ∷ alt_text a) _ _ (of_cat c) (of_alt a) ∙ sym (numbers_append (cat_tests c) (alt_tests a))

  of_cat : (c : Cat) → quotes (cat_text c) ≡ numbers_of (cat_tests c)
  of_cat (one_item i) = of_item i
  of_cat (and_cat i c) = joined (item_text i) (cat_text c) _ _ (of_item i) (of_cat c) ∙ sym (numbers_append (item_tests i) (cat_tests c))

  of_item : (i : Item) → quotes (item_text i) ≡ numbers_of (item_tests i)
  of_item (once a) = of_atom a
  of_item (repeated a r) = then_none (atom_text a) (rep_text r) (of_repeat r) ∙ of_atom a

  of_atom : (a : Atom) → quotes (atom_text a) ≡ numbers_of (atom_tests a)
  of_atom any = refl
  of_atom (brackets t) =
      then_none (test_text t) (RightBracket ∷ []) refl ∙ of_test t ∙ sym (either_numbers (test_parts t)) ∙ sym (one_number (either_of (test_parts t)))
  of_atom (bare k f) = ap (λ z. k ∷ z) (of_flag f)
  of_atom (parens a) = then_none (alt_text a) (RightParen ∷ []) refl ∙ of_alt a

pub of_query : (q : Query) → quotes (query_text q) ≡ numbers_of (query_tests q)
of_query (query a e) = then_none (alt_text a) (ending_text e) (of_ending e) ∙ of_alt a

pub numbered : (text : List ℕ) (ls : List Lexeme) (ss : List Span) (q : Query) (es : List (Test Literal)) → Lexes 0 0 text ls ss → query_text q ≡ ls → query_tests q ≡ es →
    IsFrom 0 (map (λ (l : Literal). l.number) (literals_of es))
numbered text ls ss q es h p r =
    subst (IsFrom 0) (ap quotes (sym p) ∙ of_query q ∙ ap numbers_of r) (lexed_from 0 0 text ls ss h)
