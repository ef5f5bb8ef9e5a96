-- Going over what a derivation spells, the token expressions are counted once each.
use Rattle.std.proofs.Common.{◌≡◌, ℕ, suc, ◌+◌, ◌<◌, ◌≤◌, List, [], ◌∷◌, ◌++◌, length, drop, get_or, Bool, true, false, if◌then◌else◌, refl, sym, ap, ◌∙◌, append_assoc, add_assoc, arith, add-one, drop-cons}
use Rattle.std.proofs.lemmas.Bool.{false≢true}
use Rattle.std.proofs.lemmas.List.{drop_all}
use Rattle.tb_syntax.specs.declared.lexeme.Flag.{Flag}
use Rattle.tb_syntax.specs.declared.lexeme.Flag.TheVariants as flag
use Rattle.tb_syntax.specs.declared.lexeme.Lexeme.{Lexeme}
use Rattle.tb_syntax.specs.declared.lexeme.Lexeme.TheVariants.{LeftParen, RightParen, RightBracket, Bar, And, Not, Equals, Differs, PercentC, PercentL, Name, Contains, Quote}
use Rattle.tb_syntax.specs.Grammar.{flag_text, Repeat, quest, star, plus, exactly, at_least, between, rep_text, Alt, one_cat, or_alt, Cat, one_item, and_cat, Item, once, repeated, Atom, any, brackets, bare, parens, test_text, alt_text, cat_text, item_text, atom_text, Ending, nothing, stop, scope, scope_stop, ending_text, Query, query, query_text}
use Rattle.tb_syntax.specs.Pattern.{alt_count, cat_count, item_count, atom_count}
use Rattle.tb_syntax.specs.Limits.{begins_expression, inside_after, query_count}
use Rattle.tb_syntax.proofs.OverTests.{in_test, skips_test}

abbrev pub one_if : Bool → ℕ → ℕ
one_if b n = if b then suc n else n

-- the token expressions of the lexemes, where they begin within the brackets or outside
abbrev pub tally : Bool → List Lexeme → ℕ
tally inside [] = 0
tally inside (l ∷ ls) = one_if (begins_expression inside l) (tally (inside_after inside l) ls)

skips : (l : Lexeme) (ls : List Lexeme) → in_test l ≡ true → tally true (l ∷ ls) ≡ tally true ls
skips LeftParen ls h = refl
skips RightParen ls h = refl
skips Bar ls h = refl
skips And ls h = refl
skips Not ls h = refl
skips Equals ls h = refl
skips Differs ls h = refl
skips PercentC ls h = refl
skips PercentL ls h = refl
skips (Name a) ls h = refl
skips Contains ls h = refl
skips (Quote k) ls h = refl
skips _ ls h = absurd (false≢true h)

over_flag : (f : Flag) (rest : List Lexeme) → tally false (flag_text f ++ rest) ≡ tally false rest
over_flag flag.Plain rest = refl
over_flag flag.NoCase rest = refl
over_flag flag.Literal rest = refl

over_rep : (p : Repeat) (rest : List Lexeme) → tally false (rep_text p ++ rest) ≡ tally false rest
over_rep quest rest = refl
over_rep star rest = refl
over_rep plus rest = refl
over_rep (exactly a) rest = refl
over_rep (at_least a) rest = refl
over_rep (between a b) rest = refl

one : (n : ℕ) → suc n ≡ 1 + n
one n = omega arith

mutual
  over_alt : (a : Alt) (rest : List Lexeme) → tally false (alt_text a ++ rest) ≡ alt_count a + tally false rest
  over_alt (one_cat c) rest = over_cat c rest
  over_alt (or_alt c a) rest =
      rw append_assoc (over_cat c (Bar ∷ (alt_text a ++ rest)) ∙ ap (λ n. cat_count c + n) (over_alt a rest) ∙ sym (add_assoc (cat_count c) (alt_count a) (tally false rest)))

  over_cat : (c : Cat) (rest : List Lexeme) → tally false (cat_text c ++ rest) ≡ cat_count c + tally false rest
  over_cat (one_item i) rest = over_item i rest
  over_cat (and_cat i c) rest =
      rw append_assoc (over_item i (cat_text c ++ rest) ∙ ap (λ n. item_count i + n) (over_cat c rest) ∙ sym (add_assoc (item_count i) (cat_count c) (tally false rest)))

  over_item : (i : Item) (rest : List Lexeme) → tally false (item_text i ++ rest) ≡ item_count i + tally false rest
  over_item (once a) rest = over_atom a rest
  over_item (repeated a p) rest = rw append_assoc (over_atom a (rep_text p ++ rest) ∙ ap (λ n. atom_count a + n) (over_rep p rest))

  over_atom : (a : Atom) (rest : List Lexeme) → tally false (atom_text a ++ rest) ≡ atom_count a + tally false rest
  over_atom any rest = one (tally false rest)
  over_atom (brackets t) rest =
      ap suc (ap (tally true) (append_assoc (test_text t) (RightBracket ∷ []) rest) ∙ skips_test (tally true) skips t (RightBracket ∷ rest)) ∙ one (tally false rest)
  over_atom (bare k f) rest = ap suc (over_flag f rest) ∙ one (tally false rest)
  over_atom (parens a) rest = ap (tally false) (append_assoc (alt_text a) (RightParen ∷ []) rest) ∙ over_alt a (RightParen ∷ rest)

over_ending : (e : Ending) → tally false (ending_text e) ≡ 0
over_ending nothing = refl
over_ending stop = refl
over_ending scope = refl
over_ending scope_stop = refl

pub counts : (q : Query) → tally false (query_text q) ≡ query_count q
counts (query a e) =
    let end = over_ending e in
    let all = over_alt a (ending_text e) in
    omega arith

-- the count, from turn to turn
pub goes_on : (ls : List Lexeme) (i : ℕ) (b : Bool) (d : Lexeme) → i < length ls →
    tally b (drop i ls) ≡ one_if (begins_expression b (get_or ls i d)) (tally (inside_after b (get_or ls i d)) (drop (i + 1) ls))
goes_on ls i b d lt = rw (add-one, drop-cons ls i d lt) refl

pub at_end : (ls : List Lexeme) (i : ℕ) (b : Bool) → length ls ≤ i → tally b (drop i ls) ≡ 0
at_end ls i b le = ap (tally b) (drop_all i ls le)

pub answer : (ls : List Lexeme) (n : ℕ) → n ≡ tally false ls → (q : Query) → query_text q ≡ ls → n ≡ query_count q
answer ls n e q h = e ∙ sym (ap (tally false) h) ∙ counts q
