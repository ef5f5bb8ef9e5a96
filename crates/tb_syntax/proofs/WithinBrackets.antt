-- What is accepted within brackets is a test: a derivation is read off a scan that ended well.
use Rattle.std.proofs.Common.{◌≡◌, ℕ, suc, zero, ◌+◌, ◌*◌, ◌≤◌, ◌<◌, List, [], ◌∷◌, ◌++◌, length, true, refl, sym, ap, ◌∙◌, append_assoc, append-nil, length-append, arith, add-one}
use Rattle.std.proofs.lemmas.Bool.{false≢true}
use Rattle.tb_syntax.specs.declared.lexeme.Attr.{Attr}
use Rattle.tb_syntax.specs.declared.lexeme.Attr.TheVariants.{Feats}
use Rattle.tb_syntax.specs.declared.lexeme.Flag.{Flag}
use Rattle.tb_syntax.specs.declared.lexeme.Flag.TheVariants as flag
use Rattle.tb_syntax.specs.declared.lexeme.Lexeme.{Lexeme}
use Rattle.tb_syntax.specs.declared.lexeme.Lexeme.TheVariants.{LeftParen, RightParen, RightBracket, Bar, And, Not, Equals, Differs, PercentC, PercentL, Name, Contains, Quote}
use Rattle.tb_syntax.specs.declared.scanning.Mode.TheVariants.{Has, Asks, Named, Featured, Signed, Tested, Whole}
use Rattle.tb_syntax.specs.Grammar.{flag_text, Sign, same, other, sign_lexeme, Test', one_conj, or_test, one_unit, and_conj, Unit', denied, grouped, compares, contains, test_text, conj_text, unit_text}
use Rattle.tb_syntax.specs.Machine.{accepts, place, inside}

-- what may follow a unit within a test
data More : Type 0 where
  no_more : More
  conj : Test' → More
  disj : Test' → More

abbrev more_text : More → List Lexeme
more_text no_more = []
more_text (conj t) = And ∷ test_text t
more_text (disj t) = Bar ∷ test_text t

abbrev with_unit : Unit' → Test' → Test'
with_unit u (one_conj c) = one_conj (and_conj u c)
with_unit u (or_test c t) = or_test (and_conj u c) t

with_unit-text : (u : Unit') (t : Test') → test_text (with_unit u t) ≡ unit_text u ++ And ∷ test_text t
with_unit-text u (one_conj c) = refl
with_unit-text u (or_test c t) = append_assoc (unit_text u) (And ∷ conj_text c) (Bar ∷ test_text t)

abbrev attach : Unit' → More → Test'
attach u no_more = one_conj (one_unit u)
attach u (conj t) = with_unit u t
attach u (disj t) = or_test (one_unit u) t

attach-text : (u : Unit') (m : More) → test_text (attach u m) ≡ unit_text u ++ more_text m
attach-text u no_more = sym (append-nil (unit_text u))
attach-text u (conj t) = with_unit-text u t
attach-text u (disj t) = refl

-- what is left closes k parentheses and the bracket
abbrev Shuts : ℕ → ℕ → List Lexeme → Type 0
Shuts n zero tail = (rest : List Lexeme) × (tail ≡ RightBracket ∷ rest) × (accepts (place Has n) rest ≡ true)
Shuts n (suc k) tail = (rest : List Lexeme) × (tail ≡ RightParen ∷ rest) × (accepts (inside Whole n k) rest ≡ true)

record TakesTest (n k : ℕ) (ls : List Lexeme) : Type 0 where
  test : Test'
  tail : List Lexeme
  text : ls ≡ test_text test ++ tail
  shuts : Shuts n k tail

record TakesMore (n k : ℕ) (ls : List Lexeme) : Type 0 where
  more : More
  tail : List Lexeme
  text : ls ≡ more_text more ++ tail
  shuts : Shuts n k tail

record TakesUnit (n k : ℕ) (ls : List Lexeme) : Type 0 where
  unit : Unit'
  rest : List Lexeme
  text : ls ≡ unit_text unit ++ rest
  shorter : length rest < length ls
  goes : accepts (inside Whole n k) rest ≡ true

pub record TakesBrackets (n : ℕ) (ls : List Lexeme) : Type 0 where
  pub test : Test'
  pub rest : List Lexeme
  pub text : ls ≡ test_text test ++ (RightBracket ∷ rest)
  pub goes : accepts (place Has n) rest ≡ true

test_of : (n k : ℕ) (ls : List Lexeme) (t : TakesUnit n k ls) → TakesMore n k t.rest → TakesTest n k ls
test_of n k ls t m = record {
  test = attach t.unit m.more;
  tail = m.tail;
  text = t.text ∙ ap (λ x. unit_text t.unit ++ x) m.text ∙ sym (append_assoc (unit_text t.unit) (more_text m.more) m.tail)
      ∙ ap (λ x. x ++ m.tail) (sym (attach-text t.unit m.more));
  shuts = m.shuts;
}

more_conj : (n k : ℕ) (ls : List Lexeme) → TakesTest n k ls → TakesMore n k (And ∷ ls)
more_conj n k ls t = record { more = conj t.test; tail = t.tail; text = ap (λ x. And ∷ x) t.text; shuts = t.shuts }

more_disj : (n k : ℕ) (ls : List Lexeme) → TakesTest n k ls → TakesMore n k (Bar ∷ ls)
more_disj n k ls t = record { more = disj t.test; tail = t.tail; text = ap (λ x. Bar ∷ x) t.text; shuts = t.shuts }

unit_not : (n k : ℕ) (ls : List Lexeme) → TakesUnit n k ls → TakesUnit n k (Not ∷ ls)
unit_not n k ls t =
    let short = t.shorter in
    record { unit = denied t.unit; rest = t.rest; text = ap (λ x. Not ∷ x) t.text; shorter = omega arith; goes = t.goes }

unit_group : (n k : ℕ) (ls : List Lexeme) → TakesTest n (suc k) ls → TakesUnit n k (LeftParen ∷ ls)
unit_group n k ls t =
    let c = t.shuts in
    record {
      unit = grouped t.test;
      rest = c.0;
      text = ap (λ x. LeftParen ∷ x) (t.text ∙ ap (λ x. test_text t.test ++ x) c.1 ∙ sym (append_assoc (test_text t.test) (RightParen ∷ []) c.0));
      shorter = omega (arith, simp length-append at (ap length t.text), ap length c.1);
      goes = c.2;
    }

-- a literal and its flag
record TakesQuote (n k : ℕ) (ls : List Lexeme) : Type 0 where
  number : ℕ
  how : Flag
  rest : List Lexeme
  text : ls ≡ Quote number ∷ (flag_text how ++ rest)
  shorter : length rest < length ls
  goes : accepts (inside Whole n k) rest ≡ true

in_tested : (n k j : ℕ) (ls : List Lexeme) → accepts (inside Tested n k) ls ≡ true → TakesQuote n k (Quote j ∷ ls)
in_tested n k j [] h = absurd (false≢true h)
in_tested n k j (PercentC ∷ ls) h = record { number = j; how = flag.NoCase; rest = ls; text = refl; shorter = omega arith; goes = h }
in_tested n k j (PercentL ∷ ls) h = record { number = j; how = flag.Literal; rest = ls; text = refl; shorter = omega arith; goes = h }
in_tested n k j (l ∷ ls) h = record { number = j; how = flag.Plain; rest = l ∷ ls; text = refl; shorter = omega arith; goes = h }

in_signed : (n k : ℕ) (ls : List Lexeme) → accepts (inside Signed n k) ls ≡ true → TakesQuote n k ls
in_signed n k [] h = absurd (false≢true h)
in_signed n k (Quote j ∷ ls) h = in_tested n k j ls h
in_signed n k (_ ∷ ls) h = absurd (false≢true h)

compares_of : (n k : ℕ) (a : Attr) (s : Sign) (ls : List Lexeme) → TakesQuote n k ls → TakesUnit n k (Name a ∷ sign_lexeme s ∷ ls)
compares_of n k a s ls t =
    let short = t.shorter in
    record { unit = compares a s t.number t.how; rest = t.rest; text = ap (λ x. Name a ∷ sign_lexeme s ∷ x) t.text; shorter = omega arith; goes = t.goes }

contains_of : (n k : ℕ) (ls : List Lexeme) → TakesQuote n k ls → TakesUnit n k (Name Feats ∷ Contains ∷ ls)
contains_of n k ls t =
    let short = t.shorter in
    record { unit = contains t.number t.how; rest = t.rest; text = ap (λ x. Name Feats ∷ Contains ∷ x) t.text; shorter = omega arith; goes = t.goes }

in_named : (n k : ℕ) (a : Attr) (ls : List Lexeme) → accepts (inside Named n k) ls ≡ true → TakesUnit n k (Name a ∷ ls)
in_named n k a [] h = absurd (false≢true h)
in_named n k a (Equals ∷ ls) h = compares_of n k a same ls (in_signed n k ls h)
in_named n k a (Differs ∷ ls) h = compares_of n k a other ls (in_signed n k ls h)
in_named n k a (_ ∷ ls) h = absurd (false≢true h)

in_featured : (n k : ℕ) (ls : List Lexeme) → accepts (inside Featured n k) ls ≡ true → TakesUnit n k (Name Feats ∷ ls)
in_featured n k [] h = absurd (false≢true h)
in_featured n k (Equals ∷ ls) h = compares_of n k Feats same ls (in_signed n k ls h)
in_featured n k (Differs ∷ ls) h = compares_of n k Feats other ls (in_signed n k ls h)
in_featured n k (Contains ∷ ls) h = contains_of n k ls (in_signed n k ls h)
in_featured n k (_ ∷ ls) h = absurd (false≢true h)

mutual
  takes_test : (f n k : ℕ) (ls : List Lexeme) → 2 * length ls + 1 ≤ f → accepts (inside Asks n k) ls ≡ true → TakesTest n k ls
  takes_test zero n k ls le h = absurd (omega arith)
  takes_test (suc f) n k ls le h =
      let t = takes_unit f n k ls (omega arith) h in
      let short = t.shorter in
      test_of n k ls t (takes_more f n k t.rest (omega arith) t.goes)

  takes_more : (f n k : ℕ) (ls : List Lexeme) → 2 * length ls ≤ f → accepts (inside Whole n k) ls ≡ true → TakesMore n k ls
  takes_more f n k [] le h = absurd (false≢true h)
  takes_more zero n k (l ∷ ls) le h = absurd (omega arith)
  takes_more (suc f) n k (And ∷ ls) le h = more_conj n k ls (takes_test f n k ls (omega arith) h)
  takes_more (suc f) n k (Bar ∷ ls) le h = more_disj n k ls (takes_test f n k ls (omega arith) h)
  takes_more (suc f) n zero (RightParen ∷ ls) le h = absurd (false≢true h)
  takes_more (suc f) n (suc k) (RightParen ∷ ls) le h = record { more = no_more; tail = RightParen ∷ ls; text = refl; shuts = (ls, refl, h) }
  takes_more (suc f) n zero (RightBracket ∷ ls) le h = record { more = no_more; tail = RightBracket ∷ ls; text = refl; shuts = (ls, refl, h) }
  takes_more (suc f) n (suc k) (RightBracket ∷ ls) le h = absurd (false≢true h)
  takes_more (suc f) n k (_ ∷ ls) le h = absurd (false≢true h)

  takes_unit : (f n k : ℕ) (ls : List Lexeme) → 2 * length ls ≤ f → accepts (inside Asks n k) ls ≡ true → TakesUnit n k ls
  takes_unit f n k [] le h = absurd (false≢true h)
  takes_unit zero n k (l ∷ ls) le h = absurd (omega arith)
  takes_unit (suc f) n k (Not ∷ ls) le h = unit_not n k ls (takes_unit f n k ls (omega arith) h)
  takes_unit (suc f) n k (LeftParen ∷ ls) le h = unit_group n k ls (takes_test f n (suc k) ls (omega arith) (rw add-one at h))
  takes_unit (suc f) n k (Name Feats ∷ ls) le h = in_featured n k ls h
  takes_unit (suc f) n k (Name a ∷ ls) le h = in_named n k a ls h
  takes_unit (suc f) n k (_ ∷ ls) le h = absurd (false≢true h)

-- what stands after a bracket that is not shut at once
opened : (n : ℕ) (ls : List Lexeme) → TakesTest n 0 ls → TakesBrackets n ls
opened n ls t =
    let c = t.shuts in
    record { test = t.test; rest = c.0; text = t.text ∙ ap (λ x. test_text t.test ++ x) c.1; goes = c.2 }

pub takes_brackets : (n : ℕ) (ls : List Lexeme) → accepts (inside Asks n 0) ls ≡ true → TakesBrackets n ls
takes_brackets n ls h = opened n ls (takes_test (2 * length ls + 1) n 0 ls (omega arith) h)
