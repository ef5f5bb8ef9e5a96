-- From each place a query can be brought to its end, and from none where a lexeme could not stand.
use Rattle.std.proofs.Common.{◌≡◌, ℕ, suc, zero, List, [], ◌∷◌, ◌++◌, true, Option, Some, None, option_and_then, refl, sym, ap, ◌∙◌}
use Rattle.std.proofs.lemmas.Bool.{false≢true}
use Rattle.tb_syntax.specs.declared.lexeme.Attr.TheVariants.{Form}
use Rattle.tb_syntax.specs.declared.lexeme.Lexeme.{Lexeme}
use Rattle.tb_syntax.specs.declared.lexeme.Lexeme.TheVariants.{RightParen, RightBracket, RightBrace, Equals, Name, Sentence, Number, Quote}
use Rattle.tb_syntax.specs.declared.scanning.Mode.{Mode}
use Rattle.tb_syntax.specs.declared.scanning.Mode.TheVariants.{Wants, Quoted, Has, Repeated, Braced, Lowest, Ranged, Highest, Opened, Asks, Named, Featured, Signed, Tested, Whole, Scoped, Bounded, Stopped}
use Rattle.tb_syntax.specs.declared.scanning.Place.{Place}
use Rattle.tb_syntax.specs.Grammar.{IsBeginning}
use Rattle.tb_syntax.specs.Machine.{step, run, ends, accepts, inside, start}
use Rattle.tb_syntax.proofs.Again.{accepted}
use Rattle.tb_syntax.proofs.Takes.{query_of_accepted}

abbrev outer_end : ℕ → List Lexeme
outer_end zero = []
outer_end (suc n) = RightParen ∷ outer_end n

abbrev inner_end : ℕ → ℕ → List Lexeme
inner_end n zero = RightBracket ∷ outer_end n
inner_end n (suc k) = RightParen ∷ inner_end n k

-- lexemes that bring a query to its end
abbrev finish : Mode → ℕ → ℕ → List Lexeme
finish Wants n k = Quote 0 ∷ outer_end n
finish Quoted n k = outer_end n
finish Has n k = outer_end n
finish Repeated n k = outer_end n
finish Braced n k = Number 1 ∷ RightBrace ∷ outer_end n
finish Lowest n k = RightBrace ∷ outer_end n
finish Ranged n k = RightBrace ∷ outer_end n
finish Highest n k = RightBrace ∷ outer_end n
finish Opened n k = Name Form ∷ Equals ∷ Quote 0 ∷ inner_end n k
finish Asks n k = Name Form ∷ Equals ∷ Quote 0 ∷ inner_end n k
finish Named n k = Equals ∷ Quote 0 ∷ inner_end n k
finish Featured n k = Equals ∷ Quote 0 ∷ inner_end n k
finish Signed n k = Quote 0 ∷ inner_end n k
finish Tested n k = inner_end n k
finish Whole n k = inner_end n k
finish Scoped n k = Sentence ∷ []
finish Bounded n k = []
finish Stopped n k = []

has_ends : (n k : ℕ) → accepts (inside Has n k) (outer_end n) ≡ true
has_ends zero k = refl
has_ends (suc n) k = has_ends n 0

quoted_ends : (n k : ℕ) → accepts (inside Quoted n k) (outer_end n) ≡ true
quoted_ends zero k = refl
quoted_ends (suc n) k = has_ends n 0

repeated_ends : (n k : ℕ) → accepts (inside Repeated n k) (outer_end n) ≡ true
repeated_ends zero k = refl
repeated_ends (suc n) k = has_ends n 0

whole_ends : (n k : ℕ) → accepts (inside Whole n k) (inner_end n k) ≡ true
whole_ends n zero = has_ends n 0
whole_ends n (suc k) = whole_ends n k

tested_ends : (n k : ℕ) → accepts (inside Tested n k) (inner_end n k) ≡ true
tested_ends n zero = has_ends n 0
tested_ends n (suc k) = whole_ends n k

finishes : (m : Mode) (n k : ℕ) → accepts (inside m n k) (finish m n k) ≡ true
finishes Wants n k = quoted_ends n 0
finishes Quoted n k = quoted_ends n k
finishes Has n k = has_ends n k
finishes Repeated n k = repeated_ends n k
finishes Braced n k = repeated_ends n 0
finishes Lowest n k = repeated_ends n 0
finishes Ranged n k = repeated_ends n 0
finishes Highest n k = repeated_ends n 0
finishes Opened n k = tested_ends n k
finishes Asks n k = tested_ends n k
finishes Named n k = tested_ends n k
finishes Featured n k = tested_ends n k
finishes Signed n k = tested_ends n k
finishes Tested n k = tested_ends n k
finishes Whole n k = whole_ends n k
finishes Scoped n k = refl
finishes Bounded n k = refl
finishes Stopped n k = refl

-- a run over two lists
after : (xs ys : List Lexeme) (o : Option Place) → ((q : Place) → run q (xs ++ ys) ≡ option_and_then (λ r. run r ys) (run q xs)) →
    option_and_then (λ q. run q (xs ++ ys)) o ≡ option_and_then (λ q. run q ys) (option_and_then (λ q. run q xs) o)
after xs ys None h = refl
after xs ys (Some q) h = h q

pub run-append : (p : Place) (xs ys : List Lexeme) → run p (xs ++ ys) ≡ option_and_then (λ q. run q ys) (run p xs)
run-append p [] ys = refl
run-append p (x ∷ xs) ys = after xs ys (step p x) (λ q. run-append q xs ys)

-- a list that the machine goes over begins a query
pub begins : (ls : List Lexeme) (p : Place) → run start ls ≡ Some p → IsBeginning ls
begins ls p e =
    let rest = finish p.mode p.outer p.inner in (
      rest,
      query_of_accepted (ls ++ rest)
          (ap ends (run-append start ls rest ∙ ap (option_and_then (λ q. run q rest)) e) ∙ finishes p.mode p.outer p.inner),
    )

-- a list that it does not go over begins none
pub begins_none : (ls : List Lexeme) → run start ls ≡ None → IsBeginning ls → ⊥
begins_none ls e b =
    let q = b.1 in
    false≢true (sym (ap ends (run-append start ls b.0 ∙ ap (option_and_then (λ p. run p b.0)) e)) ∙ ap (accepts start) (sym q.1) ∙ accepted q.0)
