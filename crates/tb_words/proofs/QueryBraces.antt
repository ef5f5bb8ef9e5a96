-- The repetitions of a text, one after the other.
use denote.Ref.{Bor}
use Rattle.std.proofs.Common.{◌≡◌, ◌∙◌, ◌<◌, ◌+◌, ◌++◌, ◌∷◌, [], ℕ, Bool, true, false, List, MatchOption, Option, None, Some, ap, arith, chars, cond, drop, encode_utf8, filter}
use Rattle.std.proofs.Common.{get_or, inl, inr, IsCharBoundary, IsUtf8, is_some, length, lit<, map, option_map, refl, subst, sym, unwrap_or}
use Rattle.std.proofs.lemmas.Bool.{and_parts, cond-true, eqb-true, false≢true, true≢false}
use Rattle.std.proofs.lemmas.List.{map-append}
use Rattle.std.proofs.lemmas.List.Elements.{filter-append}
use Rattle.std.proofs.lemmas.Str.{IsCharBoundary-after_ascii, IsUtf8-drop, encode_ascii}
use Rattle.std.specs.List.{AllByRecursion}
use Rattle.tb_words.specs.QueryLiterals.{HasChar, placed}
use Rattle.tb_words.specs.QueryPlaces.{AreRight, IsAfterRight, IsClosed, IsFirstWrong, IsNoneWrong, SaysBraces, braces_of, is_brace}
use Rattle.tb_words.specs.declared.literals.Literal.{Literal}

all_append : (P : ℕ → Type 0) (xs ys : List ℕ) → AllByRecursion P xs → AllByRecursion P ys → AllByRecursion P (xs ++ ys)
all_append P [] ys first second = second
all_append P (x ∷ xs) ys first second = (first.0, all_append P xs ys first.1 second)

abbrev place_of : ℕ × ℕ → ℕ
place_of p = p.0

braces-append : (ls : List Literal) (xs ys : List (ℕ × ℕ)) → braces_of ls (xs ++ ys) ≡ braces_of ls xs ++ braces_of ls ys
braces-append ls xs ys =
    ap (λ (ps : List (ℕ × ℕ)). map place_of ps) (filter-append (is_brace ls) xs ys)
    ∙ map-append place_of (filter (is_brace ls) xs) (filter (is_brace ls) ys)

one_right : (text : List ℕ) (p : ℕ × ℕ) (b : Bool) → (b ≡ true → SaysBraces text p.0 None)
    → AreRight text (map place_of (cond b (p ∷ []) []))
one_right text p true right = (right refl, tt)
one_right text p false right = tt

-- one more character is a right repetition, or none
pub more_right : (text : List ℕ) (ls : List Literal) (seen : List (ℕ × ℕ)) (p : ℕ × ℕ) → AreRight text (braces_of ls seen)
    → (is_brace ls p ≡ true → SaysBraces text p.0 None) → AreRight text (braces_of ls (seen ++ p ∷ []))
more_right text ls seen p before right =
    subst (λ (ats : List ℕ). AreRight text ats) (sym (braces-append ls seen (p ∷ [])))
    (all_append (λ (at : ℕ). SaysBraces text at None) (braces_of ls seen) (braces_of ls (p ∷ [])) before
    (one_right text p (is_brace ls p) right))

-- the next character is a brace, after repetitions that are right
pub after_right : (text : List ℕ) (ls : List Literal) (seen more : List (ℕ × ℕ)) (p : ℕ × ℕ) → placed 0 (chars text) ≡ seen ++ p ∷ more
    → is_brace ls p ≡ true → AreRight text (braces_of ls seen) → IsAfterRight text ls p.0
after_right text ls seen more p parts is right = record {
  before = braces_of ls seen;
  after = braces_of ls more;
  parts = ap (λ (ps : List (ℕ × ℕ)). braces_of ls ps) parts
      ∙ (braces-append ls seen (p ∷ more) ∙ ap (λ (ps : List (ℕ × ℕ)). braces_of ls seen ++ map place_of ps)
      (cond-true (is_brace ls p) (p ∷ filter (is_brace ls) more) (filter (is_brace ls) more) is));
  right = right;
}

-- ---- what is found of a character

abbrev pub Said : Type 0
Said = Option (Bor (List ℕ))

abbrev pub Found : Type 0
Found = Option Said

abbrev pub said_by : Said → Option (List ℕ)
said_by said = option_map (λ (s : Bor (List ℕ)). s.now) said

abbrev pub OfBrace : (text : List ℕ) → List Literal → (at c : ℕ) → Found → Type 0
OfBrace text ls at c found =
    is_brace ls (at, c) ≡ true → HasChar text at 123
    → MatchOption found (IsClosed text at → ⊥) (λ said. SaysBraces text at (said_by said))

abbrev pub OfOther : List Literal → (at c : ℕ) → Found → Type 0
OfOther ls at c found = is_brace ls (at, c) ≡ false → found ≡ Some None

brace_char : (text : List ℕ) (ls : List Literal) (at c : ℕ) → is_brace ls (at, c) ≡ true → HasChar text at c → HasChar text at 123
brace_char text ls at c is here = subst (λ (k : ℕ). HasChar text at k) (eqb-true c 123 (and_parts _ _ is).0) here

wrong_by : (text : List ℕ) (ls : List Literal) (at c : ℕ) (b : Bool) (s : Bor (List ℕ)) → is_brace ls (at, c) ≡ b
    → OfOther ls at c (Some (Some s)) → OfBrace text ls at c (Some (Some s)) → HasChar text at c
    → (is_brace ls (at, c) ≡ true) × SaysBraces text at (Some s.now)
wrong_by text ls at c true s is other brace here = (is, brace is (brace_char text ls at c is here))
wrong_by text ls at c false s is other brace here =
    absurd (true≢false (ap (λ (o : Found). is_some (unwrap_or o None)) (other is)))

open_by : (text : List ℕ) (ls : List Literal) (at c : ℕ) (b : Bool) → is_brace ls (at, c) ≡ b → OfOther ls at c None
    → OfBrace text ls at c None → HasChar text at c → (is_brace ls (at, c) ≡ true) × (IsClosed text at → ⊥)
open_by text ls at c true is other brace here = (is, brace is (brace_char text ls at c is here))
open_by text ls at c false is other brace here = absurd (false≢true (ap (λ (o : Found). is_some o) (other is)))

pub first_wrong : (text : List ℕ) (ls : List Literal) (seen more : List (ℕ × ℕ)) (at c : ℕ) (s : Bor (List ℕ))
    → HasChar text at c × (placed 0 (chars text) ≡ seen ++ (at, c) ∷ more) → AreRight text (braces_of ls seen)
    → OfOther ls at c (Some (Some s)) → OfBrace text ls at c (Some (Some s)) → IsFirstWrong text ls at s.now × IsCharBoundary text at
first_wrong text ls seen more at c s here right other brace =
    let wrong = wrong_by text ls at c (is_brace ls (at, c)) s refl other brace here.0 in
    ((after_right text ls seen more (at, c) here.1 wrong.0 right, wrong.1), here.0.0)

pub first_open : (text : List ℕ) (ls : List Literal) (seen more : List (ℕ × ℕ)) (at c : ℕ)
    → HasChar text at c × (placed 0 (chars text) ≡ seen ++ (at, c) ∷ more) → AreRight text (braces_of ls seen)
    → OfOther ls at c None → OfBrace text ls at c None → IsNoneWrong text ls
first_open text ls seen more at c here right other brace =
    let wrong = open_by text ls at c (is_brace ls (at, c)) refl other brace here.0 in
    inr (at, after_right text ls seen more (at, c) here.1 wrong.0 right, wrong.1)

pub next_right : (text : List ℕ) (ls : List Literal) (seen : List (ℕ × ℕ)) (at c : ℕ) → HasChar text at c → AreRight text (braces_of ls seen)
    → OfBrace text ls at c (Some None) → AreRight text (braces_of ls (seen ++ (at, c) ∷ []))
next_right text ls seen at c here right brace = more_right text ls seen (at, c) right (λ is. brace is (brace_char text ls at c is here))

pub none_wrong : (text : List ℕ) (ls : List Literal) (seen : List (ℕ × ℕ)) → placed 0 (chars text) ≡ seen → AreRight text (braces_of ls seen)
    → IsNoneWrong text ls
none_wrong text ls seen all right =
    inl (subst (λ (ps : List (ℕ × ℕ)). AreRight text (braces_of ls ps)) (sym all) right)

-- ---- the byte after a brace

brace_first : (text rest : List ℕ) (at : ℕ) → drop at text ≡ encode_utf8 123 ++ rest → drop at text ≡ 123 ∷ rest
brace_first text rest at is = is ∙ ap (λ (bs : List ℕ). bs ++ rest) (encode_ascii 123 (lit< tt))

pub after_brace : (text : List ℕ) (at : ℕ) → IsUtf8 text → HasChar text at 123 → IsCharBoundary (drop at text) 1
after_brace text at utf8 (cut, (rest, is)) =
    let first = brace_first text rest at is in
    let some = ap (λ (bs : List ℕ). length bs) first in
    let byte = ap (λ (bs : List ℕ). get_or bs 0 0) first in
    IsCharBoundary-after_ascii (drop at text) 0 (IsUtf8-drop text at utf8 cut) (omega (arith, some)) (omega (arith, byte))
