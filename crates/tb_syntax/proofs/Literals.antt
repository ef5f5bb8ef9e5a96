-- Each literal of a text stands between its quotes, at its place.
use Rattle.std.proofs.Common.{◌≡◌, ℕ, suc, zero, ◌+◌, ◌-◌, ◌≤◌, min, List, [], ◌∷◌, ◌++◌, length, take, drop, get_or, codes, Bool, true, false, ◌&&◌, nat_eq, if◌then◌else◌, Option, Some, None, option_map, refl, sym, ap, subst, ◌∙◌, append_assoc, length-append, arith, inl, inr}
use Rattle.std.proofs.lemmas.Bool.{false≢true}
use Rattle.std.proofs.lemmas.Str.{IsCharBoundary-before_ascii, IsCharBoundary-after_ascii}
use Rattle.std.proofs.Math.Seq.{take-append_seam, drop-append_seam, get_or-append_seam}
use Rattle.std.specs.List.{slice_get}
use Rattle.std.specs.Str.{bytes_eq, IsUtf8, IsCharBoundary}
use Rattle.tb_syntax.specs.declared.lexeme.Attr.{Attr}
use Rattle.tb_syntax.specs.declared.lexeme.Lexeme.{Lexeme}
use Rattle.tb_syntax.specs.declared.lexeme.Lexeme.TheVariants.{LeftParen, RightParen, LeftBracket, RightBracket, LeftBrace, RightBrace, Comma, Quest, Star, Plus, Bar, And, Not, Equals, Differs, Semicolon, PercentC, PercentL, Name, Contains, Within, Sentence, Number, Quote}
use Rattle.tb_syntax.specs.declared.lexing.Span.{Span}
use Rattle.tb_syntax.specs.Spelling.{column, word, number, decimal_from, double_mark, single_mark, is_quote, doubled, Starts, of_letters, of_digits, of_two_marks, of_one_mark, of_quotes, IsQuoted}
use Rattle.tb_syntax.specs.Lexing.{Lexes, literals_after, bytes_at}
use Rattle.tb_syntax.proofs.Quotes.{quotes_are_ascii}

-- only quotes begin a literal

abbrev no_literal : Option Lexeme → Bool
no_literal (Some (Quote k)) = false
no_literal _ = true

chain : (b : Bool) (x y : Option Lexeme) → no_literal x ≡ true → no_literal y ≡ true → no_literal (if b then x else y) ≡ true
chain true x y p q = p
chain false x y p q = q

named : (o : Option Attr) → no_literal (option_map Name o) ≡ true
named None = refl
named (Some a) = refl

no_word : (s : List ℕ) → no_literal (word s) ≡ true
no_word s =
    chain (bytes_eq s (codes "contains")) (Some Contains) _ refl
    (chain (bytes_eq s (codes "within")) (Some Within) _ refl (chain (bytes_eq s (codes "s")) (Some Sentence) _ refl (named (column s))))

no_number : (s : List ℕ) → no_literal (number s) ≡ true
no_number [] = refl
no_number (c ∷ []) = refl
no_number (c ∷ d ∷ cs) = chain (nat_eq c 48) None (Some (Number (min 255 (decimal_from 0 (c ∷ d ∷ cs))))) refl refl

no_double : (a b : ℕ) → no_literal (double_mark a b) ≡ true
no_double a b =
    chain (nat_eq a 0x25 && nat_eq b 0x63) (Some PercentC) _ refl
    (chain (nat_eq a 0x25 && nat_eq b 0x6C) (Some PercentL) _ refl (chain (nat_eq a 0x21 && nat_eq b 0x3D) (Some Differs) None refl refl))

no_single : (a : ℕ) → no_literal (single_mark a) ≡ true
no_single a =
    chain (nat_eq a 0x28) (Some LeftParen) _ refl (chain (nat_eq a 0x29) (Some RightParen) _ refl (chain (nat_eq a 0x5B) (Some LeftBracket) _ refl (chain (nat_eq a 0x5D) (Some RightBracket) _ refl (chain (nat_eq a 0x7B) (Some LeftBrace) _ refl (chain (nat_eq a 0x7D) (Some RightBrace) _ refl (chain (nat_eq a 0x2C) (Some Comma) _ refl (chain (nat_eq a 0x3F) (Some Quest) _ refl (chain (nat_eq a 0x2A) (Some Star) _ refl (chain (nat_eq a 0x2B) (Some Plus) _ refl (chain (nat_eq a 0x7C) (Some Bar) _ refl (chain (nat_eq a 0x26) (Some And) _ refl (chain (nat_eq a 0x21) (Some Not) _ refl (chain (nat_eq a 0x3D) (Some Equals) _ refl (chain (nat_eq a 0x3B) (Some Semicolon) _ refl refl))))))))))))))

never : {A : Type 0} (o : Option Lexeme) (j : ℕ) → no_literal o ≡ true → o ≡ Some (Quote j) → A
never o j n e = absurd (false≢true (sym (ap no_literal e) ∙ n))

record Quoted (text rest : List ℕ) : Type 0 where
  quote : ℕ
  said : List ℕ
  opens : is_quote quote ≡ true
  parts : text ≡ quote ∷ (doubled quote said ++ quote ∷ rest)

quoted : (k j : ℕ) (text rest : List ℕ) → Starts k text (Quote j) rest → Quoted text rest
quoted k j text rest (of_letters s r e) = never (word s) j (no_word s) e
quoted k j text rest (of_digits s r e) = never (number s) j (no_number s) e
quoted k j text rest (of_two_marks a b t e) = never (double_mark a b) j (no_double a b) e
quoted k j text rest (of_one_mark a t e n) = never (single_mark a) j (no_single a) e
quoted k j text rest (of_quotes q s h t b e) = record { quote = q; said = s; opens = h; parts = t }

-- what a lexeme takes up

record Cut (text rest : List ℕ) : Type 0 where
  front : List ℕ
  parts : text ≡ front ++ rest

cut_of : (k : ℕ) (text : List ℕ) (l : Lexeme) (rest : List ℕ) → Starts k text l rest → Cut text rest
cut_of k text l rest (of_letters s r e) = record { front = s; parts = r.parts }
cut_of k text l rest (of_digits s r e) = record { front = s; parts = r.parts }
cut_of k text l rest (of_two_marks a b t e) = record { front = a ∷ b ∷ []; parts = t }
cut_of k text l rest (of_one_mark a t e n) = record { front = a ∷ []; parts = t }
cut_of k text l rest (of_quotes q s h t b e) = record { front = q ∷ (doubled q s ++ q ∷ []); parts = t ∙ ap (λ x. q ∷ x) (sym (append_assoc (doubled q s) (q ∷ []) rest)) }

between : (before piece rest : List ℕ) (s : Span) → s.start ≡ length before → s.end ≡ length before + length piece → bytes_at (before ++ (piece ++ rest)) s ≡ piece
between before piece rest s from to =
    let n : s.end - s.start ≡ length piece = omega arith in
    ap (λ m. take m (drop s.start (before ++ (piece ++ rest)))) n
    ∙ ap (λ m. take (length piece) (drop m (before ++ (piece ++ rest)))) from
    ∙ ap (take (length piece)) (drop-append_seam before (piece ++ rest)) ∙ take-append_seam piece rest

some_lexeme : (l m : Lexeme) → Some l ≡ Some m → l ≡ m
some_lexeme l m e = cc (e)

some_span : (s t : Span) → Some s ≡ Some t → s ≡ t
some_span s t e = cc (e)

-- a literal stands in the text, from where its span starts to where it ends
pub record Stands (text : List ℕ) (s : Span) : Type 0 where
  front : List ℕ
  back : List ℕ
  quote : ℕ
  said : List ℕ
  opens : is_quote quote ≡ true
  parts : text ≡ front ++ ((quote ∷ (doubled quote said ++ quote ∷ [])) ++ back)
  from : s.start ≡ length front
  to : s.end ≡ length front + length (quote ∷ (doubled quote said ++ quote ∷ []))

here : (pre text gap tail rest : List ℕ) (at k j : ℕ) (s : Span) → length pre ≡ at → text ≡ gap ++ tail → s.start ≡ at + length gap → s.end + length rest ≡ s.start + length tail →
    Starts k tail (Quote j) rest → Stands (pre ++ text) s
here pre text gap tail rest at k j s n e from to starts =
    let x = quoted k j tail rest starts in
    let piece : List ℕ = x.quote ∷ (doubled x.quote x.said ++ x.quote ∷ []) in
    let whole : tail ≡ piece ++ rest = x.parts ∙ ap (λ y. x.quote ∷ y) (sym (append_assoc (doubled x.quote x.said) (x.quote ∷ []) rest)) in
    let sizes = length-append pre gap in
    let tails = ap length whole ∙ length-append piece rest in
    record {
      front = pre ++ gap;
      back = rest;
      quote = x.quote;
      said = x.said;
      opens = x.opens;
      parts = ap (λ y. pre ++ y) (e ∙ ap (λ y. gap ++ y) whole) ∙ sym (append_assoc pre gap (piece ++ rest));
      from = omega arith;
      to = omega arith;
    }

at_place : (pre text : List ℕ) (at k : ℕ) (ls : List Lexeme) (ss : List Span) → length pre ≡ at → Lexes at k text ls ss →
    (i j : ℕ) (span : Span) → slice_get ls i ≡ Some (Quote j) → slice_get ss i ≡ Some span → Stands (pre ++ text) span
at_place pre text at k [] ss n h i j span e f = cc (e)
at_place pre text at k (l ∷ ls) [] n h i j span e f = absurd h
at_place pre text at k (l ∷ ls) (s ∷ ss) n (gap, tail, p, white, black, start, inl (rest, starts, end, more)) zero j span e f =
    let literal = some_lexeme l (Quote j) e in
    let place = some_span s span f in
    subst (λ x. Stands (pre ++ text) x) place
    (here pre text gap tail rest at k j s n p start end (subst (λ x. Starts k tail x rest) literal starts))
at_place pre text at k (l ∷ ls) (s ∷ ss) n (gap, tail, p, white, black, start, inl (rest, starts, end, more)) (suc i) j span e f =
    let c = cut_of k tail l rest starts in
    let front = (pre ++ gap) ++ c.front in
    let whole : pre ++ text ≡ front ++ rest =
    ap (λ y. pre ++ y) (p ∙ ap (λ y. gap ++ y) c.parts) ∙ sym (append_assoc pre gap (c.front ++ rest)) ∙ sym (append_assoc (pre ++ gap) c.front rest) in
    let size : length front ≡ s.end = omega (arith, length-append (pre ++ gap) c.front, length-append pre gap, ap length c.parts, length-append c.front rest) in
    subst (λ y. Stands y span) (sym whole) (at_place front rest s.end (literals_after k l) ls ss size more i j span e f)
at_place pre text at k (l ∷ ls) (s ∷ ss) n (gap, tail, p, white, black, start, inr (none, stray, end, lo, so)) zero j span e f =
    let literal = some_lexeme l (Quote j) e in cc (literal, stray)
at_place pre text at k (l ∷ ls) (s ∷ ss) n (gap, tail, p, white, black, start, inr (none, stray, end, lo, so)) (suc i) j span e f =
    let nothing = ap (λ x. slice_get x i) lo in cc (nothing, e)

pub literal_stands : (text : List ℕ) (ls : List Lexeme) (ss : List Span) → Lexes 0 0 text ls ss →
    (i j : ℕ) (span : Span) → slice_get ls i ≡ Some (Quote j) → slice_get ss i ≡ Some span → Stands text span
literal_stands text ls ss h i j span e f = at_place [] text 0 0 ls ss refl h i j span e f

pub quoted_there : (text : List ℕ) (span : Span) → Stands text span → (said : List ℕ) × IsQuoted (bytes_at text span) said
quoted_there text span s = (
  s.said,
  (s.quote, s.opens, ap (λ y. bytes_at y span) s.parts ∙ between s.front (s.quote ∷ (doubled s.quote s.said ++ s.quote ∷ [])) s.back span s.from s.to),
)

-- the bytes at the place of a literal are a literal
pub literal_quoted : (text : List ℕ) (ls : List Lexeme) (ss : List Span) → Lexes 0 0 text ls ss →
    (i j : ℕ) (span : Span) → slice_get ls i ≡ Some (Quote j) → slice_get ss i ≡ Some span → (said : List ℕ) × IsQuoted (bytes_at text span) said
literal_quoted text ls ss h i j span e f = quoted_there text span (literal_stands text ls ss h i j span e f)

-- a text may be cut where a literal begins, and where it ends

pub not_reversed : (text : List ℕ) (span : Span) → Stands text span → span.start ≤ span.end
not_reversed text span s = let from = s.from in let to = s.to in omega arith

pub cut_before : (text : List ℕ) (span : Span) → Stands text span → IsCharBoundary text span.start
cut_before text span s =
    let after = (doubled s.quote s.said ++ s.quote ∷ []) ++ s.back in
    let first : get_or text span.start 0 ≡ s.quote =
    ap (λ n. get_or text n 0) s.from ∙ ap (λ y. get_or y (length s.front) 0) s.parts ∙ get_or-append_seam s.front s.quote after 0 in
    let small = quotes_are_ascii s.quote s.opens in
    let from = s.from in
    let size = ap length s.parts ∙ length-append s.front (s.quote ∷ after) in
    IsCharBoundary-before_ascii text span.start (omega arith) (omega arith)

pub cut_after : (text : List ℕ) (span : Span) → IsUtf8 text → Stands text span → IsCharBoundary text span.end
cut_after text span utf8 s =
    let inner = s.quote ∷ doubled s.quote s.said in
    let before = s.front ++ inner in
    let parts : text ≡ before ++ s.quote ∷ s.back =
    s.parts ∙ ap (λ x. s.front ++ x) (append_assoc inner (s.quote ∷ []) s.back) ∙ sym (append_assoc s.front inner (s.quote ∷ s.back)) in
    let last : get_or text (length before) 0 ≡ s.quote = ap (λ y. get_or y (length before) 0) parts ∙ get_or-append_seam before s.quote s.back 0 in
    let small = quotes_are_ascii s.quote s.opens in
    let size = ap length parts ∙ length-append before (s.quote ∷ s.back) in
    let to = s.to in
    let end : length before + 1 ≡ span.end = omega (arith, length-append s.front inner, length-append inner (s.quote ∷ [])) in
    subst (λ n. IsCharBoundary text n) end (IsCharBoundary-after_ascii text (length before) utf8 (omega arith) (omega arith))
