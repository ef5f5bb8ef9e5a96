-- A text may be cut at both ends of each of its literals.
use lib.Utf8.{scalars}
use Rattle.std.proofs.Common.{◌≡◌, ◌∙◌, ◌≤◌, ◌++◌, ◌∷◌, ◌-◌, ◌==◌, [], ℕ, zero, suc, Bool, true, false, List, Option, None, Some, ap, append_assoc, arith}
use Rattle.std.proofs.Common.{chars, cond, encode_utf8_all, inl, inr, IsCharBoundary, IsUtf8, is_some, length, length-append, refl, slice_get, subst, sym, unwrap_or}
use Rattle.std.proofs.lemmas.Bool.{and_parts, false≢true}
use Rattle.std.proofs.lemmas.Str.{IsCharBoundary-at_seam, encodes-append, encodes-chars, scalars-chars}
use Rattle.std.specs.List.{AllByRecursion}
use Rattle.tb_words.specs.QueryLiterals.{AreLiterals, IsCut, KnowsLiterals, literal_numbered, quoted}
use Rattle.tb_words.specs.declared.literals.Literal.{Literal}

scalars_after : (xs ys : List ℕ) → scalars (xs ++ ys) ≡ true → scalars ys ≡ true
scalars_after [] ys is = is
scalars_after (x ∷ xs) ys is = scalars_after xs ys (and_parts _ _ is).1

seam : (text front cs : List ℕ) → text ≡ front ++ encode_utf8_all cs → scalars cs ≡ true → IsCharBoundary text (length front)
seam text front cs parts is = IsCharBoundary-at_seam text front (encode_utf8_all cs) parts (cs, (is, refl))

moved : (text front xs ys : List ℕ) → text ≡ front ++ encode_utf8_all (xs ++ ys)
    → text ≡ (front ++ encode_utf8_all xs) ++ encode_utf8_all ys
moved text front xs ys parts =
    parts ∙ (ap (λ (t : List ℕ). front ++ t) (encodes-append xs ys)
    ∙ sym (append_assoc front (encode_utf8_all xs) (encode_utf8_all ys)))

all_cut : (ls : List Literal) (text front cs : List ℕ) (at : ℕ) → AreLiterals at cs ls → text ≡ front ++ encode_utf8_all cs
    → at ≡ length front → scalars cs ≡ true → AllByRecursion (IsCut text) ls
all_cut [] text front cs at these text_is at_is fine = tt
all_cut (l ∷ ls) text front cs at (gap, quote, said, rest, parts, clear, is, lone, begin, end, more) text_is at_is fine =
    let literal = quoted quote said in
    let fine_here = scalars_after gap (literal ++ rest) (ap (λ (t : List ℕ). scalars t) (sym parts) ∙ fine) in
    let fine_rest = scalars_after literal rest fine_here in
    let first = moved text front gap (literal ++ rest) (text_is ∙ ap (λ (t : List ℕ). front ++ encode_utf8_all t) parts) in
    let before = front ++ encode_utf8_all gap in
    let second = moved text before literal rest first in
    let start_is : l.start ≡ length before = omega (arith, begin, at_is, length-append front (encode_utf8_all gap)) in
    let end_is : l.end ≡ length (before ++ encode_utf8_all literal) =
    omega (arith, end, start_is, length-append before (encode_utf8_all literal)) in (
      (
        subst (λ (k : ℕ). IsCharBoundary text k) (sym start_is) (seam text before (literal ++ rest) first fine_here),
        subst (λ (k : ℕ). IsCharBoundary text k) (sym end_is) (seam text (before ++ encode_utf8_all literal) rest second fine_rest),
        omega (arith, end),
      ),
      all_cut ls text (before ++ encode_utf8_all literal) rest l.end more second end_is fine_rest,
    )

one_cut : (text : List ℕ) (ls : List Literal) (k : ℕ) (l : Literal) → AllByRecursion (IsCut text) ls → slice_get ls k ≡ Some l → IsCut text l
one_cut text [] k l cut is = absurd (false≢true (ap (λ (o : Option Literal). is_some o) is))
one_cut text (x ∷ xs) zero l cut is = subst (λ (m : Literal). IsCut text m) (ap (λ (o : Option Literal). unwrap_or o x) is) cut.0
one_cut text (x ∷ xs) (suc k) l cut is = one_cut text xs k l cut.1 is

got : (b : Bool) (o : Option Literal) (l : Literal) → cond b None o ≡ Some l → o ≡ Some l
got true o l is = absurd (false≢true (ap (λ (p : Option Literal). is_some p) is))
got false o l is = is

all_known : (text : List ℕ) (ls : List Literal) → IsUtf8 text → KnowsLiterals text ls → AllByRecursion (IsCut text) ls
all_known text ls utf8 (inl these) = all_cut ls text [] (chars text) 0 these (sym (encodes-chars text utf8)) refl (scalars-chars text utf8)
all_known text ls utf8 (inr none) = subst (λ (xs : List Literal). AllByRecursion (IsCut text) xs) (sym none) tt

pub literal_cut : (text : List ℕ) (ls : List Literal) (number : ℕ) (l : Literal) → IsUtf8 text → KnowsLiterals text ls
    → literal_numbered ls number ≡ Some l → IsCut text l
literal_cut text ls number l utf8 known is =
    one_cut text ls (number - 1) l (all_known text ls utf8 known) (got (number == 0) (slice_get ls (number - 1)) l is)
