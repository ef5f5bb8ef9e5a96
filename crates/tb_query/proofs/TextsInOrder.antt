-- The literals of a query say, in their order, what the literals of its text say.
use Rattle.std.proofs.Common.{◌≡◌, ℕ, suc, ◌+◌, List, [], ◌∷◌, ◌++◌, length, map, Some, refl, sym, ap, ◌∙◌, append_assoc, length-append, arith}
use Rattle.std.specs.List.{slice_get}
use Rattle.std.specs.Option.{unwrap_or}
use Rattle.tb_match.specs.Trees.{Tree}
use Rattle.tb_syntax.specs.declared.expr.Literal.{Literal}
use Rattle.tb_syntax.specs.declared.lexeme.Lexeme.{Lexeme}
use Rattle.tb_syntax.specs.declared.lexeme.Lexeme.TheVariants.{Quote}
use Rattle.tb_syntax.specs.declared.lexing.Span.{Span}
use Rattle.tb_syntax.specs.Tests.{Test, literals_of}
use Rattle.tb_syntax.specs.Saying.{IsSaid, Says}
use Rattle.tb_literal.specs.Literals.{PlainLit}
use Rattle.tb_query.specs.Reading.{text_of, with_text, with_texts}
use Rattle.tb_query.proofs.Numbering.{IsFrom, quotes, numbers, numbers_of, of_query, lexed_from}
use Rattle.tb_query.proofs.Refusals.{texts_of_each}

at_seam : (before after : List (List ℕ)) (w : List ℕ) → slice_get (before ++ w ∷ after) (length before) ≡ Some w
at_seam [] after w = refl
at_seam (b ∷ before) after w = at_seam before after w

as_many : (text : List ℕ) (ls : List Lexeme) (ss : List Span) (said : List (List ℕ)) → IsSaid text ls ss said → length (quotes ls) ≡ length said
as_many text [] [] said h = ap length (sym h)
as_many text [] (s ∷ ss) said h = absurd h
as_many text (Quote k ∷ ls) [] said h = absurd h
as_many text (Quote k ∷ ls) (s ∷ ss) [] h = absurd h
as_many text (Quote k ∷ ls) (s ∷ ss) (w ∷ said) h = ap suc (as_many text ls ss said h.1)
as_many text (_ ∷ ls) [] said h = absurd h
as_many text (_ ∷ ls) (s ∷ ss) said h = as_many text ls ss said h

in_turn : (before said : List (List ℕ)) (ns : List ℕ) (n : ℕ) → n ≡ length before → IsFrom n ns → length ns ≡ length said → map (text_of (before ++ said)) ns ≡ said
in_turn before [] [] n e h m = refl
in_turn before [] (k ∷ ns) n e h m = absurd (omega (arith, m))
in_turn before (w ∷ said) [] n e h m = absurd (omega (arith, m))
in_turn before (w ∷ said) (k ∷ ns) n e h m =
    let here : text_of (before ++ w ∷ said) k ≡ w =
    ap (text_of (before ++ w ∷ said)) (h.0 ∙ e) ∙ ap (λ o. unwrap_or o []) (at_seam before said w) in
    let one = length-append before (w ∷ []) in
    let rest = in_turn (before ++ w ∷ []) said ns (n + 1) (omega arith) h.1 (omega (arith, m)) in
    ap (λ z. z ∷ map (text_of (before ++ w ∷ said)) ns) here
    ∙ ap (λ z. w ∷ z) (ap (λ z. map (text_of z) ns) (sym (append_assoc before (w ∷ []) said)) ∙ rest)

each_text : (said : List (List ℕ)) (ls : List Literal) → map (λ (l : PlainLit). l.text) (map (with_text said) ls) ≡ map (text_of said) (numbers ls)
each_text said [] = refl
each_text said (l ∷ ls) = ap (λ z. text_of said l.number ∷ z) (each_text said ls)

pub texts_in_order : (text : List ℕ) (t : Tree) (es : List (Test Literal)) (said : List (List ℕ)) → Says text t es said →
    map (λ (l : PlainLit). l.text) (literals_of (map (with_texts said) es)) ≡ said
texts_in_order text t es said (ls, ss, (q, ((short, lexes), spells, few, deep, times), pattern, tests), says) =
    let same : quotes ls ≡ numbers_of es = ap quotes (sym spells) ∙ of_query q ∙ ap numbers_of tests in
    ap (map (λ (l : PlainLit). l.text)) (texts_of_each said es) ∙ each_text said (literals_of es) ∙ ap (map (text_of said)) (sym same)
    ∙ in_turn [] said (quotes ls) 0 refl (lexed_from 0 0 text ls ss lexes) (as_many text ls ss said says)
