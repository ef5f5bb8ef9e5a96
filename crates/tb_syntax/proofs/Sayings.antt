-- What the literals of a text say, from lexeme to lexeme.
use Rattle.std.proofs.Common.{◌≡◌, ℕ, suc, ◌+◌, ◌<◌, ◌≤◌, List, [], ◌∷◌, ◌++◌, length, drop, get_or, false, Some, refl, sym, ap, subst, ◌∙◌, append_assoc, append-nil, add-one, drop-cons, arith, inl, inr}
use Rattle.std.proofs.lemmas.Option.{slice_get-get_or}
use Rattle.std.proofs.lemmas.List.{drop_all}
use Rattle.tb_match.specs.Trees.{Tree}
use Rattle.tb_syntax.specs.declared.expr.Literal.{Literal}
use Rattle.tb_syntax.specs.declared.lexeme.Lexeme.{Lexeme}
use Rattle.tb_syntax.specs.declared.lexeme.Lexeme.TheVariants.{Quote}
use Rattle.tb_syntax.specs.declared.lexing.Span.{Span}
use Rattle.tb_syntax.specs.First.{said_of}
use Rattle.tb_syntax.specs.Lexing.{Lexes, literals_after, bytes_at}
use Rattle.tb_syntax.specs.Pattern.{query_tree, query_tests}
use Rattle.tb_syntax.specs.Tests.{Test}
use Rattle.tb_syntax.specs.Saying.{IsSaid, Says}
use Rattle.tb_syntax.specs.Spelling.{IsQuoted}
use Rattle.tb_syntax.proofs.Firsts.{says_that}
use Rattle.tb_syntax.proofs.Lexings.{one_lexing}
use Rattle.tb_syntax.proofs.Unique.{one_derivation}
use Rattle.tb_syntax.proofs.Literals.{Stands, literal_stands, quoted_there}

-- a text has one place for each lexeme
pub paired : (at k : ℕ) (text : List ℕ) (ls : List Lexeme) (ss : List Span) → Lexes at k text ls ss → length ls ≡ length ss
paired at k text [] [] h = refl
paired at k text [] (s ∷ ss) h = absurd h
paired at k text (l ∷ ls) [] h = absurd h
paired at k text (l ∷ ls) (s ∷ ss) (gap, tail, e, white, black, start, inl (rest, starts, end, more)) =
    ap suc (paired s.end (literals_after k l) rest ls ss more)
paired at k text (l ∷ ls) (s ∷ ss) (gap, tail, e, white, black, start, inr (none, stray, end, none_left, no_place)) =
    ap (λ x. suc (length x)) none_left ∙ sym (ap (λ x. suc (length x)) no_place)

-- other lexemes say nothing
skipped : (text : List ℕ) (l : Lexeme) (ls : List Lexeme) (s : Span) (ss : List Span) (said : List (List ℕ)) → ((k : ℕ) → l ≡ Quote k → ⊥) →
    IsSaid text ls ss said → IsSaid text (l ∷ ls) (s ∷ ss) said
skipped text (Quote k) ls s ss said other h = absurd (other k refl)
skipped text l ls s ss said other h = h

-- what has been said up to the lexeme of this number, whatever follows
pub record SaidTo (text : List ℕ) (ls : List Lexeme) (ss : List Span) (i : ℕ) (said : List (List ℕ)) : Type 0 where
  pub then : (more : List (List ℕ)) → IsSaid text (drop i ls) (drop i ss) more → IsSaid text ls ss (said ++ more)

one_said : (text : List ℕ) (ls : List Lexeme) (ss : List Span) (i k : ℕ) (said new : List (List ℕ)) (d : Lexeme) (e : Span) (w : List ℕ) → SaidTo text ls ss i said →
    i < length ls → i < length ss → get_or ls i d ≡ Quote k → IsQuoted (bytes_at text (get_or ss i e)) w → new ≡ said ++ w ∷ [] → SaidTo text ls ss (i + 1) new
one_said text ls ss i k said new d e w s lt mt literal quoted pushed = record {
  then = λ more h.
      rw (pushed, append_assoc)
      (s.then (w ∷ more)
      (subst (λ x. IsSaid text x (drop i ss) (w ∷ more)) (sym (drop-cons ls i d lt))
      (subst (λ x. IsSaid text (get_or ls i d ∷ drop (suc i) ls) x (w ∷ more)) (sym (drop-cons ss i e mt))
      (subst (λ x. IsSaid text (x ∷ drop (suc i) ls) (get_or ss i e ∷ drop (suc i) ss) (w ∷ more)) (sym literal)
      (quoted, subst (λ n. IsSaid text (drop n ls) (drop n ss) more) (add-one i) h)))));
}

one_skipped : (text : List ℕ) (ls : List Lexeme) (ss : List Span) (i : ℕ) (said : List (List ℕ)) (d : Lexeme) (e : Span) → SaidTo text ls ss i said →
    i < length ls → i < length ss → ((k : ℕ) → get_or ls i d ≡ Quote k → ⊥) → SaidTo text ls ss (i + 1) said
one_skipped text ls ss i said d e s lt mt other = record {
  then = λ more h.
      s.then more
      (subst (λ x. IsSaid text x (drop i ss) more) (sym (drop-cons ls i d lt))
      (subst (λ x. IsSaid text (get_or ls i d ∷ drop (suc i) ls) x more) (sym (drop-cons ss i e mt))
      (skipped text (get_or ls i d) (drop (suc i) ls) (get_or ss i e) (drop (suc i) ss) more other (subst (λ n. IsSaid text (drop n ls) (drop n ss) more) (add-one i) h))));
}

pub all_said : (text : List ℕ) (ls : List Lexeme) (ss : List Span) (i : ℕ) (said : List (List ℕ)) → SaidTo text ls ss i said → length ls ≤ i → length ss ≤ i → IsSaid text ls ss said
all_said text ls ss i said s le me =
    let end : IsSaid text (drop i ls) (drop i ss) [] = rw (drop_all i ls le, drop_all i ss me) refl in
    rw append-nil at (s.then [] end)

-- the literal of this number among the lexemes stands at the place of this number
pub stands_at : (text : List ℕ) (ls ms : List Lexeme) (ss : List Span) (i k : ℕ) (d : Lexeme) (s : Span) → Lexes 0 0 text ls ss → ms ≡ ls → i < length ms →
    get_or ms i d ≡ Quote k → s ≡ get_or ss i s → Stands text s
stands_at text ls ms ss i k d s h same lt literal place =
    let less : i < length ls = omega (arith, ap length same) in
    let pairs = paired 0 0 text ls ss h in
    let e = slice_get-get_or ls i d less ∙ ap (λ x. Some x) (ap (λ x. get_or x i d) (sym same) ∙ literal) in
    let f = slice_get-get_or ss i s (omega arith) ∙ ap (λ x. Some x) (sym place) in
    literal_stands text ls ss h i k s e f

-- one literal more, unquoted from its bytes
pub one_more : (text bytes : List ℕ) (ls ms : List Lexeme) (ss : List Span) (i k : ℕ) (said new : List (List ℕ)) (d : Lexeme) (s : Span) (v : List ℕ) → SaidTo text ls ss i said →
    Lexes 0 0 text ls ss → ms ≡ ls → i < length ms → get_or ms i d ≡ Quote k → s ≡ get_or ss i s → bytes ≡ bytes_at text s → ((w : List ℕ) → IsQuoted bytes w → v ≡ w) →
    new ≡ said ++ v ∷ [] → SaidTo text ls ss (i + 1) new
one_more text bytes ls ms ss i k said new d s v r h same lt literal place piece tells pushed =
    let less : i < length ls = omega (arith, ap length same) in
    let pairs = paired 0 0 text ls ss h in
    let there = quoted_there text s (stands_at text ls ms ss i k d s h same lt literal place) in
    let reported = tells there.0 (subst (λ x. IsQuoted x there.0) (sym piece) there.1) in
    let quoted = subst (λ x. IsQuoted (bytes_at text s) x) (sym reported) there.1 in
    one_said text ls ss i k said new d s v r less (omega arith) (ap (λ x. get_or x i d) (sym same) ∙ literal) (subst (λ x. IsQuoted (bytes_at text x) v) place quoted) pushed

-- one lexeme more that is no literal
pub one_other : (text : List ℕ) (ls ms : List Lexeme) (ss : List Span) (i : ℕ) (said new : List (List ℕ)) (d : Lexeme) (e : Span) → SaidTo text ls ss i said → Lexes 0 0 text ls ss →
    ms ≡ ls → i < length ms → ((k : ℕ) → get_or ms i d ≡ Quote k → ⊥) → new ≡ said → SaidTo text ls ss (i + 1) new
one_other text ls ms ss i said new d e r h same lt other kept =
    let less : i < length ls = omega (arith, ap length same) in
    let pairs = paired 0 0 text ls ss h in
    subst (λ x. SaidTo text ls ss (i + 1) x) (sym kept) (one_skipped text ls ss i said d e r less (omega arith) (λ k q. other k (ap (λ x. get_or x i d) same ∙ q)))

-- a text says one thing

pub one_quoted : (bytes s t : List ℕ) → IsQuoted bytes s → IsQuoted bytes t → s ≡ t
one_quoted [] s t (q, quote, parts) y = cc (parts)
one_quoted (c ∷ rest) s t x y = sym (says_that c rest (said_of c false rest) s refl x) ∙ says_that c rest (said_of c false rest) t refl y

same_said : (text : List ℕ) (ls : List Lexeme) (ss : List Span) (said reported : List (List ℕ)) → IsSaid text ls ss said → IsSaid text ls ss reported → said ≡ reported
same_said text [] [] said reported x y = x ∙ sym y
same_said text [] (s ∷ ss) said reported x y = absurd x
same_said text (Quote k ∷ ls) [] said reported x y = absurd x
same_said text (Quote k ∷ ls) (s ∷ ss) [] reported x y = absurd x
same_said text (Quote k ∷ ls) (s ∷ ss) (w ∷ said) [] x y = absurd y
same_said text (Quote k ∷ ls) (s ∷ ss) (w ∷ said) (v ∷ reported) x y =
    let first = one_quoted (bytes_at text s) w v x.0 y.0 in
    let others = same_said text ls ss said reported x.1 y.1 in
    cc (first, others)
same_said text (l ∷ ls) [] said reported x y = absurd x
same_said text (l ∷ ls) (s ∷ ss) said reported x y = same_said text ls ss said reported x y

pub one_saying : (text : List ℕ) (t u : Tree) (es fs : List (Test Literal)) (said reported : List (List ℕ)) → Says text t es said → Says text u fs reported → (t ≡ u) × (es ≡ fs) × (said ≡ reported)
one_saying text t u es fs said reported (ls, ss, read, literals) (ms, ts, again, others) =
    let lexed = one_lexing text ls ms ss ts read.1.0.1 again.1.0.1 in
    let same = one_derivation read.0 again.0 (read.1.1 ∙ lexed.0 ∙ sym again.1.1) in
    let here = subst (λ x. IsSaid text ms x said) lexed.1 (subst (λ x. IsSaid text x ss said) lexed.0 literals) in
    (sym read.2 ∙ ap query_tree same ∙ again.2, sym read.3 ∙ ap query_tests same ∙ again.3, same_said text ms ts said reported here others)
