-- Any text is a query, or a fault is told of it.
use Rattle.std.proofs.Common.{◌≡◌, ◌⊎◌, ℕ, ◌+◌, ◌≤◌, List, [], ◌∷◌, length, map, refl, sym, ap, subst, inl, inr, arith}
use Rattle.std.proofs.lemmas.List.{length-map}
use Rattle.tb_match.specs.declared.pattern.Pat.{Pat}
use Rattle.tb_match.specs.Trees.{Tree, tree}
use Rattle.tb_match.specs.Weight.{Fits}
use Rattle.tb_syntax.specs.declared.fault.Fault.{Fault}
use Rattle.tb_syntax.specs.declared.fault.Fault.TheVariants as fault
use Rattle.tb_syntax.specs.declared.lexeme.Flag.{Flag}
use Rattle.tb_syntax.specs.declared.expr.Literal.{Literal}
use Rattle.tb_syntax.specs.Tests.{Test, literals_of}
use Rattle.tb_syntax.specs.Reading as syntax
use Rattle.tb_syntax.specs.Saying.{Says}
use Rattle.tb_literal.specs.Literals.{PlainLit, IsAccepted}
use Rattle.tb_query.specs.declared.fault.QueryFault.{QueryFault}
use Rattle.tb_query.specs.declared.fault.QueryFault.TheVariants.{TooLong, Syntax, TooMany, TooDeep, Repeat, Pattern, Memory}
use Rattle.tb_query.specs.Reading.{with_texts, AreAccepted, IsFirstRefused, IsQuery, IsFault}
use Rattle.tb_query.specs.Search.{Asked, IsSearchable}

-- the text is a query that can be searched for, with a pattern of the matcher's, or a fault is told of it that is not want of memory
abbrev Asks : List ℕ → Type 0
Asks text = (q : Asked) × (p : Pat) × (tree p ≡ q.pat) × IsQuery text q × IsSearchable q

abbrev HasFault : List ℕ → Type 0
HasFault text = (e : QueryFault) × (e ≡ Memory → ⊥) × IsFault text e

-- a fault of the language is one of the query
of_language : (text : List ℕ) (e : Fault) → (e ≡ fault.Memory → ⊥) → syntax.IsFault text e → HasFault text
of_language text fault.TooLong not x = (TooLong, (λ same. cc (same)), x)
of_language text (fault.Syntax b) not x = (Syntax b, (λ same. cc (same)), x)
of_language text fault.TooMany not x = (TooMany, (λ same. cc (same)), x)
of_language text fault.TooDeep not x = (TooDeep, (λ same. cc (same)), x)
of_language text fault.Repeat not x = (Repeat, (λ same. cc (same)), x)
of_language text fault.Memory not x = absurd (not refl)

-- the first of the literals that is refused, after one that is accepted
one_later : (l : PlainLit) (ls : List PlainLit) (k : ℕ) → IsAccepted l.flag l.text → IsFirstRefused ls k → IsFirstRefused (l ∷ ls) (k + 1)
one_later l ls k good (before, m, after, parts, number, those, bad) = (l ∷ before, m, after, ap (λ xs. l ∷ xs) parts, omega arith, (good, those), bad)

module _ (decided : (flag : Flag) (text : List ℕ) → IsAccepted flag text ⊎ (IsAccepted flag text → ⊥)) where
  -- all literals are accepted, or one of them is the first that is refused
  all_or_first : (ls : List PlainLit) → AreAccepted ls ⊎ ((k : ℕ) × IsFirstRefused ls k)
  all_or_first [] = inl tt
  all_or_first (l ∷ ls) =
      elim (decided l.flag l.text) [
        | inr bad ↦ inr (1, ([], l, ls, refl, refl, tt, bad))
        | inl good ↦ elim (all_or_first ls) [
          | inl others ↦ inl (good, others)
          | inr (k, first) ↦ inr (k + 1, one_later l ls k good first)
        ]
      ]

  module _
      (searchable : (text : List ℕ) (t : Tree) (es : List (Test Literal)) (said : List (List ℕ)) → Says text t es said → Fits (length es) t × (length es ≤ 32))
      (made : (exprs : ℕ) (t : Tree) → exprs ≤ 65536 → Fits exprs t → (p : Pat) × (tree p ≡ t)) where
    asked : (text : List ℕ) (t : Tree) (es : List (Test Literal)) (said : List (List ℕ)) → Says text t es said → AreAccepted (literals_of (map (with_texts said) es)) → Asks text
    asked text t es said says good =
        let size = length-map es (with_texts said) in
        let (fits, few) = searchable text t es said says in
        let (p, same) = made (length es) t (omega arith) fits in
        (record { pat = t; tests = map (with_texts said) es }, p, same, ((es, said, says, refl), good), (subst (λ n. Fits n t) (sym size) fits, omega arith))

    of_saying : (text : List ℕ) (t : Tree) (es : List (Test Literal)) (said : List (List ℕ)) → Says text t es said → Asks text ⊎ HasFault text
    of_saying text t es said says =
        elim (all_or_first (literals_of (map (with_texts said) es))) [
          | inl good ↦ inl (asked text t es said says good)
          | inr (k, first) ↦ inr (Pattern k, (λ same. cc (same)), (t, map (with_texts said) es, (es, said, says, refl), first))
        ]

    pub reported : (text : List ℕ) →
        ((t : Tree) × (es : List (Test Literal)) × (said : List (List ℕ)) × Says text t es said) ⊎ ((e : Fault) × (e ≡ fault.Memory → ⊥) × syntax.IsFault text e) →
        Asks text ⊎ HasFault text
    reported text (inl (t, es, said, says)) = of_saying text t es said says
    reported text (inr (e, not, x)) = inr (of_language text e not x)
