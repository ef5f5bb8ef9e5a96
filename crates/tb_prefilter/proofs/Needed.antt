-- What each match of a pattern needs.
use Rattle.std.proofs.Common.{◌≡◌, ◌-◌, ℕ, zero, suc, List, [], true, Some, sym, ap, ◌∙◌, subst, inl, inr, arith, slice_get, if◌then◌else◌}
use Rattle.std.proofs.lemmas.Bool.{cases_Bool, false≢true, eqb-true}
use Rattle.tb_conllu.specs.Words.{is_word}
use Rattle.tb_match.specs.Match.{Match, EachInTurn}
use Rattle.tb_match.specs.Trees.{Tree, tok, cat, alt, rep, Forest, no_more, and_more}
use Rattle.tb_match.specs.declared.strategy.Strategy.{Strategy}
use Rattle.tb_match.specs.declared.strategy.Strategy.TheVariants.{Shortest, Longest, Every}
use Rattle.tb_match.specs.Hits.{AreHits, IsHit}
use Rattle.tb_match.proofs.Parts.{first_link}
use Rattle.tb_literal.specs.Literals.{PlainLit}
use Rattle.tb_syntax.specs.Tests.{Test}
use Rattle.tb_query.specs.Meaning.{word_rows, HoldsOf, holds}
use Rattle.tb_query.specs.Search.{Asked}
use Rattle.tb_prefilter.specs.Needed.{Requires, IsNeeded, needs, some_needs}
use Rattle.tb_prefilter.proofs.Substrings.{one_of, row_shaped, is_in_text}

module _ (H : ℕ → ℕ → Type 0) (e : ℕ) where
  mutual
    pub needed : (p : Tree) → needs p e ≡ true → (i j : ℕ) → Match H p i j → (w : ℕ) × H e w
    needed (tok n) is i j (one, held) = (j, subst (λ m. H m j) (eqb-true n e is) held)
    needed (cat parts) is i j m = needed_in_turn parts is i j m
    needed (alt parts) is i j m = absurd (false≢true is)
    needed (rep p zero b) is i j m = absurd (false≢true is)
    needed (rep p (suc a) b) is i j m =
        let (k, link) = first_link H p (suc a) b i j (λ z. absurd (omega (arith, z))) m in needed p is i k link

    needed_in_turn : (parts : Forest) → some_needs parts e ≡ true → (i j : ℕ) → EachInTurn H parts i j → (w : ℕ) × H e w
    needed_in_turn no_more is i j m = absurd (false≢true is)
    needed_in_turn (and_more p rest) is i j (k, first, others) =
        elim (cases_Bool (needs p e)) [
          | inl hit ↦ needed p hit i k first
          | inr miss ↦ needed_in_turn rest (sym (ap (λ b. if b then true else some_needs rest e) miss) ∙ is) k j others
        ]

pub is_needed_by : (q : Asked) (e : ℕ) (t : Test PlainLit) (needle : List ℕ) → slice_get q.tests e ≡ Some t → needs q.pat e ≡ true → Requires t needle → IsNeeded q needle
is_needed_by q e t needle at is required = record {
  there = λ b shaped i j found.
      let (w, (u, r, there, least, word, held)) = needed (HoldsOf q.tests (word_rows b)) e q.pat is i j found.2 in
      let same : u ≡ t = cc in
      let (m, place) = one_of is_word b.rows r (w - 1) word in
      is_in_text needle b m r place (required.there r (row_shaped b.rows m r shaped place) (ap (λ v. holds v r) (sym same) ∙ held));
}

-- where nothing is found, no hit is listed
pub none_found : (s : Strategy) (R : ℕ → ℕ → Type 0) → ((i j : ℕ) → R i j → ⊥) → AreHits s R []
none_found s R none = (λ i j d lt inside. absurd (omega (arith, inside)), λ i j. (λ c. absurd (omega (arith, c.1)), λ hit. absurd (none i j (found s i j hit))))
  where
    found : (t : Strategy) (i j : ℕ) → IsHit t R i j → R i j
    found Shortest i j hit = hit.0
    found Longest i j hit = hit.0
    found Every i j hit = hit
