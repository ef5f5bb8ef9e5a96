-- The broken rules of a sentence, one rule after another.
use Rattle.std.proofs.Common.{◌≡◌, inl, inr, ℕ, List, [], ◌∷◌, ◌++◌, ◌∙◌, refl, ap, ◌+◌, ◌<◌, length, map, take, get_or, Option, Some, None, Bool}
use Rattle.std.proofs.lemmas.List.{map-append, take_more}
use Rattle.std.specs.Prelude.{◌↔◌, IfOk, IsTrue, MatchOption, Result, Ok, Err}
use Rattle.tb_conllu.specs.Text.{BlockText, RowText}
use Rattle.tb_rules.specs.Broken.{AreBrokenOf, IsAsked, IsBrokenAt, rule_of}
use Rattle.tb_rules.specs.Rows.{RowTest, EachRowPasses, IsFirstFault}
use Rattle.tb_rules.specs.Rules.{Rule, number, Keeps}
use Rattle.tb_rules.specs.declared.breaking.BrokenRule.{BrokenRule}
use Rattle.tb_rules.specs.declared.rule.Rule as named
use Rattle.tb_rules.proofs.Kept.{passes}

-- the next rule is kept, or it is not asked
pub next_kept : (rs : List Rule) (r : Rule) (b : BlockText) (faults : List BrokenRule) → AreBrokenOf rs b faults → (IsAsked r b → Keeps r b) → AreBrokenOf (rs ++ r ∷ []) b faults
next_kept [] r b faults h k = inl (k, h)
next_kept (q ∷ rs) r b faults (inl h) k = inl (h.0, next_kept rs r b faults h.1 k)
next_kept (q ∷ rs) r b faults (inr h) k = inr (h.0, h.1, h.2, h.3, h.4, next_kept rs r b h.1 h.5 k)

-- the next rule is broken
pub next_broken : (rs : List Rule) (r : Rule) (b : BlockText) (faults : List BrokenRule) (row : ℕ) → AreBrokenOf rs b faults → IsAsked r b → IsBrokenAt r b row
    → AreBrokenOf (rs ++ r ∷ []) b (faults ++ record { rule = number r; row = row } ∷ [])
next_broken [] r b faults row h asked broken = inr (row, [], asked, broken, ap (λ (l : List BrokenRule). l ++ record { rule = number r; row = row } ∷ []) h, refl)
next_broken (q ∷ rs) r b faults row (inl h) asked broken = inl (h.0, next_broken rs r b faults row h.1 asked broken)
next_broken (q ∷ rs) r b faults row (inr h) asked broken =
    let last : List BrokenRule = record { rule = number r; row = row } ∷ [] in
    inr (h.0, h.1 ++ last, h.2, h.3, ap (λ (l : List BrokenRule). l ++ last) h.4, next_broken rs r b h.1 row h.5 asked broken)

-- the rules so far, with the next one
pub more_rules : (rules : List named.Rule) (i : ℕ) (d : named.Rule) → i < length rules → map rule_of (take (i + 1) rules) ≡ map rule_of (take i rules) ++ rule_of (get_or rules i d) ∷ []
more_rules rules i d l = ap (map rule_of) (take_more rules i d l) ∙ map-append rule_of (take i rules) (get_or rules i d ∷ [])

-- of a rule of rows
pub row_broken : (test : RowTest) (rs : List RowText) (found : Option ℕ) → MatchOption found (EachRowPasses test rs) (IsFirstFault test rs)
    → MatchOption found (EachRowPasses test rs) (λ row. (EachRowPasses test rs → ⊥) × IsFirstFault test rs row)
row_broken test rs None h = h
row_broken test rs (Some row) h = (λ k. passes test rs row h k, h)

pub rows_broken : {E : Type 0} (test : RowTest) (rs : List RowText) (found : Result (Option ℕ) E) → IfOk found (λ r. MatchOption r (EachRowPasses test rs) (IsFirstFault test rs))
    → IfOk found (λ r. MatchOption r (EachRowPasses test rs) (λ row. (EachRowPasses test rs → ⊥) × IsFirstFault test rs row))
rows_broken test rs (Ok found) h = row_broken test rs found h
rows_broken test rs (Err e) h = tt

-- of a rule of whole sentences
pub whole_broken : (P : Type 0) (kept : Bool) (found : Option ℕ) → IsTrue kept ↔ P → MatchOption found (IsTrue kept) (λ row. (IsTrue kept → ⊥) × (row ≡ 0))
    → MatchOption found P (λ row. (P → ⊥) × (row ≡ 0))
whole_broken P kept None h k = h.0 k
whole_broken P kept (Some row) h k = (λ p. k.0 (h.1 p), k.1)
