-- The first of the broken rules of a sentence is the one that is reported.
use Rattle.std.proofs.Common.{◌≡◌, inl, inr, ℕ, ◌+◌, List, [], ◌∷◌, ◌++◌, length, refl, subst, arith}
use Rattle.tb_conllu.specs.Text.{BlockText}
use Rattle.tb_rules.specs.Broken.{AreBroken, AreBrokenAfter, AreBrokenOf, IsAsked, every_rule}
use Rattle.tb_rules.specs.File.{HasNewName, IsBrokenAfter, IsFaultAt, IsValid, broken, name_twice}
use Rattle.tb_rules.specs.Rules.{Rule, sent_id, text, ids, words, spans, nodes, features, dependencies, one_root, tree, restored, number, KeepsTo, KeepsRules, IsBroken}
use Rattle.tb_rules.specs.declared.breaking.BrokenRule.{BrokenRule}
use Rattle.tb_rules.proofs.ByNumber.{all_kept, broken_next, none_yet, one_kept}
use Rattle.tb_rules.proofs.Valid.{valid_next}

-- a rule is asked where those before it are kept
asked : (b : BlockText) (r : Rule) (n : ℕ) → number r ≡ n + 1 → KeepsTo n b → IsAsked r b
asked b sent_id n e h = tt
asked b text n e h = tt
asked b ids n e h = tt
asked b words n e h = tt
asked b spans n e h = tt
asked b nodes n e h = tt
asked b features n e h = tt
asked b dependencies n e h = h ids (omega (arith, e))
asked b one_root n e h = tt
asked b tree n e h = h ids (omega (arith, e))
asked b restored n e h = (h text (omega (arith, e)), h ids (omega (arith, e)))

-- the numbers of the rules follow n, one after another
AreNumbered : ℕ → List Rule → Type 0
AreNumbered n [] = Unit {0}
AreNumbered n (r ∷ rs) = (number r ≡ n + 1) × AreNumbered (n + 1) rs

every_numbered : AreNumbered 0 every_rule
unfolding AreNumbered
every_numbered = (refl, (refl, (refl, (refl, (refl, (refl, (refl, (refl, (refl, (refl, (refl, tt)))))))))))

none_of : (n : ℕ) (rs : List Rule) (b : BlockText) → AreNumbered n rs → KeepsTo n b → AreBrokenOf rs b [] → KeepsTo (n + length rs) b
unfolding AreNumbered
none_of n [] b e h k = let same : n ≡ n + 0 = omega arith in subst (λ m. KeepsTo m b) same h
none_of n (r ∷ rs) b e h (inl k) =
    let next = one_kept b r n e.0 h (k.0 (asked b r n e.0 h)) in
    let same : (n + 1) + length rs ≡ n + length (r ∷ rs) = omega arith in
    subst (λ m. KeepsTo m b) same (none_of (n + 1) rs b e.1 next k.1)
none_of n (r ∷ rs) b e h (inr k) = absurd (let none = k.4 in cc)

first_of : (n : ℕ) (rs : List Rule) (b : BlockText) (x : BrokenRule) (more : List BrokenRule) → AreNumbered n rs → KeepsTo n b → AreBrokenOf rs b (x ∷ more) → IsBroken b x.rule x.row
unfolding AreNumbered
first_of n [] b x more e h k = absurd (let none : x ∷ more ≡ [] = k in cc)
first_of n (r ∷ rs) b x more e h (inl k) = first_of (n + 1) rs b x more e.1 (one_kept b r n e.0 h (k.0 (asked b r n e.0 h))) k.1
first_of n (r ∷ rs) b x more e h (inr k) =
    let all : x ∷ more ≡ record { rule = number r; row = k.0 } ∷ k.1 = k.4 in
    let same : record { rule = number r; row = k.0 } ≡ x = cc in
    subst (λ (y : BrokenRule). IsBroken b y.rule y.row) same (broken_next b r n k.0 e.0 h k.3.0 k.3.1)

pub none_broken : (b : BlockText) → AreBroken b [] → KeepsRules b
none_broken b h = all_kept b (none_of 0 every_rule b every_numbered (none_yet b) h)

pub first_broken : (b : BlockText) (x : BrokenRule) (more : List BrokenRule) → AreBroken b (x ∷ more) → IsBroken b x.rule x.row
first_broken b x more h = first_of 0 every_rule b x more every_numbered (none_yet b) h

-- ---- after other sentences

no_last : (own : List BrokenRule) (x : BrokenRule) → [] ≡ own ++ x ∷ [] → ⊥
no_last [] x e = cc
no_last (y ∷ own) x e = cc

pub none_broken_after : (before : List BlockText) (b : BlockText) → IsValid before → AreBrokenAfter before b [] → IsValid (before ++ b ∷ [])
none_broken_after before b v (inl h) = valid_next before b v (none_broken b h.1) h.0
none_broken_after before b v (inr h) = absurd (no_last h.0 _ h.2)

first_or_last : (before : List BlockText) (b : BlockText) (own : List BrokenRule) (x : BrokenRule) (more : List BrokenRule) → (HasNewName before b → ⊥)
    → x ∷ more ≡ own ++ record { rule = 12; row = 0 } ∷ [] → AreBroken b own → IsBrokenAfter before b x.rule x.row
first_or_last before b [] x more twice e h =
    let same : record { rule = 12; row = 0 } ≡ x = cc in
    subst (λ (y : BrokenRule). IsBrokenAfter before b y.rule y.row) same (name_twice (none_broken b h) twice)
first_or_last before b (y ∷ own) x more twice e h =
    let same : y ≡ x = cc in
    subst (λ (z : BrokenRule). IsBrokenAfter before b z.rule z.row) same (broken y.rule y.row (first_broken b y own h))

first_after : (before : List BlockText) (b : BlockText) (x : BrokenRule) (more : List BrokenRule) → AreBrokenAfter before b (x ∷ more) → IsBrokenAfter before b x.rule x.row
first_after before b x more (inl h) = broken x.rule x.row (first_broken b x more h.1)
first_after before b x more (inr h) = first_or_last before b h.0 x more h.1 h.2 h.3

pub first_at : (before : List BlockText) (b : BlockText) (after : List BlockText) (x : BrokenRule) (more : List BrokenRule) → IsValid before → AreBrokenAfter before b (x ∷ more)
    → IsFaultAt (before ++ b ∷ after) (length before + 1) x.rule x.row
first_at before b after x more v h = record {
  before = before;
  reported = b;
  after = after;
  whole = refl;
  counted = refl;
  valid = v;
  fault = first_after before b x more h;
}
