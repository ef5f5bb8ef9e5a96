-- The tree that a pattern in memory stands for, by its variants, and the parts of a pattern one after the other.
use Rattle.std.proofs.Common.{◌≡◌, ◌+◌, ◌<◌, ◌≤◌, ◌≢◌, ℕ, zero, suc, arith, Option, Some, None, List, [], ◌∷◌, Bool, true, false, not, refl, inl, inr, Vec, Box, Global, length, get_or, drop, sym, ap, ◌∙◌}
use Rattle.std.proofs.lemmas.List.{at_drop_more}
use Rattle.std.proofs.lemmas.Bool.{false≢true, true≢false}
use Rattle.std.proofs.Math.Bool.{beq}
use Rattle.tb_match.specs.declared.pattern.Pat.{Pat, Tok, Cat, Alt, Rep}
use Rattle.tb_match.specs.declared.pattern.Pat.TheOpen.{Pat-F}
use Rattle.tb_match.specs.declared.pattern.Pat.TheFolds.{fold-roll-Pat}
use Rattle.tb_match.specs.declared.pattern.Pat.TheVariants.{rolls-Tok, rolls-Cat, rolls-Alt, rolls-Rep}
use Rattle.tb_match.specs.Facts.{Facts}
use Rattle.tb_match.specs.Match.{Match}
use Rattle.tb_match.specs.Possible.{AllMayMatch, MayMatch, PartsMatch, PartsMayMatch}
use Rattle.tb_match.specs.Trees.{Tree, Forest, and_more, tok, cat, alt, rep, tree, tree_step, trees}
use Rattle.tb_match.specs.Weight.{turns, weight_of_all}

module _ (p : Pat) where
  pub is_tok : (e : ℕ) → p ≡ Tok e → tree p ≡ tok e
  is_tok e is = ap tree (is ∙ sym (rolls-Tok e)) ∙ fold-roll-Pat Tree tree_step (Pat-F.Tok e)

  pub is_cat : (parts : Vec Pat Global) (shown : List Pat) → p ≡ Cat parts → shown ≡ parts.items → tree p ≡ cat (trees shown)
  is_cat parts shown is same = ap tree (is ∙ sym (rolls-Cat parts)) ∙ fold-roll-Pat Tree tree_step (Pat-F.Cat parts) ∙ ap (λ ps. cat (trees ps)) (sym same)

  pub is_alt : (parts : Vec Pat Global) (shown : List Pat) → p ≡ Alt parts → shown ≡ parts.items → tree p ≡ alt (trees shown)
  is_alt parts shown is same = ap tree (is ∙ sym (rolls-Alt parts)) ∙ fold-roll-Pat Tree tree_step (Pat-F.Alt parts) ∙ ap (λ ps. alt (trees ps)) (sym same)

  pub is_rep : (inner : Box Pat Global) (shown : Pat) (a : ℕ) (b : Option ℕ) → p ≡ Rep inner a b → shown ≡ inner.value → tree p ≡ rep (tree shown) a b
  is_rep inner shown a b is same = ap tree (is ∙ sym (rolls-Rep inner a b)) ∙ fold-roll-Pat Tree tree_step (Pat-F.Rep inner a b) ∙ ap (λ q. rep (tree q) a b) (sym same)

-- the part at an index, and those after it
module _ (ps : List Pat) (k : ℕ) (p : Pat) (inside : k < length ps) (at : p ≡ get_or ps k p) where
  pub next_part : {Y : Type 0} → (F : Forest → Y) → F (trees (drop k ps)) ≡ F (trees (p ∷ drop (k + 1) ps))
  next_part F = at_drop_more (λ qs. F (trees qs)) ps k p inside ∙ ap (λ q. F (trees (q ∷ drop (k + 1) ps))) (sym at)

-- a repetition that must have a link has a first one
pub first_link : (H : ℕ → ℕ → Type 0) (p : Tree) (a : ℕ) (b : Option ℕ) (i j : ℕ) → a ≢ 0 → Match H (rep p a b) i j → (m : ℕ) × Match H p i m
first_link H p a b i j some (zero, least, _, _) = absurd (some (omega arith))
first_link H p a b i j some (suc k, _, _, (m, link, _)) = (m, link)

pub weight_ahead : (ps : List Pat) (k : ℕ) → weight_of_all (trees (drop k ps)) ≤ weight_of_all (trees ps)
weight_ahead [] zero = omega arith
weight_ahead [] (suc k) = omega arith
weight_ahead (p ∷ ps) zero = omega arith
weight_ahead (p ∷ ps) (suc k) = omega (arith, weight_ahead ps k)

pub turns_some : (a : ℕ) (b : Option ℕ) → 1 ≤ turns a b
turns_some a None = omega arith
turns_some a (Some b) = omega arith

-- no part is left, so all that are left may match
pub none_left : (t : Facts) (ps : List Pat) (k : ℕ) → length ps ≤ k → AllMayMatch t (trees (drop k ps))
none_left t [] zero le = tt
none_left t [] (suc k) le = tt
none_left t (p ∷ ps) zero le = absurd (omega (arith, le))
none_left t (p ∷ ps) (suc k) le = none_left t ps k (omega (arith, le))

-- ---- all of the parts, or some one part: one that does not decide, one that does, and none that is left

module _ (t : Facts) (p : Tree) (left : Forest) where
  pub on_may : (all may : Bool) → not (beq may all) ≡ false → (may ≡ true → MayMatch t p) → PartsMayMatch all t left → PartsMayMatch all t (and_more p left)
  on_may true true same known rest = (known refl, rest)
  on_may true false same known rest = absurd (true≢false same)
  on_may false true same known rest = absurd (true≢false same)
  on_may false false same known rest = inr rest

  pub decided_may : (all may : Bool) → not (beq may all) ≡ true → may ≡ true → MayMatch t p → PartsMayMatch all t (and_more p left)
  decided_may true true other is known = absurd (false≢true other)
  decided_may true false other is known = absurd (false≢true is)
  decided_may false may other is known = inl known

module _ (H : ℕ → ℕ → Type 0) (p : Tree) (left : Forest) where
  pub on_match : (all may : Bool) → not (beq may all) ≡ false → (may ≡ false → (i j : ℕ) → Match H p i j → ⊥) → (i j : ℕ) → PartsMatch all H (and_more p left) i j → (m : ℕ) × PartsMatch all H left m j
  on_match true may same none i j (m, here, rest) = (m, rest)
  on_match false true same none i j h = absurd (true≢false same)
  on_match false false same none i j (inl here) = absurd (none refl i j here)
  on_match false false same none i j (inr rest) = (i, rest)

  pub decided_none : (all may : Bool) → not (beq may all) ≡ true → may ≡ false → ((i j : ℕ) → Match H p i j → ⊥) → (i j : ℕ) → PartsMatch all H (and_more p left) i j → ⊥
  decided_none true may other is none i j (m, here, rest) = none i m here
  decided_none false true other is none i j h = absurd (true≢false is)
  decided_none false false other is none i j h = absurd (false≢true other)

pub all_left : (t : Facts) (ps : List Pat) (k : ℕ) (all : Bool) → all ≡ true → length ps ≤ k → PartsMayMatch all t (trees (drop k ps))
all_left t ps k true is le = none_left t ps k le
all_left t ps k false is le = absurd (false≢true is)

pub no_part_left : (H : ℕ → ℕ → Type 0) (ps : List Pat) (k : ℕ) (all : Bool) → all ≡ false → length ps ≤ k → (i j : ℕ) → PartsMatch all H (trees (drop k ps)) i j → ⊥
no_part_left H ps k true is le i j h = absurd (true≢false is)
no_part_left H [] zero false is le i j h = h
no_part_left H [] (suc k) false is le i j h = h
no_part_left H (p ∷ ps) zero false is le i j h = absurd (omega (arith, le))
no_part_left H (p ∷ ps) (suc k) false is le i j h = no_part_left H ps k false is (omega (arith, le)) i j h
