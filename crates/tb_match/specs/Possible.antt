-- Between crates: no contract of a front door cites a definition of this module.
-- Whether a pattern may match at all, by its words alone: whether each word that all of its matches need is in the
-- sentence.
use Rattle.std.specs.Prelude.{◌≡◌, ℕ, ◌⊎◌, Bool, true, false}
use Rattle.tb_match.specs.Facts.{Facts, Holds}
use Rattle.tb_match.specs.Match.{AnyOf, EachInTurn}
use Rattle.tb_match.specs.Trees.{Tree, tok, cat, alt, rep, Forest, no_more, and_more}

abbrev mutual
  -- every word that the pattern needs is somewhere
  pub MayMatch : Facts → Tree → Type 0
  MayMatch t (tok e) = (w : ℕ) × Holds t e w
  MayMatch t (cat parts) = AllMayMatch t parts
  MayMatch t (alt parts) = AnyMayMatch t parts
  MayMatch t (rep p least most) = (least ≡ 0) ⊎ MayMatch t p

  -- every word that one of the parts needs
  pub AllMayMatch : Facts → Forest → Type 0
  AllMayMatch t no_more = Unit {0}
  AllMayMatch t (and_more p rest) = MayMatch t p × AllMayMatch t rest

  -- every word that some one part needs
  pub AnyMayMatch : Facts → Forest → Type 0
  AnyMayMatch t no_more = ⊥
  AnyMayMatch t (and_more p rest) = MayMatch t p ⊎ AnyMayMatch t rest

-- every word that all of the parts need, or that some one part does
abbrev pub PartsMayMatch : Bool → Facts → Forest → Type 0
PartsMayMatch true t parts = AllMayMatch t parts
PartsMayMatch false t parts = AnyMayMatch t parts

-- all of the parts match one after the other, or some one part does
abbrev pub PartsMatch : Bool → (ℕ → ℕ → Type 0) → Forest → ℕ → ℕ → Type 0
PartsMatch true holds parts i j = EachInTurn holds parts i j
PartsMatch false holds parts i j = AnyOf holds parts i j
