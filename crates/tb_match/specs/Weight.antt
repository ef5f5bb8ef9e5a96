-- The weight of a pattern, and which patterns are within the limits.
use Rattle.std.specs.Prelude.{ℕ, ◌+◌, ◌<◌, ◌≤◌, Option, Some, None}
use Rattle.std.specs.Coded.{le_prop}
use Rattle.tb_match.specs.Trees.{Tree, tok, cat, alt, rep, Forest, no_more, and_more}

-- what a repetition adds to the weight of the repeated pattern
abbrev pub turns : ℕ → Option ℕ → ℕ
turns a None = a + 2
turns a (Some b) = b + 1

abbrev mutual
  pub weight_of : Tree → ℕ
  weight_of (tok e) = 1
  weight_of (cat parts) = weight_of_all parts
  weight_of (alt parts) = weight_of_all parts
  weight_of (rep t a b) = weight_of t + turns a b

  -- the weights of the parts, and one more for each part
  pub weight_of_all : Forest → ℕ
  weight_of_all no_more = 0
  weight_of_all (and_more t rest) = weight_of t + 1 + weight_of_all rest

-- the numbers of a repetition: both at most 32, and the greatest at least 1 and not below the least
abbrev pub IsBetween : ℕ → Option ℕ → Type 0
IsBetween a None = a ≤ 32
IsBetween a (Some b) = (a ≤ 32) × (a ≤ b) × (1 ≤ b) × (b ≤ 32)

-- it has at most one proof, so that a value may keep it
pub IsBetween-prop : (a : ℕ) (b : Option ℕ) → IsProp (IsBetween a b)
IsBetween-prop a None p q = le_prop p q
IsBetween-prop a (Some b) p q = λ i. (le_prop p.0 q.0 i, le_prop p.1 q.1 i, le_prop p.2 q.2 i, le_prop p.3 q.3 i)

abbrev mutual
  -- each expression is one of the first `exprs`, and each repetition has numbers within the limits
  pub IsProper : ℕ → Tree → Type 0
  IsProper exprs (tok e) = e < exprs
  IsProper exprs (cat parts) = AllProper exprs parts
  IsProper exprs (alt parts) = AllProper exprs parts
  IsProper exprs (rep t a b) = IsBetween a b × IsProper exprs t

  pub AllProper : ℕ → Forest → Type 0
  AllProper exprs no_more = Unit {0}
  AllProper exprs (and_more t rest) = IsProper exprs t × AllProper exprs rest

-- the pattern can be searched for in a table of this many expressions
abbrev pub Fits : ℕ → Tree → Type 0
Fits exprs t = IsProper exprs t × (weight_of t ≤ 1000000)
